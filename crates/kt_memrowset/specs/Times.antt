-- Which changes are listed.
use Rattle.std.specs.Prelude.{ℕ, Bool, List, map, nat_le, nat_lt}
use Rattle.std.specs.List.{filter, flat_map}
use Rattle.kt_history.specs.declared.change.Change.{Change}
use Rattle.kt_history.specs.declared.changes.KeyChange.{KeyChange}
use Rattle.kt_history.specs.Stores.{Steps, Store, key_change}
use Rattle.kt_histlaws.specs.Fitting.{steps_above}
use Rattle.kt_memrowset.specs.declared.times.Times.{Times}
use Rattle.kt_memrowset.specs.declared.times.Times.TheVariants.{UpTo, Above}

-- whether a time is one of these
abbrev pub in_times : Times → ℕ → Bool
in_times (UpTo time) ts = nat_le ts time
in_times (Above time) ts = nat_lt time ts

-- the changes of a key's row at these times, as they were made
abbrev pub changes_of : Times → List ℕ → Steps → List KeyChange
changes_of times key steps = map (key_change key) (filter (λ (c : ℕ × Change). in_times times c.0) steps)

-- the changes of all rows at these times, by rising key
abbrev pub changes_in : Times → Store → List KeyChange
changes_in times store = flat_map (λ row. changes_of times row.0 row.1.steps) store

-- the changes of all rows above a time
abbrev pub changes_over : ℕ → Store → List KeyChange
changes_over above store = flat_map (λ row. map (key_change row.0) (steps_above above row.1.steps)) store
