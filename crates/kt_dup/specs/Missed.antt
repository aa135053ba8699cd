-- The changes that went to an input alone.
use Rattle.std.specs.Prelude.{ℕ, ◌<◌, Bool, true, List, [], ◌∷◌, Option, Some, None, map, length, get_or, nat_lt}
use Rattle.std.specs.List.{All, filter, flat_map}
use Rattle.kt_history.specs.declared.change.Change.TheVariants.{Del}
use Rattle.kt_history.specs.declared.changes.KeyChange.{KeyChange}
use Rattle.kt_history.specs.Stores.{Steps, Store, hist_in, key_change}
use Rattle.kt_histlaws.specs.Fitting.{steps_above}

-- the changes of all rows above a time, by rising key, and those of one key as they were made
abbrev pub changes_over : ℕ → Store → List KeyChange
changes_over above store = flat_map (λ row. map (key_change row.0) (steps_above above row.1.steps)) store

-- the time of the first change
abbrev pub first_time : Steps → Option ℕ
first_time [] = None
first_time (c ∷ steps) = Some c.0

-- of changes in their order, that of the first one above a time
abbrev pub first_above : ℕ → Steps → Option ℕ
first_above above steps = first_time (steps_above above steps)

-- a time is below another, or there is no other
abbrev pub is_before : ℕ → Option ℕ → Bool
is_before ts None = true
is_before ts (Some other) = nat_lt ts other

-- of one key, the changes of an input above the bound that lie before the first one there that its output has
abbrev pub missed_of : ℕ → Steps → Steps → Steps
missed_of bound ins outs = filter (λ c. is_before c.0 (first_above bound outs)) (steps_above bound ins)

-- whether a change of an input is one of these
abbrev pub is_missed : ℕ → Store → KeyChange → Bool
is_missed bound outs c = is_before c.ts (first_above bound (hist_in c.key outs).steps)

-- and of all keys
abbrev pub missed_in : ℕ → Store → Store → List KeyChange
missed_in bound ins outs = filter (is_missed bound outs) (changes_over bound ins)

-- what is missed of each key, by rising key
abbrev pub listed : (List ℕ → Steps) → Store → List KeyChange
listed missed store = flat_map (λ row. map (key_change row.0) (missed row.0)) store

-- what is read where a list has no change
abbrev pub no_change : KeyChange
no_change = record { key = []; ts = 0; change = Del }

-- the changes of a list at these places
abbrev pub picked : List KeyChange → List ℕ → List KeyChange
picked changes places = map (λ at. get_or changes at no_change) places

-- and it has one at each of them
abbrev pub AreInside : List KeyChange → List ℕ → Type 0
AreInside changes places = All (λ at. at < length changes) places
