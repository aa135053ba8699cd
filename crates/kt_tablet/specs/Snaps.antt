-- What a scan reads of a store: its changes up to a time.
use Rattle.std.specs.Prelude.{ℕ, Bool, true, not, ◌&&◌, List, [], ◌∷◌, map, Option, Some, None, if◌then◌else◌}
use Rattle.std.specs.List.{filter, list_all}
use Rattle.std.specs.Ordering.{is_gt, is_lt, eq_by_cmp}
use Rattle.kt_history.specs.declared.change.Change.{Change}
use Rattle.kt_history.specs.declared.changes.KeyChange.{KeyChange}
use Rattle.kt_history.specs.Rows.{Row, key_cmp}
use Rattle.kt_history.specs.Stores.{after_steps}
use Rattle.kt_tablet.specs.Filling.{filled_change}

-- no change comes after one of a greater key
abbrev pub rises : List KeyChange → Bool
rises [] = true
rises (c ∷ changes) = list_all (λ d. not (is_gt (key_cmp c.key d.key))) changes && rises changes

-- their keys, each once
abbrev pub keys_in : List KeyChange → List (List ℕ)
keys_in [] = []
keys_in (c ∷ changes) = c.key ∷ filter (λ key. not (eq_by_cmp key_cmp c.key key)) (keys_in changes)

-- those of one key
abbrev pub changes_of : List ℕ → List KeyChange → List KeyChange
changes_of key changes = filter (λ c. eq_by_cmp key_cmp key c.key) changes

-- a change with what it leaves out filled
abbrev pub step_in : Row → KeyChange → ℕ × Change
step_in fill c = (c.ts, filled_change fill c.change)

-- the row of a key at a time
abbrev pub row_in : Row → List KeyChange → List ℕ → ℕ → Option Row
row_in fill changes key t = after_steps t (map (step_in fill) (changes_of key changes)) None

-- whether a key, if there is one, is above another
abbrev pub is_above_at : List ℕ → Option (List ℕ) → Bool
is_above_at key None = true
is_above_at key (Some other) = is_lt (key_cmp key other)

-- whether a key, if there is one, is not below another
abbrev pub is_reached_at : List ℕ → Option (List ℕ) → Bool
is_reached_at key None = true
is_reached_at key (Some other) = not (is_lt (key_cmp other key))

-- a change, if there is one and it is of this key
abbrev pub change_there : List ℕ → Option KeyChange → Option KeyChange
change_there key None = None
change_there key (Some c) = if eq_by_cmp key_cmp key c.key then Some c else None
