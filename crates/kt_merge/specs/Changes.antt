-- The changes of a MemRowSet, by rising key.
use Rattle.std.specs.Prelude.{ℕ, Bool, true, not, ◌&&◌, List, [], ◌∷◌, map, None}
use Rattle.std.specs.List.{filter, list_all}
use Rattle.std.specs.Ordering.{is_gt, eq_by_cmp}
use Rattle.kt_history.specs.declared.changes.KeyChange.{KeyChange}
use Rattle.kt_history.specs.AsBytes.{step_of}
use Rattle.kt_history.specs.Rows.{key_cmp}
use Rattle.kt_history.specs.Stores.{Steps, Hist}

-- no change comes after one of a greater key
abbrev pub rises : List KeyChange → Bool
rises [] = true
rises (c ∷ changes) = list_all (λ d. not (is_gt (key_cmp c.key d.key))) changes && rises changes

-- their keys, each once
abbrev pub keys_in : List KeyChange → List (List ℕ)
keys_in [] = []
keys_in (c ∷ changes) = c.key ∷ filter (λ key. not (eq_by_cmp key_cmp c.key key)) (keys_in changes)

-- those of one key
abbrev pub changes_of : List ℕ → List KeyChange → List KeyChange
changes_of key changes = filter (λ c. eq_by_cmp key_cmp key c.key) changes

abbrev pub steps_of : List ℕ → List KeyChange → Steps
steps_of key changes = map step_of (changes_of key changes)

-- the history of a key whose row was nothing before its changes
abbrev pub hist_in_changes : List ℕ → List KeyChange → Hist
hist_in_changes key changes = record { first = None; steps = steps_of key changes }
