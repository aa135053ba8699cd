-- What a view of a table tells: its keys, and the row of each at each time.
use Rattle.std.specs.Prelude.{◌≡◌, Bool, true, List, [], ◌∷◌, ℕ, Option, Some, None}
use Rattle.std.specs.List.{find, AllByRecursion}
use Rattle.std.specs.declared.cmp.Ordering.TheVariants.{Less}
use Rattle.std.specs.Ordering.{is_lt}
use Rattle.kt_history.specs.Rows.{key_cmp}

-- whether a key is above another, or above none
abbrev pub is_above : Option (List ℕ) → List ℕ → Bool
is_above None key = true
is_above (Some after) key = is_lt (key_cmp after key)

-- the least of rising keys above another, or the least of all
abbrev pub key_above : Option (List ℕ) → List (List ℕ) → Option (List ℕ)
key_above after keys = find (is_above after) keys

-- by rising bytes, each key once
abbrev pub AreRising : List (List ℕ) → Type 0
AreRising [] = Unit {0}
AreRising (key ∷ keys) = AllByRecursion (λ other. key_cmp key other ≡ Less) keys × AreRising keys
