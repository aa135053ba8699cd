-- A list that is held as it stands on disk.
use Rattle.std.specs.Prelude.{◌≡◌, ℕ, ◌<◌, ◌≤◌, ◌^◌, List, [], length, map, get_or}
use Rattle.std.specs.List.{AllByRecursion}
use Rattle.kt_dict.specs.Spelling.{dictionary}

-- the entry of each code
abbrev pub items_of : List (List ℕ) → List ℕ → List (List ℕ)
items_of entries codes = map (λ c. get_or entries c []) codes

-- each code is that of an entry, the entries are the dictionary of the items, and no entry is longer than its length
-- field tells
pub record IsHeld (entries : List (List ℕ)) (codes : List ℕ) : Type 0 where
  pub few : length codes < 2 ^ 32
  pub within : (i : ℕ) → i < length codes → get_or codes i 0 < length entries
  pub first_use : dictionary (items_of entries codes) ≡ entries
  pub most : length entries ≤ 4096
  pub short : AllByRecursion (λ x. length x < 2 ^ 32) entries
