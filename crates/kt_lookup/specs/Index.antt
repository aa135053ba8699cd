-- The index: every sixteenth of keys that rise.
use Rattle.std.specs.Prelude.{◌≡◌, ◌<◌, ◌+◌, ◌*◌, ◌/◌, ℕ, List, [], length, map, slice_index_or}
use Rattle.std.specs.List.{range_with_len}
use Rattle.std.specs.Ordering.{nat_cmp}
use Rattle.std.specs.Cmp.Lexicographic.{slice_cmp}
use Rattle.std.specs.declared.cmp.Ordering.TheVariants.{Less}

-- byte by byte, the first key is below the second
abbrev pub IsBelow : List ℕ → List ℕ → Type 0
IsBelow a b = slice_cmp nat_cmp a b ≡ Less

-- each key is below every later one
abbrev pub Rises : List (List ℕ) → Type 0
Rises keys = (i j : ℕ) → i < j → j < length keys → IsBelow (slice_index_or keys i []) (slice_index_or keys j [])

-- the keys at the ordinals divisible by 16
unfoldable pub index_of : List (List ℕ) → List (List ℕ)
index_of keys = map (λ j. slice_index_or keys (16 * j) []) (range_with_len 0 ((length keys + 15) / 16))
