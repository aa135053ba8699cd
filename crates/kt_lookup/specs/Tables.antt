-- What a lookup is made of.
use Rattle.std.specs.Prelude.{◌<◌, ◌≤◌, ◌^◌, ℕ, List, [], length, slice_index_or}
use Rattle.kt_lookup.specs.Index.{Rises}

-- the filter's bytes and the index's keys
pub record Tables : Type 0 where
  pub filter : List ℕ
  pub index : List (List ℕ)

-- the filter has a byte, the index rises, and their lengths fit the fields of a file
pub record AreTables (filter : List ℕ) (index : List (List ℕ)) : Type 0 where
  pub some : 0 < length filter
  pub small : length filter ≤ 4294967295
  pub few : length index < 2 ^ 32
  pub rises : Rises index
  pub short : (j : ℕ) → j < length index → length (slice_index_or index j []) ≤ 65535
