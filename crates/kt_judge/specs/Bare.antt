-- Keys of which nothing became yet, and the rows at a mark under them.
use Rattle.std.specs.Prelude.{◌≡◌, ℕ, Bool, true, List, [], map, Option, Some, None}
use Rattle.std.specs.List.{AllByRecursion}
use Rattle.std.specs.Ordering.{is_lt}
use Rattle.std.specs.FinMap.Entries.{is_sorted}
use Rattle.kt_history.specs.declared.change.Change.TheVariants.{Ins}
use Rattle.kt_history.specs.Rows.{Row, Rows, Changes, key_cmp}
use Rattle.kt_judge.specs.Tables.{Versions, Entries, IsTable, IsTableUpTo, Shows, with_changes}

-- whether a key is above an entry, or above none
abbrev pub is_above : Option (List ℕ × Versions) → List ℕ → Bool
is_above None key = true
is_above (Some last) key = is_lt (key_cmp last.0 key)

-- rising keys without versions
pub record AreBare (entries : Entries) : Type 0 where
  pub rising : is_sorted key_cmp entries ≡ true
  pub bare : AllByRecursion (λ (e : List ℕ × Versions). e.1 ≡ []) entries

-- each row as it is inserted
abbrev pub inserts : Rows → Changes
inserts rows = map (λ (r : List ℕ × Row). (r.0, Ins r.1)) rows

-- these rows are inserted at the first time, and nothing else became of any key
pub record HasRows (rows : Rows) (entries : Entries) : Type 0 where
  pub table : IsTable entries
  pub up_to : IsTableUpTo 0 entries
  pub shows : Shows entries (with_changes 0 (inserts rows) (λ t. []))
