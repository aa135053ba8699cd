-- The one spelling of each record. Numbers are little-endian.
use Rattle.std.specs.Prelude.{ℕ, List, ◌∷◌, ◌++◌, length}
use Rattle.std.specs.List.{flat_map}
use Rattle.std.specs.Int.{w16, w64, to_le_bytes}
use Rattle.kt_history.specs.declared.change.Outcome.{Outcome}
use Rattle.kt_history.specs.declared.change.Outcome.TheVariants.{Done, Present, Absent, Ignored}
use Rattle.kt_history.specs.declared.target.Target.{Target}
use Rattle.kt_history.specs.declared.target.Target.TheVariants as stores
use Rattle.kt_records.specs.declared.entry.CommitRow.{CommitRow}
use Rattle.kt_records.specs.declared.entry.Entry.{Entry}
use Rattle.kt_records.specs.declared.entry.Entry.TheVariants.{Replicate, Commit}
pub use Rattle.kt_cells.specs.Spelling.{flag, cell, listed_cell, cell_list}
pub use Rattle.kt_history.specs.Spelled.{kind, operation}

abbrev pub outcome : Outcome → ℕ
outcome Done = 0
outcome Present = 1
outcome Absent = 2
outcome Ignored = 3

-- a store that was changed
abbrev pub target : Target → List ℕ
target (stores.Mem number) = 1 ∷ to_le_bytes w64 number
target (stores.Delta rowset dms) = 2 ∷ (to_le_bytes w64 rowset ++ to_le_bytes w64 dms)

-- what became of an operation, and the count of the stores and the stores that it changed
abbrev pub commit_row : CommitRow → List ℕ
commit_row row = outcome row.outcome ∷ length row.targets ∷ flat_map target row.targets

-- a record: which one it is, its timestamp, and what it lists behind their count
abbrev pub spelling : Entry → List ℕ
spelling (Replicate ts ops) = 1 ∷ (to_le_bytes w64 ts ++ to_le_bytes w16 (length ops) ++ flat_map operation ops)
spelling (Commit ts rows) = 2 ∷ (to_le_bytes w64 ts ++ to_le_bytes w16 (length rows) ++ flat_map commit_row rows)

-- which record it is, its timestamp, and how much it lists
abbrev pub head : Entry → List ℕ
head (Replicate ts ops) = 1 ∷ (to_le_bytes w64 ts ++ to_le_bytes w16 (length ops))
head (Commit ts rows) = 2 ∷ (to_le_bytes w64 ts ++ to_le_bytes w16 (length rows))

-- and what it lists
abbrev pub listed : Entry → List ℕ
listed (Replicate ts ops) = flat_map operation ops
listed (Commit ts rows) = flat_map commit_row rows
