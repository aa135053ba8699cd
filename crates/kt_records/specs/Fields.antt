-- The fields of a record, one behind the other. They alone tell where bytes that are no record are at fault.
use Rattle.std.specs.Prelude.{ℕ, List, [], ◌∷◌, length}
use Rattle.std.specs.List.{flat_map}
use Rattle.std.specs.Int.{w16, w64, to_le_bytes}
use Rattle.kt_history.specs.declared.operation.RowOp.{RowOp}
use Rattle.kt_history.specs.declared.target.Target.{Target}
use Rattle.kt_history.specs.declared.target.Target.TheVariants as stores
use Rattle.kt_bytes.specs.Places.{IsSpelled}
pub use Rattle.kt_cells.specs.Fields.{cell_fields, listed_cell_fields, cell_list_fields}
use Rattle.kt_records.specs.declared.entry.CommitRow.{CommitRow}
use Rattle.kt_records.specs.declared.entry.Entry.{Entry}
use Rattle.kt_records.specs.declared.entry.Entry.TheVariants.{Replicate, Commit}
use Rattle.kt_records.specs.Spelling.{kind, outcome}
use Rattle.kt_records.specs.Rules.{KeepsRules}

-- an operation: its kind, its key's length, its key, and its cells
abbrev pub operation_fields : RowOp → List (List ℕ)
operation_fields op = (kind op.kind ∷ []) ∷ to_le_bytes w16 (length op.key) ∷ op.key ∷ cell_list_fields op.cells

-- a store that was changed: which kind it is of, and its numbers
abbrev pub target_fields : Target → List (List ℕ)
target_fields (stores.Mem number) = (1 ∷ []) ∷ to_le_bytes w64 number ∷ []
target_fields (stores.Delta rowset dms) = (2 ∷ []) ∷ to_le_bytes w64 rowset ∷ to_le_bytes w64 dms ∷ []

-- what became of an operation, the count of the stores that it changed, and the stores
abbrev pub row_fields : CommitRow → List (List ℕ)
row_fields row = (outcome row.outcome ∷ []) ∷ (length row.targets ∷ []) ∷ flat_map target_fields row.targets

-- a record: which one it is, its timestamp, the count of what it lists, and that
abbrev pub record_fields : Entry → List (List ℕ)
record_fields (Replicate ts ops) = (1 ∷ []) ∷ to_le_bytes w64 ts ∷ to_le_bytes w16 (length ops) ∷ flat_map operation_fields ops
record_fields (Commit ts rows) = (2 ∷ []) ∷ to_le_bytes w64 ts ∷ to_le_bytes w16 (length rows) ∷ flat_map row_fields rows

-- the fields are those of a record
abbrev pub Spelled : List (List ℕ) → Type 0
Spelled all = IsSpelled record_fields KeepsRules all
