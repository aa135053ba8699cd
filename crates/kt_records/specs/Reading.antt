-- How the reader goes over a record, from left to right, up to the first fault. The fields of a record tell the place of
-- a fault by themselves; these are the steps that find it. A fault is told by how many bytes stand from its place to the
-- end: none where bytes are missing, and all from its first byte on where a field is wrong.
use Rattle.std.specs.Prelude.{ℕ, zero, suc, Bool, not, ◌||◌, List, [], ◌∷◌, length, Result, Ok, Err, ◌==◌, if◌then◌else◌}
use Rattle.std.specs.Int.{w16, w64}
use Rattle.kt_base.specs.declared.cell.Cell.{Cell}
use Rattle.kt_history.specs.declared.change.Outcome.{Outcome}
use Rattle.kt_history.specs.declared.change.Outcome.TheVariants.{Done, Present, Absent, Ignored}
use Rattle.kt_history.specs.declared.operation.OpKind.{OpKind}
use Rattle.kt_history.specs.declared.operation.OpKind.TheVariants.{Insert, Upsert, Update, Delete, InsertIgnore, UpdateIgnore, DeleteIgnore}
use Rattle.kt_history.specs.declared.operation.RowOp.{RowOp}
use Rattle.kt_history.specs.declared.target.Target.{Target}
use Rattle.kt_history.specs.declared.target.Target.TheVariants as stores
use Rattle.kt_records.specs.declared.entry.CommitRow.{CommitRow}
use Rattle.kt_records.specs.declared.entry.Entry.{Entry}
use Rattle.kt_records.specs.declared.entry.Entry.TheVariants.{Replicate, Commit}
use Rattle.kt_bytes.specs.Reading.{◌>>=◌, number_at, checked_at, bytes_at, many_at, with_offset}
pub use Rattle.kt_cells.specs.Reading.{flag_at, cell_at, is_next_id, listed_cell_at, cells_at}
use Rattle.kt_records.specs.Rules.{may_list, has_key, may_change, may_hold}

-- the cells of an operation of this kind
unfoldable pub cell_list_at : OpKind → List ℕ → Result (List (ℕ × Cell) × List ℕ) ℕ
cell_list_at kind bytes = do
  n ← checked_at w16 (may_list kind) bytes
  many_at (listed_cell_at n.0) n.0 [] n.1

unfoldable pub kind_at : List ℕ → Result (OpKind × List ℕ) ℕ
kind_at [] = Err 0
kind_at (zero ∷ rest) = Err (suc (length rest))
kind_at (suc zero ∷ rest) = Ok (Insert, rest)
kind_at (suc (suc zero) ∷ rest) = Ok (Upsert, rest)
kind_at (suc (suc (suc zero)) ∷ rest) = Ok (Update, rest)
kind_at (suc (suc (suc (suc zero))) ∷ rest) = Ok (Delete, rest)
kind_at (suc (suc (suc (suc (suc zero)))) ∷ rest) = Ok (InsertIgnore, rest)
kind_at (suc (suc (suc (suc (suc (suc zero))))) ∷ rest) = Ok (UpdateIgnore, rest)
kind_at (suc (suc (suc (suc (suc (suc (suc zero)))))) ∷ rest) = Ok (DeleteIgnore, rest)
kind_at (suc (suc (suc (suc (suc (suc (suc (suc b))))))) ∷ rest) = Err (suc (length rest))

-- the length of a key that can stand behind these operations: one of them may have the empty key already
abbrev pub is_key_len : List RowOp → ℕ → Bool
is_key_len front len = not (len == 0) || not (has_key front [])

-- a key that none of these operations has
unfoldable pub new_key_at : List RowOp → List ℕ → Result (List ℕ × List ℕ) ℕ
new_key_at front bytes = do
  n ← checked_at w16 (is_key_len front) bytes
  key ← bytes_at n.0 n.1
  if has_key front key.0 then Err (length n.1) else Ok key

unfoldable pub operation_at : List RowOp → List ℕ → Result (RowOp × List ℕ) ℕ
operation_at front bytes = do
  kind ← kind_at bytes
  key ← new_key_at front kind.1
  cells ← cell_list_at kind.0 key.1
  Ok (record { kind = kind.0; key = key.0; cells = cells.0 }, cells.1)

unfoldable pub target_at : List ℕ → Result (Target × List ℕ) ℕ
target_at [] = Err 0
target_at (zero ∷ rest) = Err (suc (length rest))
target_at (suc zero ∷ rest) = do
  number ← number_at w64 rest
  Ok (stores.Mem number.0, number.1)
target_at (suc (suc zero) ∷ rest) = do
  rowset ← number_at w64 rest
  dms ← number_at w64 rowset.1
  Ok (stores.Delta rowset.0 dms.0, dms.1)
target_at (suc (suc (suc b)) ∷ rest) = Err (suc (length rest))

unfoldable pub outcome_at : List ℕ → Result (Outcome × List ℕ) ℕ
outcome_at [] = Err 0
outcome_at (zero ∷ rest) = Ok (Done, rest)
outcome_at (suc zero ∷ rest) = Ok (Present, rest)
outcome_at (suc (suc zero) ∷ rest) = Ok (Absent, rest)
outcome_at (suc (suc (suc zero)) ∷ rest) = Ok (Ignored, rest)
outcome_at (suc (suc (suc (suc b))) ∷ rest) = Err (suc (length rest))

-- the stores that an operation of this outcome changed, behind their count
unfoldable pub target_list_at : Outcome → List ℕ → Result (List Target × List ℕ) ℕ
target_list_at outcome [] = Err 0
target_list_at outcome (n ∷ rest) = if may_change outcome n then many_at (λ front. target_at) n [] rest else Err (suc (length rest))

unfoldable pub commit_row_at : List ℕ → Result (CommitRow × List ℕ) ℕ
commit_row_at bytes = do
  outcome ← outcome_at bytes
  targets ← target_list_at outcome.0 outcome.1
  Ok (record { outcome = outcome.0; targets = targets.0 }, targets.1)

unfoldable pub replicate_at : List ℕ → Result (Entry × List ℕ) ℕ
replicate_at bytes = do
  ts ← number_at w64 bytes
  n ← checked_at w16 may_hold ts.1
  ops ← many_at operation_at n.0 [] n.1
  Ok (Replicate ts.0 ops.0, ops.1)

unfoldable pub commit_at : List ℕ → Result (Entry × List ℕ) ℕ
commit_at bytes = do
  ts ← number_at w64 bytes
  n ← number_at w16 ts.1
  rows ← many_at (λ front. commit_row_at) n.0 [] n.1
  Ok (Commit ts.0 rows.0, rows.1)

unfoldable pub entry_at : List ℕ → Result (Entry × List ℕ) ℕ
entry_at [] = Err 0
entry_at (zero ∷ rest) = Err (suc (length rest))
entry_at (suc zero ∷ rest) = replicate_at rest
entry_at (suc (suc zero) ∷ rest) = commit_at rest
entry_at (suc (suc (suc b)) ∷ rest) = Err (suc (length rest))

-- nothing stands behind the record
unfoldable pub whole_at : List ℕ → Result Entry ℕ
whole_at bytes = do
  entry ← entry_at bytes
  if length entry.1 == 0 then Ok entry.0 else Err (length entry.1)

-- the record that all of the bytes spell, or the offset of their first fault
abbrev pub record_of : List ℕ → Result Entry ℕ
record_of bytes = with_offset (length bytes) (whole_at bytes)
