-- What an operation does, by whether its key is present, and what it needs of the pool.
use Rattle.std.specs.Prelude.{◌≡◌, ℕ, ◌+◌, ◌*◌, ◌/◌, Bool, true, false, is_some, List, [], ◌∷◌, length, map, Option, Some, None}
use Rattle.std.specs.List.{filter_map, sum_by, list_any}
use Rattle.std.specs.Ordering.{eq_by_cmp}
use Rattle.std.specs.FinMap.Entries.{find}
use Rattle.kt_base.specs.declared.cell.Cell.{Cell}
use Rattle.kt_base.specs.declared.cell.Cell.TheVariants as cell
use Rattle.kt_history.specs.declared.change.Change.{Change}
use Rattle.kt_history.specs.declared.change.Change.TheVariants.{Ins, Upd, Del}
use Rattle.kt_history.specs.declared.change.Outcome.{Outcome}
use Rattle.kt_history.specs.declared.change.Outcome.TheVariants.{Done, Present, Absent, Ignored}
use Rattle.kt_history.specs.declared.operation.OpKind.{OpKind}
use Rattle.kt_history.specs.declared.operation.OpKind.TheVariants.{Insert, Upsert, Update, Delete, InsertIgnore, UpdateIgnore, DeleteIgnore}
use Rattle.kt_history.specs.declared.operation.RowOp.{RowOp}
use Rattle.kt_history.specs.Rows.{Row, Rows, Changes, with_cells, key_cmp}

-- the change and the outcome of an operation on a row, or on none. fill has each column that is no key with its default, or null,
-- which an insert has where it names no cell of its own
abbrev pub effect : Row → OpKind → Row → Option Row → Option Change × Outcome
effect fill Insert cells None = (Some (Ins (with_cells cells fill)), Done)
effect fill Insert cells (Some row) = (None, Present)
effect fill Upsert cells None = (Some (Ins (with_cells cells fill)), Done)
effect fill Upsert cells (Some row) = (Some (Upd cells), Done)
effect fill Update cells None = (None, Absent)
effect fill Update cells (Some row) = (Some (Upd cells), Done)
effect fill Delete cells None = (None, Absent)
effect fill Delete cells (Some row) = (Some Del, Done)
effect fill InsertIgnore cells None = (Some (Ins (with_cells cells fill)), Done)
effect fill InsertIgnore cells (Some row) = (None, Ignored)
effect fill UpdateIgnore cells None = (None, Ignored)
effect fill UpdateIgnore cells (Some row) = (Some (Upd cells), Done)
effect fill DeleteIgnore cells None = (None, Ignored)
effect fill DeleteIgnore cells (Some row) = (Some Del, Done)

-- the outcome alone, by whether the key is present
abbrev pub outcome_of : OpKind → Bool → Outcome
outcome_of Insert false = Done
outcome_of Insert true = Present
outcome_of Upsert present = Done
outcome_of Update false = Absent
outcome_of Update true = Done
outcome_of Delete false = Absent
outcome_of Delete true = Done
outcome_of InsertIgnore false = Done
outcome_of InsertIgnore true = Ignored
outcome_of UpdateIgnore false = Ignored
outcome_of UpdateIgnore true = Done
outcome_of DeleteIgnore false = Ignored
outcome_of DeleteIgnore true = Done

-- it is the outcome of the effect
abbrev pub outcome_is_of_effect : Type 0
outcome_is_of_effect = (fill : Row) (kind : OpKind) (cells : Row) (row : Option Row) → (effect fill kind cells row).1 ≡ outcome_of kind (is_some row)

-- the effect of an operation on these rows
abbrev pub effect_on : Row → Rows → RowOp → Option Change × Outcome
effect_on fill rows op = effect fill op.kind op.cells (find key_cmp op.key rows)

-- what becomes of each operation of a write on these rows
abbrev pub outcomes_on : Row → Rows → List RowOp → List Outcome
outcomes_on fill rows ops = map (λ op. (effect_on fill rows op).1) ops

-- the change of a key, if there is one
abbrev pub keyed : List ℕ → Option Change → Option (List ℕ × Change)
keyed key None = None
keyed key (Some change) = Some (key, change)

-- the changes that a write makes to these rows
abbrev pub changes_on : Row → Rows → List RowOp → Changes
changes_on fill rows ops = filter_map (λ op. keyed op.key (effect_on fill rows op).0) ops

-- whether two writes share a key
abbrev pub share_key : List RowOp → List RowOp → Bool
share_key ops others = list_any (λ op. list_any (λ other. eq_by_cmp key_cmp op.key other.key) others) ops

-- no two operations of a write share a key
abbrev pub DifferentKeys : List RowOp → Type 0
DifferentKeys [] = Unit {0}
DifferentKeys (op ∷ ops) = (list_any (λ other. eq_by_cmp key_cmp op.key other.key) ops ≡ false) × DifferentKeys ops

-- how many bytes a cell takes in the log
abbrev pub cell_len : Cell → ℕ
cell_len cell.Null = 1
cell_len (cell.Bool b) = 2
cell_len (cell.Int n) = 9
cell_len (cell.Bytes bytes) = 5 + length bytes

-- how many bytes an operation takes in the log
abbrev pub op_len : RowOp → ℕ
op_len op = 5 + length op.key + sum_by (λ (c : ℕ × Cell). 2 + cell_len c.1) op.cells

-- how many cells of the pool a write needs
abbrev pub need : List RowOp → ℕ
need ops = sum_by (λ (op : RowOp). 2 * ((op_len op + 55) / 56 + 4)) ops
