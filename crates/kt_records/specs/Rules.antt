-- What records keep to: the records that have a spelling.
use Rattle.std.specs.Prelude.{◌≡◌, ℕ, ◌^◌, ◌<◌, ◌==◌, nat_le, Bool, true, false, ◌||◌, ◌&&◌, List, [], length}
use Rattle.std.specs.List.{list_any}
use Rattle.std.specs.Ordering.{eq_by_cmp}
use Rattle.kt_base.specs.declared.cell.Cell.{Cell}
use Rattle.kt_history.specs.declared.change.Outcome.{Outcome}
use Rattle.kt_history.specs.declared.change.Outcome.TheVariants.{Done, Present, Absent, Ignored}
use Rattle.kt_history.specs.declared.operation.OpKind.{OpKind}
use Rattle.kt_history.specs.declared.operation.OpKind.TheVariants.{Insert, Upsert, Update, Delete, InsertIgnore, UpdateIgnore, DeleteIgnore}
use Rattle.kt_history.specs.declared.operation.RowOp.{RowOp}
use Rattle.kt_history.specs.declared.target.Target.{Target}
use Rattle.kt_history.specs.declared.target.Target.TheVariants as stores
use Rattle.kt_history.specs.Rows.{key_cmp}
use Rattle.kt_records.specs.declared.entry.CommitRow.{CommitRow}
use Rattle.kt_records.specs.declared.entry.Entry.{Entry}
use Rattle.kt_records.specs.declared.entry.Entry.TheVariants.{Replicate, Commit}
pub use Rattle.kt_cells.specs.Rules.{EachAfter, CellFits, next_id, FollowingCell}

-- whether an operation of this kind may list so many cells: a delete lists none
abbrev pub may_list : OpKind → ℕ → Bool
may_list Insert n = true
may_list Upsert n = true
may_list Update n = true
may_list Delete n = n == 0
may_list InsertIgnore n = true
may_list UpdateIgnore n = true
may_list DeleteIgnore n = n == 0

-- the cells that an operation of this kind lists
pub record CellsFit (kind : OpKind) (held : List (ℕ × Cell)) : Type 0 where
  pub listed : may_list kind (length held) ≡ true
  pub count : length held < 2 ^ 16
  pub cells : EachAfter FollowingCell [] held

-- whether one of the operations has this key
abbrev pub has_key : List RowOp → List ℕ → Bool
has_key ops key = list_any (λ (op : RowOp). eq_by_cmp key_cmp op.key key) ops

-- its key is none of those before it
pub record FollowingOp (front : List RowOp) (op : RowOp) : Type 0 where
  pub new_key : has_key front op.key ≡ false
  pub key : length op.key < 2 ^ 16
  pub cells : CellsFit op.kind op.cells

abbrev pub TargetFits : Target → Type 0
TargetFits (stores.Mem number) = number < 2 ^ 64
TargetFits (stores.Delta rowset dms) = (rowset < 2 ^ 64) × (dms < 2 ^ 64)

-- whether an operation of this outcome names so many stores: one or two where it is done, else none
abbrev pub may_change : Outcome → ℕ → Bool
may_change Done n = (n == 1) || (n == 2)
may_change Present n = n == 0
may_change Absent n = n == 0
may_change Ignored n = n == 0

pub record RowFits (row : CommitRow) : Type 0 where
  pub count : may_change row.outcome (length row.targets) ≡ true
  pub targets : EachAfter (λ front t. TargetFits t) [] row.targets

-- whether a REPLICATE may have so many operations
abbrev pub may_hold : ℕ → Bool
may_hold n = nat_le 1 n && nat_le n 64

pub record ReplicateFits (t : ℕ) (held : List RowOp) : Type 0 where
  pub ts : t < 2 ^ 64
  pub count : may_hold (length held) ≡ true
  pub ops : EachAfter FollowingOp [] held

pub record CommitFits (t : ℕ) (held : List CommitRow) : Type 0 where
  pub ts : t < 2 ^ 64
  pub count : length held < 2 ^ 16
  pub rows : EachAfter (λ front row. RowFits row) [] held

-- the record keeps the rules, and so has a spelling
abbrev pub KeepsRules : Entry → Type 0
KeepsRules (Replicate ts ops) = ReplicateFits ts ops
KeepsRules (Commit ts rows) = CommitFits ts rows
