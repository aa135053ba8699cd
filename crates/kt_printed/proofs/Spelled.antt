-- Cells that literals spell, in a past and in what is run from it.
use Rattle.std.proofs.Common.{ℕ, ◌≤◌, List, length, map, Option, Some, None}
use Rattle.std.specs.List.{AllByRecursion}
use Rattle.kt_base.specs.declared.cell.Kind.{Kind}
use Rattle.kt_base.specs.declared.cell.Cell.{Cell}
use Rattle.kt_base.specs.Keys.{key_cells}
use Rattle.kt_history.specs.declared.change.Change.{Change}
use Rattle.kt_history.specs.declared.change.Change.TheVariants.{Ins, Upd, Del}
use Rattle.kt_history.specs.declared.command.Command.{Command}
use Rattle.kt_history.specs.declared.command.Command.TheVariants as command
use Rattle.kt_history.specs.declared.operation.RowOp.{RowOp}
use Rattle.kt_history.specs.Rows.{Row, Rows, Changes}
use Rattle.kt_history.specs.History.{Past, PastWrite}
use Rattle.kt_history.specs.Machine.{Workload}
use Rattle.kt_script.specs.Outputs.{CellHolds}

-- a cell that a literal spells in a column of some kind, or null
abbrev pub IsSpelled : Cell → Type 0
IsSpelled c = (kind : Kind) × CellHolds kind c

abbrev pub RowSpelled : Row → Type 0
RowSpelled row = AllByRecursion (λ (x : ℕ × Cell). IsSpelled x.1) row

-- the cells that a key has under columns of these kinds
abbrev pub KeySpelled : List Kind → List ℕ → Type 0
KeySpelled kinds key = AllByRecursion IsSpelled (key_cells kinds key)

abbrev pub RowsSpelled : List Kind → Rows → Type 0
RowsSpelled kinds rows = AllByRecursion (λ (r : List ℕ × Row). KeySpelled kinds r.0 × RowSpelled r.1) rows

abbrev pub ChangeSpelled : Change → Type 0
ChangeSpelled (Ins row) = RowSpelled row
ChangeSpelled (Upd cells) = RowSpelled cells
ChangeSpelled Del = Unit {0}

abbrev pub ChangesSpelled : List Kind → Changes → Type 0
ChangesSpelled kinds changes = AllByRecursion (λ (c : List ℕ × Change). KeySpelled kinds c.0 × ChangeSpelled c.1) changes

-- each cell of a past
pub record PastSpelled (kinds : List Kind) (past : Past) : Type 0 where
  pub base : RowsSpelled kinds past.base
  pub writes : AllByRecursion (λ (w : PastWrite). ChangesSpelled kinds w.changes) past.writes

abbrev pub OpsSpelled : List Kind → List RowOp → Type 0
OpsSpelled kinds ops = AllByRecursion (λ (op : RowOp). KeySpelled kinds op.key × RowSpelled op.cells) ops

-- a scan shows all columns, or some
abbrev pub SelectsSome : Option (List ℕ) → Type 0
SelectsSome None = Unit {0}
SelectsSome (Some columns) = 1 ≤ length columns

abbrev pub CommandSpelled : List Kind → Command → Type 0
CommandSpelled kinds (command.Write w) = OpsSpelled kinds w.ops
CommandSpelled kinds (command.Scan scan) = SelectsSome scan.columns
CommandSpelled kinds (command.Mark t) = Unit {0}
CommandSpelled kinds (command.Chore chore) = Unit {0}

abbrev pub key_kinds : Workload → List Kind
key_kinds work = map (λ k. k.1) work.keys

-- The table has a key, each default and each cell of a write is spelled, and each scan shows a column.
pub record WorkSpelled (work : Workload) : Type 0 where
  pub key : 1 ≤ length work.keys
  pub fill : RowSpelled work.fill
  pub plan : AllByRecursion (AllByRecursion (CommandSpelled (key_kinds work))) work.plan
