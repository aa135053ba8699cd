-- What a script that is taken keeps of the rules of its table, and of the grammar.
use Rattle.std.specs.Prelude.{◌≡◌, ℕ, ◌≤◌, Bool, true, false, not, ◌&&◌, ◌||◌, List, [], ◌∷◌, length, map, Option, Some, None, Result, Ok, Err, is_some, if◌then◌else◌, ◌==◌}
use Rattle.std.specs.List.{list_all, list_any, AllByRecursion}
use Rattle.std.specs.Ordering.{nat_cmp}
use Rattle.std.specs.FinMap.Entries.{find}
use Rattle.kt_base.specs.declared.cell.Cell.{Cell}
use Rattle.kt_key.specs.Fit.{has_kind}
use Rattle.kt_key.specs.Reading.{Spells}
use Rattle.kt_schema.specs.declared.column.Column.{Column}
use Rattle.kt_schema.specs.Columns.{other_columns, key_kinds}
use Rattle.kt_schema.specs.Rows.{is_null, is_long}
use Rattle.kt_history.specs.declared.command.Command.{Command}
use Rattle.kt_history.specs.declared.command.Plan.{Plan}
use Rattle.kt_history.specs.declared.command.Command.TheVariants as command
use Rattle.kt_history.specs.declared.operation.RowOp.{RowOp}
use Rattle.kt_history.specs.declared.scan.At.{At}
use Rattle.kt_history.specs.declared.scan.At.TheVariants.{Looked, Given}
use Rattle.kt_history.specs.declared.scan.Pred.{Pred}
use Rattle.kt_history.specs.declared.scan.Scan.{Scan}
use Rattle.kt_history.specs.declared.scan.Test.{Test}
use Rattle.kt_history.specs.declared.scan.Test.TheVariants as test
use Rattle.kt_script.specs.declared.forms.OpForm.{OpForm}
use Rattle.kt_script.specs.declared.forms.OpForm.TheVariants as form
use Rattle.kt_script.specs.Writes.{twice, op_form}
use Rattle.kt_script.specs.Times.{most_time}
use Rattle.kt_script.specs.declared.refusal.ScriptNo.{ScriptNo}
use Rattle.kt_script.specs.declared.refusal.ScriptNo.TheVariants as why
use Rattle.kt_script.specs.Pieces.{cut}
use Rattle.kt_script.specs.Loads.{load_plan, IsLoad}
use Rattle.kt_script.specs.Scripts.{most_sessions, most_commands, commands_in, head, load, fault_from, above_end, said, load_in, at}

-- a cell that a column takes
abbrev pub fits_column : Column → Cell → Bool
fits_column c x = (has_kind c.kind x || (is_null x && c.nullable)) && not (is_long x)

-- some of the columns in their order, each with a cell that it takes
abbrev pub is_part : List Column → List (ℕ × Cell) → Bool
is_part columns [] = true
is_part [] (x ∷ cells) = false
is_part (c ∷ columns) (x ∷ cells) = if c.id == x.0 then fits_column c x.1 && is_part columns cells else is_part columns (x ∷ cells)

-- a column has a cell, unless it may be left out
abbrev pub is_given : List (ℕ × Cell) → Column → Bool
is_given cells c = (c.nullable || is_some c.default) || is_some (find nat_cmp c.id cells)

-- the cells of an operation of this form, under the columns that are no key
abbrev pub cells_fit : List Column → OpForm → List (ℕ × Cell) → Bool
cells_fit others form.Literals cells = is_part others cells && (length cells == length others)
cells_fit others form.RowNames cells = is_part others cells && list_all (is_given cells) others
cells_fit others form.Names cells = is_part others cells && not (length cells == 0)
cells_fit others form.Key cells = length cells == 0

-- An operation on a key of the table, with cells that its columns take.
pub record OpFits (columns : List Column) (o : RowOp) : Type 0 where
  pub key_cells : List Cell
  pub key : Spells (key_kinds columns) key_cells o.key
  pub short : length o.key ≤ 16384
  pub cells : cells_fit (other_columns columns) (op_form o.kind) o.cells ≡ true

-- From 1 to 64 operations, on different keys.
pub record WriteFits (columns : List Column) (ops : List RowOp) : Type 0 where
  pub some : 1 ≤ length ops
  pub few : length ops ≤ 64
  pub apart : twice (map (λ (o : RowOp). o.key) ops) ≡ false
  pub each : AllByRecursion (OpFits columns) ops

-- the column of an id
abbrev pub column_of : List Column → ℕ → Option Column
column_of [] id = None
column_of (c ∷ columns) id = if c.id == id then Some c else column_of columns id

-- each of the ids is a column's, and none stands twice
abbrev pub are_selected : List Column → List ℕ → Bool
are_selected columns [] = true
are_selected columns (id ∷ ids) = is_some (column_of columns id) && (not (list_any (λ n. n == id) ids) && are_selected columns ids)

-- a selection names a column
abbrev pub selection_fits : List Column → Option (List ℕ) → Bool
selection_fits columns None = true
selection_fits columns (Some ids) = not (length ids == 0) && are_selected columns ids

-- a cell of the column's kind, which is not too long
abbrev pub compares : Column → Cell → Bool
compares c x = has_kind c.kind x && not (is_long x)

-- a test compares with a cell of the column's kind, or asks for null
abbrev pub test_fits : Column → Test → Bool
test_fits c (test.Eq x) = compares c x
test_fits c (test.Lt x) = compares c x
test_fits c (test.Le x) = compares c x
test_fits c (test.Gt x) = compares c x
test_fits c (test.Ge x) = compares c x
test_fits c test.IsNull = true
test_fits c test.NotNull = true

abbrev pub tests_column : Option Column → Test → Bool
tests_column None t = false
tests_column (Some c) t = test_fits c t

abbrev pub pred_fits : List Column → Pred → Bool
pred_fits columns p = tests_column (column_of columns p.column) p.test

-- a time that may be named
abbrev pub AtFits : At → Type 0
AtFits Looked = Unit {0}
AtFits (Given t) = t ≤ most_time

-- A scan at a time that may be named, of columns of the table alone.
pub record ScanFits (columns : List Column) (scan : Scan) : Type 0 where
  pub time : AtFits scan.at
  pub columns_there : selection_fits columns scan.columns ≡ true
  pub preds : list_all (pred_fits columns) scan.preds ≡ true

abbrev pub CommandFits : List Column → Command → Type 0
CommandFits columns (command.Write w) = WriteFits columns w.ops
CommandFits columns (command.Scan s) = ScanFits columns s
CommandFits columns (command.Mark a) = a ≤ most_time
CommandFits columns (command.Chore c) = Unit {0}

-- The commands of each session fit, and are not too many.
pub record PlanFits (columns : List Column) (plan : List (List Command)) : Type 0 where
  pub sessions : length plan ≤ most_sessions
  pub commands : commands_in plan ≤ most_commands
  pub each : AllByRecursion (AllByRecursion (CommandFits columns)) plan

-- the commands that are read below these columns, from line number on, where no load line stands, or a fault
abbrev pub IsBodyRead : List Column → ℕ → List ℕ → Result Plan ScriptNo → Type 0
IsBodyRead columns number text (Ok plan) = (fault_from (head columns) number (cut 10 text) ≡ None) × (said (above_end (head columns) (cut 10 text)) ≡ record { columns = columns; plan = plan })
    × (load_in (above_end (head columns) (cut 10 text)) ≡ None) × PlanFits columns plan
IsBodyRead columns number text (Err (why.Line n reason)) = fault_from (head columns) number (cut 10 text) ≡ at n reason
IsBodyRead columns number text (Err why.Memory) = Unit {0}

-- the commands that are read below these columns are these, or a fault
abbrev pub AreLinesRead : {A : Type 0} → List Column → ℕ → List ℕ → List (List Command) → Result A ScriptNo → Type 0
AreLinesRead columns number text commands (Ok done) = IsBodyRead columns number text (Ok commands)
AreLinesRead columns number text commands (Err refusal) = IsBodyRead columns number text (Err refusal)

-- a load line of so many writes that is read below these columns, or a fault
abbrev pub IsLoadRead : List Column → ℕ → List ℕ → Result ℕ ScriptNo → Type 0
IsLoadRead columns number text (Ok n) = (fault_from (head columns) number (cut 10 text) ≡ None) × (above_end (head columns) (cut 10 text) ≡ load columns n) × IsLoad columns (load_plan n) n
IsLoadRead columns number text (Err (why.Line n reason)) = fault_from (head columns) number (cut 10 text) ≡ at n reason
IsLoadRead columns number text (Err why.Memory) = ⊥
