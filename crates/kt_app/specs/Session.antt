-- The columns of a script, and its commands on a table of them.
use Rattle.std.specs.Prelude.{◌≡◌, ◌≤◌, Bool, true, List, [], length, Option, Some, None}
use Rattle.std.specs.List.{AllByRecursion}
use Rattle.kt_base.specs.declared.cell.Cell.{Cell}
use Rattle.kt_schema.specs.declared.column.Column.{Column}
use Rattle.kt_history.specs.Machine.{Workload}
use Rattle.kt_script.specs.Columns.{counts_from}
use Rattle.kt_script.specs.Fit.{compares}
use Rattle.kt_script.specs.Scripts.{workload}
use Rattle.kt_reopen.specs.Tables.{IsTable}

-- a table alone: no command, and no room for one
abbrev pub on_table : List Column → Workload
on_table columns = workload 0 (record { columns = columns; plan = [] })

-- a default that its column takes, if there is one
abbrev pub is_default : Column → Option Cell → Bool
is_default c None = true
is_default c (Some x) = compares c x

-- columns as a script gives them: their ids count up from 1, they are at most 300, each default is a cell of its column's kind that is not too long, and a
-- superblock may have them
pub record IsCounted (columns : List Column) : Type 0 where
  pub counted : counts_from 1 columns ≡ true
  pub few : length columns ≤ 300
  pub defaults : AllByRecursion (λ c. is_default c c.default ≡ true) columns
  pub table : IsTable columns
