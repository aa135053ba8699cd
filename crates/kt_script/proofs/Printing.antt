-- The operations of a plan that fits have keys of its table.
use Rattle.std.proofs.Common.{List, [], ◌∷◌}
use Rattle.std.specs.Prelude.{All}
use Rattle.std.specs.List.{AllByRecursion}
use Rattle.std.proofs.lemmas.List.Elements.{All-from_recursion}
use Rattle.kt_schema.specs.declared.column.Column.{Column}
use Rattle.kt_history.specs.declared.operation.RowOp.{RowOp}
use Rattle.kt_history.specs.declared.command.Command.{Command}
use Rattle.kt_history.specs.declared.command.Command.TheVariants as command
use Rattle.kt_script.specs.Fit.{OpFits, CommandFits}
use Rattle.kt_script.specs.Print.{IsKey, HasKeys}

ops_keyed : (columns : List Column) (ops : List RowOp) → AllByRecursion (OpFits columns) ops → AllByRecursion (λ (o : RowOp). IsKey columns o.key) ops
ops_keyed columns [] fit = tt
ops_keyed columns (o ∷ ops) fit = (record { cells = fit.0.key_cells; spelled = fit.0.key }, ops_keyed columns ops fit.1)

command_keyed : (columns : List Column) (c : Command) → CommandFits columns c → HasKeys columns c
command_keyed columns (command.Write w) fit = All-from_recursion (λ (o : RowOp). IsKey columns o.key) w.ops (ops_keyed columns w.ops fit.each)
command_keyed columns (command.Scan scan) fit = tt
command_keyed columns (command.Mark t) fit = tt
command_keyed columns (command.Chore chore) fit = tt

commands_keyed : (columns : List Column) (commands : List Command) → AllByRecursion (CommandFits columns) commands → AllByRecursion (HasKeys columns) commands
commands_keyed columns [] fit = tt
commands_keyed columns (c ∷ commands) fit = (command_keyed columns c fit.0, commands_keyed columns commands fit.1)

sessions_keyed : (columns : List Column) (plan : List (List Command)) → AllByRecursion (AllByRecursion (CommandFits columns)) plan → AllByRecursion (All (HasKeys columns)) plan
sessions_keyed columns [] fit = tt
sessions_keyed columns (commands ∷ plan) fit = (All-from_recursion (HasKeys columns) commands (commands_keyed columns commands fit.0), sessions_keyed columns plan fit.1)

pub plan_keyed : (columns : List Column) (plan : List (List Command)) → AllByRecursion (AllByRecursion (CommandFits columns)) plan → All (All (HasKeys columns)) plan
plan_keyed columns plan fit = All-from_recursion (All (HasKeys columns)) plan (sessions_keyed columns plan fit)
