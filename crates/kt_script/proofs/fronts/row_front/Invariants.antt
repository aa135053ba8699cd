use Rattle.std.proofs.Common.{◌≡◌, ◌+◌, drop}
use Rattle.kt_script.specs.declared.lex.Lex.TheVariants.{Start}
use Rattle.kt_script.specs.Lex.{next_in_row}
use Rattle.kt_script.proofs.RowBytes.{run}
use Rattle.kt_script.proofs.fronts.row_front.Given as goal

abbrev pub invariant-loop-at : goal.invariant-loop-at
invariant-loop-at l = run next_in_row Start l.line ≡ l.at + run next_in_row l.state (drop l.at l.line)
