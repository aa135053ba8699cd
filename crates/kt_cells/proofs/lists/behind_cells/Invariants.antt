use Rattle.kt_cells.proofs.Walked.{Walked}
use Rattle.kt_cells.proofs.lists.behind_cells.Given as goal

abbrev pub invariant-cells : goal.invariant-cells
invariant-cells l = Walked l.count l.at l.least l.bytes l.rest
