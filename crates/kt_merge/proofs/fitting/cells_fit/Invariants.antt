use Rattle.std.proofs.Common.{drop}
use Rattle.kt_merge.proofs.FitFiles.{RiseFrom}
use Rattle.kt_merge.proofs.fitting.cells_fit.Given as goal

abbrev pub invariant-cells : goal.invariant-cells
invariant-cells l = record {
  on : RiseFrom l.least (drop l.cell-index l.cells) → RiseFrom 0 l.cells;
  back : RiseFrom 0 l.cells → RiseFrom l.least (drop l.cell-index l.cells);
}
