use Rattle.std.proofs.Common.{◌≡◌}
use Rattle.kt_pool.specs.Cells.{walk}
use Rattle.kt_pool.proofs.cells.walked.Given as goal

abbrev pub invariant-loop-step : goal.invariant-loop-step
invariant-loop-step l = l.at ≡ walk l.cells l.first l._step
