use Rattle.std.proofs.Common.{take}
use Rattle.std.specs.List.{All}
use Rattle.kt_mvcc.specs.Held.{KeepsOthers, Stood, HasLeft}
use Rattle.kt_mvcc.proofs.flight.release.Given as goal

abbrev pub invariant-loop-flier : goal.invariant-loop-flier
invariant-loop-flier l = record {
  keeps : KeepsOthers l.who l.initial.held l.held;
  stood : Stood l.initial.held l.held;
  left : All (HasLeft l.held l.who) (take l.flier-index l.flying);
}
