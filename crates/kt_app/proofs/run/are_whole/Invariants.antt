use Rattle.std.proofs.Common.{take}
use Rattle.std.specs.Prelude.{All}
use Rattle.kt_app.specs.Played.{IsWhole}
use Rattle.kt_app.proofs.run.are_whole.Given as goal

abbrev pub invariant-loop-end : goal.invariant-loop-end
invariant-loop-end l = All IsWhole (take l.end-index l.ends)
