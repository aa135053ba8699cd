use Rattle.std.proofs.Common.{arith}
use Rattle.kt_merge.proofs.Going.{front_is}
use Rattle.kt_merge.proofs.row.but_last.Goals as goal

pub returns : goal.returns
returns c = front_is c.args.steps.now c.saturating_sub.result (omega (arith, c.saturating_sub.ensures))
