use Rattle.std.proofs.Common.{arith, ◌∙◌}
use Rattle.kt_front.proofs.Shared.{shared_ends}
use Rattle.kt_front.proofs.prefix.common_prefix.Goals as goal

pub returns-clause-value : goal.returns-clause-value
returns-clause-value c = c.min-end.ensures ∙ shared_ends c.args.a.now c.args.b.now c.loop-i.i (omega arith) c.loop-i.invariant
