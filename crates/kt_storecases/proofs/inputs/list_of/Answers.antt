use Rattle.std.proofs.Common.{refl}
use Rattle.kt_storecases.proofs.OneKey.{one_next, one_key}
use Rattle.kt_storecases.proofs.inputs.list_of.Goals as goal

pub steps-preserved : goal.steps-preserved
steps-preserved c = one_next c.args.key.now c.steps.list c.push.new.self _ c.in_ok-push.ensures.ok c.steps.invariant refl

pub returns : goal.returns
returns c = one_key c.args.key.now c.steps.list c.steps.invariant
