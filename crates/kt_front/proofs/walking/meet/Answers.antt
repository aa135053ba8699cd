use Rattle.std.proofs.Common.{◌∙◌}
use Rattle.kt_front.proofs.Walk.{order_rest}
use Rattle.kt_front.proofs.walking.meet.Goals as goal

pub returns-clause-way : goal.returns-clause-way
returns-clause-way c = c.cmp-way.ensures ∙ order_rest c.args.rest.now c.args.tail.now c.common_prefix-matched.result c.common_prefix-matched.ensures.value
