use Rattle.kt_deltafile.proofs.Sorted.{follows_other, follows_same}
use Rattle.kt_deltafile.proofs.order.follows.Goals as goal

pub returns-then-last-ordinal : goal.returns-then-last-ordinal
returns-then-last-ordinal c = follows_other c.args.way c.args.front.now c.last-item.result c.args.ordinal c.args.ts c.in-len1-up.len_at_least c.last-item.is c.if-last-ordinal.true

pub returns-else-last-ordinal : goal.returns-else-last-ordinal
returns-else-last-ordinal c = follows_same c.args.way c.args.front.now c.last-item.result c.args.ordinal c.args.ts c.is_in_order.result c.in-len1-up.len_at_least c.last-item.is c.if-last-ordinal.false c.is_in_order.ensures
