use Rattle.kt_deltafile.proofs.Rooms.{ts_other, ts_same}
use Rattle.kt_deltafile.proofs.order.has_ts.Goals as goal

pub returns-then-last-ordinal : goal.returns-then-last-ordinal
returns-then-last-ordinal c = ts_other c.args.way c.args.rows c.args.count c.args.front.now c.last-item.result c.args.ordinal c.in-len1-up.len_at_least c.last-item.is c.if-last-ordinal.true

pub returns-else-last-ordinal : goal.returns-else-last-ordinal
returns-else-last-ordinal c = ts_same c.args.way c.args.rows c.args.count c.args.front.now c.last-item.result c.args.ordinal c.behind.result c.goes_on.result c.in-len1-up.len_at_least c.last-item.is c.if-last-ordinal.false c.behind.ensures.value c.goes_on.ensures
