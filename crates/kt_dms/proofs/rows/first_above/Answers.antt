use Rattle.std.proofs.Common.{Some, None, ap, sym, ◌∙◌}
use Rattle.kt_dms.proofs.Missed.{first_is}
use Rattle.kt_dms.proofs.rows.first_above.Goals as goal

pub returns-in-Some : goal.returns-in-Some
returns-in-Some c = first_is c.args.tree.now c.args.pool.now c.args.ordinal c.args.above (Some c.in-Some.placed) c.in-Some.ensures

pub returns-in-None : goal.returns-in-None
returns-in-None c = first_is c.args.tree.now c.args.pool.now c.args.ordinal c.args.above None c.in-None.ensures
