use Rattle.std.proofs.Common.{sym, subst}
use Rattle.kt_dms.specs.Stores.{deltas_of}
use Rattle.kt_diskrowset.specs.Missed.{Precedes}
use Rattle.kt_diskrowset.proofs.MissedRows.{row_behind, none_before}
use Rattle.kt_diskrowset.proofs.rowset.missed.next_in.Goals as goal

pub returns-clause-behind : goal.returns-clause-behind
returns-clause-behind c = λ n low. subst (Precedes n) (sym c.next_row.ensures) (row_behind c.args.from n (deltas_of c.args.mem.now c.args.pool.now) low)

pub returns-clause-none : goal.returns-clause-none
returns-clause-none c = λ n low before. none_before c.args.from n (deltas_of c.args.mem.now c.args.pool.now) (c.order_law.ensures c.args.mem.now c.args.pool.now c.requires) low (subst (Precedes n) c.next_row.ensures before)
