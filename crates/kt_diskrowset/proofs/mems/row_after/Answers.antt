use Rattle.kt_history.specs.Stores.{after_steps}
use Rattle.kt_diskrowset.specs.Mems.{steps_in_mems}
use Rattle.kt_diskrowset.proofs.MemsInTurn.{store_stands, row_more, row_over}
use Rattle.kt_diskrowset.proofs.mems.row_after.Goals as goal

pub at-requires : goal.at-requires
at-requires c = store_stands c.args.pool.now c.args.mems.now c.mems.mem-index c.requires c.mems-test.true

pub mems-preserved : goal.mems-preserved
mems-preserved c = row_more c.args.pool.now c.args.ordinal c.args.mems.now c.mems.mem-index c.mems-test.true c.args.t c.mems.row c.in_ok-row.row (after_steps c.args.t (steps_in_mems c.args.pool.now c.args.ordinal c.args.mems.now) c.args.before) c.in_ok-row.ensures c.mems.invariant

pub returns : goal.returns
returns c = row_over c.args.pool.now c.args.ordinal c.args.mems.now c.mems.mem-index c.args.t c.mems.row (after_steps c.args.t (steps_in_mems c.args.pool.now c.args.ordinal c.args.mems.now) c.args.before) c.mems-test.false c.mems.invariant
