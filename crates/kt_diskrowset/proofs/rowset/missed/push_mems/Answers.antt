use Rattle.std.proofs.Common.{◌++◌}
use Rattle.kt_diskrowset.proofs.MemsInTurn.{store_stands}
use Rattle.kt_diskrowset.proofs.MissedRows.{listed, listed_more, listed_over}
use Rattle.kt_diskrowset.proofs.rowset.missed.push_mems.Goals as goal

pub push_above-requires : goal.push_above-requires
push_above-requires c = store_stands c.args.pool.now c.args.mems.now c.mems.mem-index c.requires c.mems-test.true

pub mems-preserved : goal.mems-preserved
mems-preserved c =
    listed_more c.args.pool.now c.args.above c.args.ordinal c.args.key.now c.args.mems.now c.mems.mem-index c.mems.list (c.args.list.now ++ listed c.args.pool.now c.args.above c.args.ordinal c.args.key.now c.args.mems.now) c.mems.invariant c.mems-test.true c.push_above.new.list c.in_ok-push_above.ensures

pub returns : goal.returns
returns c =
    listed_over c.args.pool.now c.args.above c.args.ordinal c.args.key.now c.args.mems.now c.mems.mem-index c.mems.list (c.args.list.now ++ listed c.args.pool.now c.args.above c.args.ordinal c.args.key.now c.args.mems.now) c.mems.invariant c.mems-test.false
