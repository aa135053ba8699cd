use Rattle.kt_diskrowset.proofs.Copying.{take_more}
use Rattle.kt_diskrowset.proofs.MemsInTurn.{blank, store_stands}
use Rattle.kt_diskrowset.proofs.MissedRows.{none_more}
use Rattle.kt_diskrowset.proofs.rowset.missed.next_in_mems.Goals as goal

pub next_in-requires : goal.next_in-requires
next_in-requires c = store_stands c.args.pool.now c.args.mems.now c.mems.mem-index c.requires c.mems-test.true

pub mems-preserved : goal.mems-preserved
mems-preserved c = record {
  behind = λ n low. (c.first_of-next.ensures n).1 (c.mems.invariant.behind n low, c.next_in.ensures.behind n low);
  none = λ n low before.
      let both = (c.first_of-next.ensures n).0 before in
      none_more c.args.pool.now c.args.mems.now c.mems.mem-index n c.mems-test.true (c.mems.invariant.none n low both.0) (c.next_in.ensures.none n low both.1) _ (take_more c.args.mems.now c.mems.mem-index blank c.mems-test.true);
}
