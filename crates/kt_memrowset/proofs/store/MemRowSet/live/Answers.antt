use Rattle.kt_memrowset.proofs.Rows.{found_stands, found_live}
use Rattle.kt_memrowset.proofs.store.MemRowSet.live.Goals as goal

pub is_live-requires : goal.is_live-requires
is_live-requires c = found_stands c.args.self.now c.args.pool.now c.args.key.now c.get.result c.requires c.get.ensures

pub returns : goal.returns
returns c = found_live c.args.self.now c.args.pool.now c.args.key.now c.get.result c.is_live.result c.get.ensures c.is_live.ensures
