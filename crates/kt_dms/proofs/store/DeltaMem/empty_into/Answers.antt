use Rattle.kt_dms.proofs.Releasing.{tree_stays, emptied_fewer, emptied_gone, emptied_frame}
use Rattle.kt_dms.proofs.store.DeltaMem.empty_into.Goals as goal

pub empty_into-requires : goal.empty_into-requires
empty_into-requires c = tree_stays c.args.self.now c.args.pool.now c.release.new.pool c.release.new.pool c.requires c.release.ensures

pub returns-clause-gone : goal.returns-clause-gone
returns-clause-gone c = emptied_gone c.args.self.now c.args.pool.now c.release.new.pool c.empty_into.new.pool c.requires c.release.ensures c.empty_into.ensures.gone c.empty_into.ensures.frame

pub returns-clause-frame : goal.returns-clause-frame
returns-clause-frame c = emptied_frame c.args.self.now c.args.pool.now c.release.new.pool c.empty_into.new.pool c.requires c.release.ensures c.empty_into.ensures.gone c.empty_into.ensures.frame

pub returns-clause-fewer : goal.returns-clause-fewer
returns-clause-fewer c = emptied_fewer c.args.self.now c.args.pool.now c.release.new.pool c.empty_into.new.pool c.requires c.release.ensures c.empty_into.ensures.used
