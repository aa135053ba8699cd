use Rattle.std.proofs.Common.{refl}
use Rattle.kt_memrowset.proofs.Releasing.{bare_owns, bare_had, bare_store, tree_stays, emptied_fewer, emptied_gone, emptied_frame}
use Rattle.kt_memrowset.proofs.store.MemRowSet.empty_into.Goals as goal

pub release-requires : goal.release-requires
release-requires c = record { trails = c.requires.trails; once = c.requires.once }

pub empty_into-requires : goal.empty_into-requires
empty_into-requires c = tree_stays c.args.self.now c.args.pool.now c.release.new.pool c.release.new.pool c.requires c.release.ensures

pub returns-clause-store : goal.returns-clause-store
returns-clause-store c = bare_store (record { id = c.args.self.now.id; frozen = c.args.self.now.frozen; tree = c.empty_into.new.self; newest = 0xffff_ffff }) c.empty_into.new.pool c.empty_into.ensures.tree c.empty_into.ensures.empty c.empty_into.ensures.bare refl

pub returns-clause-bare : goal.returns-clause-bare
returns-clause-bare c = bare_owns (record { id = c.args.self.now.id; frozen = c.args.self.now.frozen; tree = c.empty_into.new.self; newest = 0xffff_ffff }) c.empty_into.new.pool c.empty_into.ensures.tree c.empty_into.ensures.empty c.empty_into.ensures.bare refl

pub returns-clause-none : goal.returns-clause-none
returns-clause-none c = bare_had (record { id = c.args.self.now.id; frozen = c.args.self.now.frozen; tree = c.empty_into.new.self; newest = 0xffff_ffff }) c.empty_into.new.pool c.empty_into.ensures.tree c.empty_into.ensures.empty c.empty_into.ensures.bare refl

pub returns-clause-gone : goal.returns-clause-gone
returns-clause-gone c = emptied_gone c.args.self.now c.args.pool.now c.release.new.pool c.empty_into.new.pool c.requires c.release.ensures c.empty_into.ensures.gone c.empty_into.ensures.frame

pub returns-clause-frame : goal.returns-clause-frame
returns-clause-frame c = emptied_frame c.args.self.now c.args.pool.now c.release.new.pool c.empty_into.new.pool c.requires c.release.ensures c.empty_into.ensures.gone c.empty_into.ensures.frame

pub returns-clause-fewer : goal.returns-clause-fewer
returns-clause-fewer c = emptied_fewer c.args.self.now c.args.pool.now c.release.new.pool c.empty_into.new.pool c.requires c.release.ensures c.empty_into.ensures.used
