use Rattle.std.proofs.Common.{subst}
use Rattle.kt_diskrowset.specs.Mems.{AllStand}
use Rattle.kt_diskrowset.proofs.Beside.{last_stands}
use Rattle.kt_diskrowset.proofs.Leaving.{none_emptied}
use Rattle.kt_diskrowset.proofs.Settled.{last_leaves}
use Rattle.kt_diskrowset.proofs.rowset.rewriting.empty_all.Goals as goal

pub mems-init : goal.mems-init
mems-init c = none_emptied c.args.mems.now.items c.args.pool.now c.requires.stand c.requires.apart

pub empty_into-requires : goal.empty_into-requires
empty_into-requires c = last_stands c.mems.pool c.pop.new.self.items c.in-Some.mem (subst (AllStand c.mems.pool) c.in-Some.ensures.items c.mems.invariant.stand)

pub mems-preserved : goal.mems-preserved
mems-preserved c =
    last_leaves c.args.mems.now.items c.mems.mems.items c.pop.new.self.items c.in-Some.mem c.args.pool.now c.mems.pool c.empty_into.new.pool c.mems.invariant c.in-Some.ensures.items
    c.empty_into.ensures.frame c.empty_into.ensures.fewer c.empty_into.ensures.reserved c.empty_into.ensures.size
