use Rattle.std.proofs.Common.{sym}
use Rattle.kt_engine.proofs.JobBegins.{untouched_is}
use Rattle.kt_engine.proofs.JobBoth.{untouched_both}
use Rattle.kt_engine.proofs.engine.Engine.make_place.Goals as goal

pub invariant_of-self : goal.invariant_of-self
invariant_of-self g c = untouched_both g.L.Disk.tells g.L.Disk.seen g.L.Disk.now g.L.Disk.leaves g.L.Disk.faults g.D.Disk.tells g.D.Disk.seen g.D.Disk.faults _ c.make_place.new.self c.args.number c.make_place.ensures.same c.make_place.ensures.begun c.self.invariant

pub returns-clause-same : goal.returns-clause-same
returns-clause-same g c = rw (sym c.self.view_is) (untouched_is _ c.args.number c.make_place.new.self c.make_place.ensures.same c.make_place.ensures.begun)
