use Rattle.kt_engine.proofs.Sessions.{running_keeps}
use Rattle.kt_engine.proofs.Stored.{running_stored}
use Rattle.kt_engine.proofs.Visiting.{visit_of, over_visit}
use Rattle.kt_engine.proofs.engine.Engine.session_over.Goals as goal

pub invariant_of-self : goal.invariant_of-self
invariant_of-self g c = (running_keeps g.L.Disk.tells g.L.Disk.seen g.L.Disk.now g.L.Disk.leaves g.L.Disk.faults _ _ c.self.invariant.0, running_stored g.L.Disk.tells g.L.Disk.seen g.D.Disk.tells g.D.Disk.seen g.D.Disk.faults _ c.self.invariant.1 _)

pub returns-clause-visit : goal.returns-clause-visit
returns-clause-visit g c = visit_of _ _ _ _ c.self.view_is (over_visit c.args.number _ c.leave.new.self c.leave.ensures)
