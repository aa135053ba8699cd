use Rattle.std.proofs.Common.{sym}
use Rattle.kt_engine.proofs.Plans.{plan_keeps}
use Rattle.kt_engine.proofs.Stored.{running_stored}
use Rattle.kt_engine.proofs.StoredPlans.{plan_stored}
use Rattle.kt_engine.proofs.Sessions.{running_keeps}
use Rattle.kt_engine.proofs.engine.Engine.set_plan.Goals as goal

pub invariant_of-self : goal.invariant_of-self
invariant_of-self g c =
    let old = sym c.self.view_is in (
      running_keeps g.L.Disk.tells g.L.Disk.seen g.L.Disk.now g.L.Disk.leaves g.L.Disk.faults _ _
          (plan_keeps g.L.Disk.tells g.L.Disk.seen g.L.Disk.now g.L.Disk.leaves g.L.Disk.faults _ c.set_plan.new.self c.args.plan.now c.self.invariant.0 (rw old at c.requires.fresh.0) (rw old at c.requires.unplanned) (rw c.deref_mut.ensures.value at c.set_plan.ensures)),
      running_stored g.L.Disk.tells g.L.Disk.seen g.D.Disk.tells g.D.Disk.seen g.D.Disk.faults _ (plan_stored g.L.Disk.tells g.L.Disk.seen g.D.Disk.tells g.D.Disk.seen g.D.Disk.faults _ c.self.invariant.1 c.set_plan.new.self c.args.plan.now (rw old at c.requires.fresh.0) (rw old at c.requires.unplanned) (rw c.deref_mut.ensures.value at c.set_plan.ensures)) _,
    )
