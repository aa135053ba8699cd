use Rattle.kt_engine.proofs.Both.{chore_both}
use Rattle.kt_engine.proofs.engine.Engine.chore_done.Goals as goal

pub invariant_of-self : goal.invariant_of-self
invariant_of-self g c =
    let is = c.deref_mut.ensures.value in
    chore_both g.L.Disk.tells g.L.Disk.seen g.L.Disk.now g.L.Disk.leaves g.L.Disk.faults g.D.Disk.tells g.D.Disk.seen g.D.Disk.faults _ c.chore_done.new.self c.args.number c.args.index c.chore_done.result c.self.invariant (rw is at c.chore_done.ensures.stopped) (rw is at c.chore_done.ensures.answered) (rw is at c.chore_done.ensures.same)
