use Rattle.kt_engine.proofs.Both.{mark_both}
use Rattle.kt_engine.proofs.engine.Engine.mark.Goals as goal

pub invariant_of-self : goal.invariant_of-self
invariant_of-self g c =
    let is = c.deref_mut.ensures.value in
    mark_both g.L.Disk.tells g.L.Disk.seen g.L.Disk.now g.L.Disk.leaves g.L.Disk.faults g.D.Disk.tells g.D.Disk.seen g.D.Disk.faults _ c.mark.new.self c.args.number c.args.index c.args.to c.mark.result c.self.invariant (rw is at c.mark.ensures.stopped) (rw is at c.mark.ensures.marked) (rw is at c.mark.ensures.beside) (rw is at c.mark.ensures.same)
