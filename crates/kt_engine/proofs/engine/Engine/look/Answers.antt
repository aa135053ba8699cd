use Rattle.kt_engine.proofs.Both.{look_both}
use Rattle.kt_engine.proofs.engine.Engine.look.Goals as goal

pub invariant_of-self : goal.invariant_of-self
invariant_of-self g c =
    let is = c.deref_mut.ensures.value in
    look_both g.L.Disk.tells g.L.Disk.seen g.L.Disk.now g.L.Disk.leaves g.L.Disk.faults g.D.Disk.tells g.D.Disk.seen g.D.Disk.faults _ c.look.new.self c.args.number c.args.index c.look.result c.self.invariant (rw is at c.look.ensures.stopped) (rw is at c.look.ensures.looked) (rw is at c.look.ensures.beside) (rw is at c.look.ensures.same)
