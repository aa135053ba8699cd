use Rattle.kt_engine.proofs.Both.{snapshot_both}
use Rattle.kt_engine.proofs.engine.Engine.snapshot.Goals as goal

pub invariant_of-self : goal.invariant_of-self
invariant_of-self g c =
    let is = c.deref_mut.ensures.value in
    snapshot_both g.L.Disk.tells g.L.Disk.seen g.L.Disk.now g.L.Disk.leaves g.L.Disk.faults g.D.Disk.tells g.D.Disk.seen g.D.Disk.faults _ c.snapshot.new.self c.args.number c.args.index c.args.at (λ snap. snap.t) c.snapshot.result c.self.invariant (rw is at c.snapshot.ensures.stopped) (rw is at c.snapshot.ensures.read) (rw is at c.snapshot.ensures.beside) (rw is at c.snapshot.ensures.left)
