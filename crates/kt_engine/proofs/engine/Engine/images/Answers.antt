use Rattle.std.proofs.Common.{subst}
use Rattle.kt_engine.specs.Engines.{EngineView}
use Rattle.kt_engine.specs.Moments.{LogLeavesSome, StoreLeavesEither}
use Rattle.kt_engine.proofs.Crashes.{leaves_some}
use Rattle.kt_engine.proofs.Pairs.{has_either}
use Rattle.kt_engine.proofs.engine.Engine.images.Goals as goal

pub returns-clause-log : goal.returns-clause-log
returns-clause-log g c =
    subst (λ (v : EngineView _ _ _). LogLeavesSome g.L.Disk.tells g.L.Disk.seen g.L.Disk.now g.L.Disk.leaves v) c.self.view_is
    (λ t journal at image left. leaves_some g.L.Disk.tells g.L.Disk.seen g.L.Disk.now g.L.Disk.leaves g.L.Disk.faults _ c.self.invariant.0 (rw c.deref.ensures at c.durable.ensures.held) t journal at image left)

pub returns-clause-store : goal.returns-clause-store
returns-clause-store g c =
    let s = c.standing.ensures in
    subst (λ (v : EngineView _ _ _). StoreLeavesEither g.D.Disk.tells g.D.Disk.seen g.D.Disk.now g.D.Disk.leaves v) c.self.view_is
    (λ t disk at image left. has_either g.L.Disk.tells g.L.Disk.seen g.L.Disk.now g.L.Disk.leaves g.L.Disk.faults g.D.Disk.tells g.D.Disk.seen g.D.Disk.now g.D.Disk.leaves g.D.Disk.faults _ c.self.invariant.0 c.self.invariant.1
    (rw c.deref-2.ensures at s.side) (rw c.deref-2.ensures at s.whole) (rw c.deref-2.ensures at s.crash) t disk at image left)
