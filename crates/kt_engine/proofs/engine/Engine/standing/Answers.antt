use Rattle.std.proofs.Common.{◌≡◌, IsTrue, Some, None, subst, ◌+◌, ◌++◌, length}
use Rattle.std.specs.List.{All}
use Rattle.kt_disk.specs.Disk.{Files}
use Rattle.kt_journal.specs.Open.{JournalView}
use Rattle.kt_storeside.specs.Sides.{SpellMade}
use Rattle.kt_loglaws.specs.Side.{all_of}
use Rattle.kt_loglaws.specs.Appended.{WasAppended}
use Rattle.kt_storeside.specs.Published.{WasPublished}
use Rattle.kt_engine.specs.Logged.{IsPlaced, IsThere}
use Rattle.kt_engine.specs.Engines.{EngineView, IsEngine, LeavesRecords, Recovers, RecoversEach, RecoversAll}
use Rattle.kt_engine.proofs.Crashes.{leaves_records, recovers, recovers_each, recovers_all}
use Rattle.kt_engine.specs.Pairs.{RecoversAllOfBoth, LeavesPublished}
use Rattle.kt_engine.specs.Stored.{AreMarked, IsStored, RecoversPair, RecoversBoth, HasFailed}
use Rattle.kt_engine.proofs.Pairs.{recovers_pair, has_either, recovers_both, has_failed}
use Rattle.kt_engine.proofs.Whole.{recovers_all_of_both, leaves_published, are_marked}
use Rattle.kt_engine.proofs.Placed.{placed_among, placed_there}
use Rattle.kt_engine.proofs.engine.Engine.standing.Goals as goal

pub returns-clause-recovers : goal.returns-clause-recovers
returns-clause-recovers g c =
    subst (λ (v : EngineView _ _ _). Recovers g.L.Disk.tells g.L.Disk.now g.L.Disk.leaves v) c.self.view_is
    (recovers g.L.Disk.tells g.L.Disk.seen g.L.Disk.now g.L.Disk.leaves g.L.Disk.faults _ c.self.invariant.0 (rw c.deref-2.ensures at c.durable.ensures.held))

pub returns-clause-leaves : goal.returns-clause-leaves
returns-clause-leaves g c =
    subst (λ (v : EngineView _ _ _). LeavesRecords g.L.Disk.tells g.L.Disk.now g.L.Disk.leaves v) c.self.view_is
    (leaves_records g.L.Disk.tells g.L.Disk.seen g.L.Disk.now g.L.Disk.leaves g.L.Disk.faults _ c.self.invariant.1.run c.self.invariant.0 c.self.invariant.1.all c.self.invariant.1.near (rw c.deref-2.ensures at c.durable.ensures.held))

pub returns-clause-stops : goal.returns-clause-stops
returns-clause-stops g c = (subst (λ (v : EngineView _ _ _). IsEngine g.L.Disk.tells g.L.Disk.seen g.L.Disk.now g.L.Disk.leaves g.L.Disk.faults v) c.self.view_is c.self.invariant.0).stops

pub returns-clause-recovers_each : goal.returns-clause-recovers_each
returns-clause-recovers_each g c =
    subst (λ (v : EngineView _ _ _). RecoversEach g.L.Disk.tells g.L.Disk.seen v) c.self.view_is
    (recovers_each g.L.Disk.tells g.L.Disk.seen g.L.Disk.now g.L.Disk.leaves g.L.Disk.faults _ c.self.invariant.0)

pub returns-clause-recovers_all : goal.returns-clause-recovers_all
returns-clause-recovers_all g c =
    subst (λ (v : EngineView _ _ _). RecoversAll g.L.Disk.tells g.L.Disk.now g.L.Disk.leaves v) c.self.view_is
    (recovers_all g.L.Disk.tells g.L.Disk.seen g.L.Disk.now g.L.Disk.leaves g.L.Disk.faults _ c.self.invariant.0 (rw c.deref-2.ensures at c.durable.ensures.held))

pub returns-clause-home : goal.returns-clause-home
returns-clause-home g c = (subst (λ (v : EngineView _ _ _). IsEngine g.L.Disk.tells g.L.Disk.seen g.L.Disk.now g.L.Disk.leaves g.L.Disk.faults v) c.self.view_is c.self.invariant.0).home

pub returns-clause-among : goal.returns-clause-among
returns-clause-among g c =
    subst (λ (v : EngineView _ _ _). All (IsPlaced (v.log.known.count + length (v.log.out ++ v.log.queued)) v.tablet.places) v.tablet.core.aloft) c.self.view_is
    (placed_among g.L.Disk.tells g.L.Disk.seen g.L.Disk.now g.L.Disk.leaves g.L.Disk.faults _ c.self.invariant.0)

pub returns-clause-there : goal.returns-clause-there
returns-clause-there g c told =
    subst (λ (v : EngineView _ _ _). All (IsThere (all_of g.L.Disk.seen v.log) v.tablet.places) v.tablet.core.aloft) c.self.view_is
    (placed_there g.L.Disk.tells g.L.Disk.seen g.L.Disk.now g.L.Disk.leaves g.L.Disk.faults _ c.self.invariant.0 told)

pub returns-clause-logged : goal.returns-clause-logged
returns-clause-logged g c = (subst (λ (v : EngineView _ _ _). IsEngine g.L.Disk.tells g.L.Disk.seen g.L.Disk.now g.L.Disk.leaves g.L.Disk.faults v) c.self.view_is c.self.invariant.0).logged

pub returns-clause-at_home : goal.returns-clause-at_home
returns-clause-at_home g c =
    subst (λ (v : EngineView _ _ _). v.log.holder ≡ None → (journal : JournalView _) × (v.log.home ≡ Some journal)) c.self.view_is (rw c.deref-3.ensures at c.by.ensures.home)

pub returns-clause-stored : goal.returns-clause-stored
returns-clause-stored g c = subst (λ (v : EngineView _ _ _). IsStored g.L.Disk.tells g.L.Disk.seen g.D.Disk.tells g.D.Disk.seen g.D.Disk.faults v) c.self.view_is c.self.invariant.1

pub returns-clause-recovers_pair : goal.returns-clause-recovers_pair
returns-clause-recovers_pair g c =
    subst (λ (v : EngineView _ _ _). RecoversPair g.L.Disk.tells g.L.Disk.seen g.D.Disk.tells g.D.Disk.seen v) c.self.view_is (recovers_pair g.L.Disk.tells g.L.Disk.seen g.L.Disk.now g.L.Disk.leaves g.L.Disk.faults g.D.Disk.tells g.D.Disk.seen g.D.Disk.now g.D.Disk.leaves g.D.Disk.faults _ c.self.invariant.0 c.self.invariant.1)

pub returns-clause-recovers_both : goal.returns-clause-recovers_both
returns-clause-recovers_both g c =
    let s = c.standing-2.ensures in
    subst (λ (v : EngineView _ _ _). RecoversBoth g.L.Disk.tells g.L.Disk.now g.L.Disk.leaves g.D.Disk.tells g.D.Disk.now g.D.Disk.leaves v) c.self.view_is
    (recovers_both g.L.Disk.tells g.L.Disk.seen g.L.Disk.now g.L.Disk.leaves g.L.Disk.faults g.D.Disk.tells g.D.Disk.seen g.D.Disk.now g.D.Disk.leaves g.D.Disk.faults _ c.self.invariant.0 c.self.invariant.1 (rw c.deref-2.ensures at c.durable.ensures.held)
    (λ image disk at t left. has_either g.L.Disk.tells g.L.Disk.seen g.L.Disk.now g.L.Disk.leaves g.L.Disk.faults g.D.Disk.tells g.D.Disk.seen g.D.Disk.now g.D.Disk.leaves g.D.Disk.faults _ c.self.invariant.0 c.self.invariant.1 (rw c.deref-4.ensures at s.side) (rw c.deref-4.ensures at s.whole) (rw c.deref-4.ensures at s.crash) t disk at image left))

pub returns-clause-failed : goal.returns-clause-failed
returns-clause-failed g c =
    subst (λ (v : EngineView _ _ _). HasFailed g.L.Disk.faults g.D.Disk.faults v) c.self.view_is (has_failed g.L.Disk.tells g.L.Disk.seen g.L.Disk.now g.L.Disk.leaves g.L.Disk.faults g.D.Disk.tells g.D.Disk.seen g.D.Disk.now g.D.Disk.leaves g.D.Disk.faults _ c.self.invariant.0 c.self.invariant.1 (rw c.deref-4.ensures at c.standing-2.ensures.side))

pub returns-clause-store_at_home : goal.returns-clause-store_at_home
returns-clause-store_at_home g c =
    subst (λ (v : EngineView _ _ _). v.store.holder ≡ None → (disk : _) × (v.store.home ≡ Some disk)) c.self.view_is (rw c.deref-5.ensures at c.by-2.ensures.home)

pub returns-clause-recovers_all_of_both : goal.returns-clause-recovers_all_of_both
returns-clause-recovers_all_of_both g c lt t =
    let s = c.standing-2.ensures in
    subst (λ (v : EngineView _ _ _). RecoversAllOfBoth g.L.Disk.now g.L.Disk.leaves g.D.Disk.now g.D.Disk.leaves v) c.self.view_is
    (recovers_all_of_both g.L.Disk.tells g.L.Disk.seen g.L.Disk.now g.L.Disk.leaves g.L.Disk.faults g.D.Disk.tells g.D.Disk.seen g.D.Disk.now g.D.Disk.leaves g.D.Disk.faults _ c.self.invariant.0 c.self.invariant.1 (rw c.deref-4.ensures at s.whole) (rw c.deref-4.ensures at s.crash) (rw c.deref-2.ensures at c.durable.ensures.held) lt t)

pub returns-clause-published : goal.returns-clause-published
returns-clause-published g c t =
    let s = c.standing-2.ensures in
    subst (λ (v : EngineView _ _ _). LeavesPublished g.D.Disk.seen g.D.Disk.now g.D.Disk.leaves v) c.self.view_is
    (leaves_published g.L.Disk.tells g.L.Disk.seen g.L.Disk.now g.L.Disk.leaves g.L.Disk.faults g.D.Disk.tells g.D.Disk.seen g.D.Disk.now g.D.Disk.leaves g.D.Disk.faults _ c.self.invariant.0 c.self.invariant.1 (rw c.deref-4.ensures at s.whole) (rw c.deref-4.ensures at s.crash) t)

pub returns-clause-marked : goal.returns-clause-marked
returns-clause-marked g c =
    let s = c.standing-2.ensures in
    subst (λ (v : EngineView _ _ _). AreMarked v) c.self.view_is
    (are_marked g.L.Disk.tells g.L.Disk.seen g.L.Disk.now g.L.Disk.leaves g.L.Disk.faults g.D.Disk.tells g.D.Disk.seen g.D.Disk.now g.D.Disk.leaves g.D.Disk.faults _ c.self.invariant.0 c.self.invariant.1 (rw c.deref-4.ensures at s.whole) (rw c.deref-4.ensures at s.crash))

pub returns-clause-made : goal.returns-clause-made
returns-clause-made g c =
    subst (λ (v : EngineView _ _ _). IsTrue g.D.Disk.tells → (disk : _) → v.store.home ≡ Some disk → (image : Files) → g.D.Disk.leaves disk (g.D.Disk.now disk) image → SpellMade g.D.Disk.seen v.store image) c.self.view_is (rw c.deref-4.ensures at c.standing-2.ensures.made)

pub returns-clause-log_moments : goal.returns-clause-log_moments
returns-clause-log_moments g c =
    subst (λ (v : EngineView _ _ _). IsTrue g.L.Disk.tells → (journal : JournalView _) → v.log.home ≡ Some journal → WasAppended g.L.Disk.seen g.L.Disk.now g.L.Disk.leaves v.log.whole v.log.first journal.disk) c.self.view_is (rw c.deref-6.ensures at c.standing-3.ensures.moments)

pub returns-clause-store_moments : goal.returns-clause-store_moments
returns-clause-store_moments g c =
    subst (λ (v : EngineView _ _ _). IsTrue g.D.Disk.tells → (disk : _) → v.store.home ≡ Some disk → WasPublished g.D.Disk.seen g.D.Disk.now g.D.Disk.leaves v.store.first.device disk) c.self.view_is (rw c.deref-4.ensures at c.standing-2.ensures.moments)
