-- Each event keeps the engine and its store.
use Rattle.std.proofs.Common.{◌≡◌, ℕ, ◌≤◌, Bool, Result, true, refl, sym, subst}
use Rattle.std.specs.Prelude.{IfOk, IfErr, OnErr, OnOk, Err}
use Rattle.kt_disk.specs.Disk.{Files}
use Rattle.kt_history.specs.declared.event.Event.TheVariants as event
use Rattle.kt_history.specs.declared.scan.At.{At}
use Rattle.kt_histlaws.specs.Events.{answered}
use Rattle.kt_tablet.specs.declared.tablet.scan.SnapNo.{SnapNo}
use Rattle.kt_tablet.specs.declared.tablet.scan.SnapNo.TheVariants as no
use Rattle.kt_tablet.specs.declared.tablet.LookNo.{LookNo}
use Rattle.kt_tablet.specs.declared.tablet.LookNo.TheVariants as look
use Rattle.kt_loglaws.specs.Side.{SideView}
use Rattle.kt_tablet.specs.declared.tablet.write.BeginNo.{BeginNo}
use Rattle.kt_tablet.specs.declared.tablet.write.BeginNo.TheVariants as begin
use Rattle.kt_tablet.specs.Views.{View}
use Rattle.kt_tablet.specs.Visits.{HasLooked, HasMarked, Leaves}
use Rattle.kt_tablet.specs.Reads.{HasRead, LeavesRead}
use Rattle.kt_engine.specs.Engines.{EngineView, IsEngine}
use Rattle.kt_engine.specs.Stored.{IsStored}
use Rattle.kt_engine.proofs.Lines.{KeepsLines, line_keeps, look_keeps, mark_keeps, chore_keeps, snapshot_keeps}
use Rattle.kt_engine.proofs.Stored.{line_stored, room_stored}
use Rattle.kt_engine.proofs.Begun.{left_alone, roomed_on}

module _ {L D C : Type 0} (log_tells : Bool) (log_seen : L → Files) (log_now : L → ℕ) (log_leaves : L → ℕ → Files → Type 0) (log_faults : L → ℕ) (tells : Bool) (seen : D → Files) (faults : D → ℕ) (view : EngineView L D C) where
  -- the engine and its store stand with another tablet
  abbrev pub Both : View C → Type 0
  Both tablet = IsEngine log_tells log_seen log_now log_leaves log_faults (record view { tablet = tablet }) × IsStored log_tells log_seen tells seen faults (record view { tablet = tablet })

  abbrev pub BothStand : Type 0
  BothStand = IsEngine log_tells log_seen log_now log_leaves log_faults view × IsStored log_tells log_seen tells seen faults view

  lines : BothStand → KeepsLines Both view.tablet
  lines is = (
    (is.0, is.1),
    λ e a c turns clock goes quiet other rise moves up. (
      line_keeps log_tells log_seen log_now log_leaves log_faults view _ e a c turns clock is.0 goes quiet other up refl,
      line_stored log_tells log_seen tells seen faults view is.1 e a c turns view.tablet.core.stopped clock quiet rise moves up,
    ),
  )

  pub look_both : (tablet : View C) (s i : ℕ) (result : Result ℕ LookNo) → BothStand → (view.tablet.core.stopped ≡ true → result ≡ Err look.Stopped) → IfOk result (λ t. HasLooked view.tablet.core tablet.core s i t)
      → tablet ≡ record view.tablet { core = tablet.core; clock = tablet.clock } → OnErr result (tablet ≡ view.tablet) → Both tablet
  look_both tablet s i result is stops has beside same = look_keeps Both view.tablet tablet s i result (lines is) stops has beside same

  pub mark_both : (tablet : View C) (s i to : ℕ) (result : Result ℕ LookNo) → BothStand → (view.tablet.core.stopped ≡ true → result ≡ Err look.Stopped) → IfOk result (λ a. HasMarked view.tablet.core tablet.core s i to a)
      → tablet ≡ record view.tablet { core = tablet.core } → OnErr result (tablet ≡ view.tablet) → Both tablet
  mark_both tablet s i to result is stops has beside same = mark_keeps Both view.tablet tablet s i to result (lines is) stops has beside same

  pub chore_both : {T : Type 0} (tablet : View C) (s i : ℕ) (result : Result T LookNo) → BothStand → (view.tablet.core.stopped ≡ true → result ≡ Err look.Stopped) → OnOk result (tablet ≡ record view.tablet { core = answered view.tablet.core s i (event.Chore s i) })
      → OnErr result (tablet ≡ view.tablet) → Both tablet
  chore_both tablet s i result is stops new same = chore_keeps Both view.tablet tablet s i result (lines is) stops new same

  pub snapshot_both : {R : Type 0} (tablet : View C) (s i : ℕ) (at : At) (time : R → ℕ) (result : Result R SnapNo) → BothStand → (view.tablet.core.stopped ≡ true → result ≡ Err no.Stopped) → IfOk result (λ snap. HasRead view.tablet.core tablet.core s i at (time snap))
      → tablet ≡ record view.tablet { core = tablet.core } → IfErr result (LeavesRead view.tablet tablet s i) → Both tablet
  snapshot_both tablet s i at time result is stops has beside left = snapshot_keeps Both view.tablet tablet s i at time result (lines is) stops has beside left

  pub left_both : {T : Type 0} (tablet : View C) (s i : ℕ) (r : Result T BeginNo) (why : BeginNo) → r ≡ Err why → (view.tablet.core.stopped ≡ true → r ≡ Err begin.Stopped) → tablet ≡ record view.tablet { core = tablet.core } → Leaves view.tablet tablet s i why
      → BothStand → Both tablet
  left_both tablet s i r why was stops beside h is = left_alone Both view.tablet tablet s i r why was stops beside h (lines is)

  -- a tablet that was asked and is as it was
  pub same_both : (tablet : View C) → tablet ≡ view.tablet → BothStand → Both tablet
  same_both tablet same is = subst Both (sym same) is

  -- more room, over such a tablet
  pub roomed_both : (tablet : View C) (log : SideView L) → tablet ≡ view.tablet → log ≡ record view.log { room = log.room } → view.log.room ≤ log.room → BothStand
      → IsEngine log_tells log_seen log_now log_leaves log_faults (record view { tablet = tablet; log = log }) × IsStored log_tells log_seen tells seen faults (record view { tablet = tablet; log = log })
  roomed_both tablet log same is_log more is = (
    roomed_on log_tells log_seen log_now log_leaves log_faults view tablet log same is_log more is.0,
    subst (λ (t : View C). IsStored log_tells log_seen tells seen faults (record view { tablet = t; log = log })) (sym same)
        (subst (λ (l : SideView L). IsStored log_tells log_seen tells seen faults (record view { log = l })) (sym is_log) (room_stored log_tells log_seen tells seen faults view is.1 log.room)),
  )
