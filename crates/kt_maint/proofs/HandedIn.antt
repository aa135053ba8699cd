-- Outputs that are handed in, step by step.
use Rattle.std.proofs.Common.{◌≡◌, ◌≤◌, ◌<◌, ◌+◌, ◌^◌, ℕ, List, Some, None, length, map, refl, sym, ap, subst, ◌∙◌}
use Rattle.kt_diskrowset.specs.declared.data.RowSetData.{RowSetData}
use Rattle.kt_diskrowset.specs.Data.{files_in, held_in}
use Rattle.kt_content.specs.Flushes.{AreFrom}
use Rattle.kt_outputs.specs.Outputs.{meta_in}
use Rattle.kt_engine.specs.declared.upkeep.Stage.{Stage}
use Rattle.kt_engine.specs.declared.upkeep.Stage.TheVariants as stage
use Rattle.kt_engine.specs.Engines.{EngineView}
use Rattle.kt_engine.specs.Visits.{IsVisit}
use Rattle.kt_engine.specs.Jobs.{JobView, UpkeepView, IsAtStage, IsUnpublished, job_of}
use Rattle.kt_engine.specs.JobSteps.{AtNewStage, HasSwapped}
use Rattle.kt_engine.specs.JobCalls.{ByWant, HasTakenOne}
use Rattle.kt_maint.specs.Runs.{IsQuiet, JobIsAt, JobHas, MayAbandon}
use Rattle.kt_maint.specs.JobRuns.{HasHandedIn, HasHandedOne, HandsIn}
use Rattle.kt_engine.proofs.JobCalls.{as_merge, as_rowset}
use Rattle.kt_maint.proofs.ByWants.{either_by}
use Rattle.kt_maint.proofs.Stages.{some_is, beside_then, quiet_stage, goes_on}
use Rattle.kt_maint.proofs.Visiting.{quiet_then}

module _ {L D C : Type 0} (n : ℕ) where
  -- the job of the pass has come to a stage, and nothing else has changed
  pub record ComesTo (s : Stage) (a b : EngineView L D C) : Type 0 where
    pub job : JobView
    pub at : job.stage ≡ s
    pub later : AtNewStage n job a b

  pub come_has : {s : Stage} (a b : EngineView L D C) (h : ComesTo s a b) → job_of n b.upkeep ≡ Some h.job
  come_has a b h = ap (λ (u : UpkeepView). u.job) h.later.upkeep.own

  -- two steps are one
  pub stage_then : (job next : JobView) (a b c : EngineView L D C) → AtNewStage n job a b → AtNewStage n next b c → AtNewStage n next a c
  stage_then job next a b c first second = record {
    upkeep = record {
      own = second.upkeep.own ∙ ap (λ (u : UpkeepView). record u { job = Some next }) first.upkeep.own;
      others = λ k ne. second.upkeep.others k ne ∙ first.upkeep.others k ne;
    };
    begun = (second.begun.0 ∙ first.begun.0, second.begun.1 ∙ first.begun.1);
    beside = beside_then n a b c first.beside second.beside;
  }

  abbrev pub come_then : {s : Stage} (t : Stage) (a b c : EngineView L D C) (h : ComesTo s a b) → AtNewStage n (record h.job { stage = t }) b c → ComesTo t a c
  come_then t a b c h next = record { job = record h.job { stage = t }; at = refl; later = stage_then h.job (record h.job { stage = t }) a b c h.later next }

  pub come_quiet : {s : Stage} (a b : EngineView L D C) → ComesTo s a b → IsVisit n a b → IsQuiet n a b
  come_quiet a b h visit = quiet_stage n a b h.job h.later visit

  pub come_quiet_then : {s : Stage} (t : Stage) (a b c : EngineView L D C) (h : ComesTo s a b) → AtNewStage n (record h.job { stage = t }) b c → IsVisit n a b → IsVisit n b c → IsQuiet n a c
  come_quiet_then t a b c h next first second = quiet_then n a b c (quiet_stage n a b h.job h.later first) (quiet_stage n b c (record h.job { stage = t }) next second)

  -- it may still be given up
  pub come_abandon : {s : Stage} (a b : EngineView L D C) → ComesTo s a b → IsUnpublished s → a.upkeep.publishing ≡ None → MayAbandon b n
  come_abandon a b h early free = record { job = h.job; has = come_has a b h; early = subst IsUnpublished (sym h.at) early; free = h.later.begun.1 ∙ free }

  pub stage_abandon : {s : Stage} (a : EngineView L D C) (job : JobView) → IsAtStage a.upkeep n s job → IsUnpublished s → a.upkeep.publishing ≡ None → MayAbandon a n
  stage_abandon a job is early free = record { job = job; has = is.has; early = subst IsUnpublished (sym is.at) early; free = free }

  module _ (job : JobView) (out : List RowSetData) (a b : EngineView L D C) where
    abbrev pub Swaps : Type 0
    Swaps = HasSwapped n out (map (meta_in 0) out) a b × (length a.tablet.core.stores + length out < 2 ^ 32)

    abbrev pub Takes : ℕ → Type 0
    Takes r = HasTakenOne n job out a b

    -- the outputs were taken
    pub swapped : ByWant job.want Swaps Takes → ComesTo stage.Swapped a b
    swapped = either_by Swaps Takes (ComesTo stage.Swapped a b) job.want
        (λ merges s. record { job = record s.0.job { stage = stage.Swapped; metas = map (meta_in 0) out; held = map held_in out; room = s.0.room }; at = refl; later = s.0.later })
        (λ r on t. record { job = record job { stage = stage.Swapped; output = Some t.d }; at = refl; later = t.later })

    module _ (c d : EngineView L D C) (collect : (j : JobView) → job_of n b.upkeep ≡ Some j → AtNewStage n (record j { stage = stage.Collected }) b c)
        (missed : (j : JobView) → job_of n c.upkeep ≡ Some j → AtNewStage n (record j { stage = stage.Written }) c d) where
      -- and nothing was missed
      written : (j : JobView) → AtNewStage n j a b → AtNewStage n (record j { stage = stage.Written }) a d
      written j h =
          let second = collect j (ap (λ (u : UpkeepView). u.job) h.upkeep.own) in
          let third = missed (record j { stage = stage.Collected }) (ap (λ (u : UpkeepView). u.job) second.upkeep.own) in
          stage_then j (record j { stage = stage.Written }) a b d h (stage_then (record j { stage = stage.Collected }) (record j { stage = stage.Written }) b c d second third)

      handed_in : job_of n a.upkeep ≡ Some job → Swaps → HasHandedIn n job out a d
      handed_in has s =
          let h : AtNewStage n (record job { stage = stage.Swapped; metas = map (meta_in 0) out; held = map held_in out; room = s.0.room }) a b =
          subst (λ (j : JobView). AtNewStage n (record j { stage = stage.Swapped; metas = map (meta_in 0) out; held = map held_in out; room = s.0.room }) a b) (some_is s.0.job job (sym s.0.had ∙ has)) s.0.later in
          record { room = s.0.room; enough = s.0.enough; few = s.1; later = written (record job { stage = stage.Swapped; metas = map (meta_in 0) out; held = map held_in out; room = s.0.room }) h }

      handed_one : HasTakenOne n job out a b → HasHandedOne n job out a d
      handed_one t = record { d = t.d; alone = t.alone; fits = t.fits; later = written (record job { stage = stage.Swapped; output = Some t.d }) t.later }

      pub handed : job_of n a.upkeep ≡ Some job → ByWant job.want Swaps Takes → HandsIn n job out a d
      handed has = either_by Swaps Takes (HandsIn n job out a d) job.want
          (λ merges s. as_merge (HasHandedIn n job out a d) (λ r. HasHandedOne n job out a d) job.want merges (handed_in has s))
          (λ r on t. as_rowset (HasHandedIn n job out a d) (λ r. HasHandedOne n job out a d) job.want r on (handed_one t))

  -- the outputs of a job that merges are there, and stay
  abbrev pub has_handed : (a b : EngineView L D C) (at : JobIsAt a n stage.Read) (out : List RowSetData) → HasHandedIn n at.job out a b → AreFrom at.job.first_rowset (map files_in out) → JobHas b n stage.Written out
  has_handed a b at out h from = record {
    at = goes_on n a b at stage.Written at.job.bound at.job.mark at.job.inputs (map (meta_in 0) out) (map held_in out) h.room at.job.super h.later;
    from = from;
    metas = refl;
    held = refl;
    room = subst (λ (v : EngineView L D C). length v.tablet.core.stores + length out ≤ h.room + v.tablet.frozen + 1) (sym h.later.beside) h.enough;
    few = subst (λ (v : EngineView L D C). length v.tablet.core.stores + length out < 2 ^ 32) (sym h.later.beside) h.few;
  }
