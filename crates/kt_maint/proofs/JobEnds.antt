-- A job whose outputs are written, and whose superblock goes out.
use Rattle.std.proofs.Common.{◌≡◌, ◌≢◌, ℕ, Bool, Some, None, Result, Ok, Err, sym, subst}
use Rattle.std.specs.Prelude.{OnOk}
use Rattle.kt_disk.specs.Disk.{Files}
use Rattle.kt_pick.specs.declared.rules.Want.{Want}
use Rattle.kt_engine.specs.Engines.{EngineView}
use Rattle.kt_engine.specs.declared.job.MaintNo.{MaintNo}
use Rattle.kt_engine.specs.declared.job.MaintNo.TheVariants as no
use Rattle.kt_engine.specs.Jobs.{JobView, job_of}
use Rattle.kt_engine.specs.JobCalls.{MayGoOut}
use Rattle.kt_engine.specs.Visits.{IsVisit}
use Rattle.kt_engine.proofs.Visiting.{root_stays}
use Rattle.kt_maint.specs.Runs.{KeepsAsks, IsPublished}
use Rattle.kt_maint.specs.JobRuns.{MergeIsWritten, OneIsWritten, IsWrittenBy, MayEnd}
use Rattle.kt_maint.proofs.ByWants.{either_by}
use Rattle.kt_maint.proofs.DeltaSteps.{one_ends}
use Rattle.kt_maint.proofs.Written.{merge_ends}

module _ {L D C : Type 0} (tells : Bool) (seen : D → Files) (now : D → ℕ) (leaves : D → ℕ → Files → Type 0) (n : ℕ) (w : Want) (v : EngineView L D C) (written : IsWrittenBy tells seen now leaves v n w) where
  abbrev Merge : Type 0
  Merge = MergeIsWritten tells seen now leaves v n w

  abbrev One : ℕ → Type 0
  One r = OneIsWritten tells seen now leaves v n w

  -- it may go out
  pub record ToGo : Type 0 where
    pub job : JobView
    pub has : job_of n v.upkeep ≡ Some job
    pub may : MayGoOut tells seen now leaves v job job.output
    pub free : v.upkeep.publishing ≡ None

  pub to_go : ToGo
  to_go = either_by Merge One ToGo w
      (λ merges m. record { job = m.has.at.job; has = m.has.at.has; may = subst (MayGoOut tells seen now leaves v m.has.at.job) (sym m.may.output) m.may; free = m.has.at.free })
      (λ r on x. record { job = x.at.job; has = x.at.has; may = subst (MayGoOut tells seen now leaves v x.at.job) (sym x.may.output) x.may; free = x.at.free }) written

  -- and where it came home published the job may end
  pub may_end : (new : EngineView L D C) (r : Result (Unit {0}) MaintNo) → ((job : JobView) → job_of n v.upkeep ≡ Some job → OnOk r (IsPublished n job v new)) → IsVisit n v new → (r ≢ Err no.Stopped → KeepsAsks n v.upkeep new.upkeep) → OnOk r (MayEnd new n w)
  may_end new (Ok done) published visit asks = either_by Merge One (MayEnd new n w) w
      (λ merges m. merge_ends tells seen now leaves n v new w merges m (root_stays n v new visit) (asks (λ e. cc)).begun published)
      (λ r on x. one_ends tells seen now leaves n v new w x published) written
  may_end new (Err e) published visit asks = tt
