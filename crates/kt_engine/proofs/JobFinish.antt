-- A job is over, and the engine and its store stand.
use Rattle.std.proofs.Common.{◌≡◌, ◌≤◌, ℕ, Bool, List, ◌++◌, map, Option, Some, None, refl, sym, ap, ◌∙◌, subst}
use Rattle.kt_disk.specs.Disk.{Files}
use Rattle.kt_history.specs.declared.target.Target.{Target}
use Rattle.kt_history.specs.Stores.{Store}
use Rattle.kt_pool.specs.Contents.{Contents}
use Rattle.kt_diskrowset.specs.declared.rowset.DiskRowSet.{DiskRowSet}
use Rattle.kt_diskrowset.specs.declared.data.RowSetData.{RowSetData}
use Rattle.kt_diskrowset.specs.Rowset.{HeldFiles, held_of, store_of, name_of}
use Rattle.kt_super.specs.declared.meta.Meta.{Meta}
use Rattle.kt_pick.specs.declared.rules.Want.{Want}
use Rattle.kt_tablet.specs.Views.{View}
use Rattle.kt_stores.specs.Takes.{Takes, files_left}
use Rattle.kt_tablet.specs.Jobs.{HasChangedOver}
use Rattle.kt_engine.specs.declared.upkeep.Job.{Job}
use Rattle.kt_engine.specs.Over.{Over, bare_store, first_name}
use Rattle.kt_engine.specs.Engines.{EngineView, IsEngine}
use Rattle.kt_engine.specs.Stored.{IsStored, over, files_at}
use Rattle.kt_engine.specs.Jobs.{JobView, UpkeepsView, HasUpkeep, job_of, upkeep_at, job_finished, over_by, over_for, over_of, takes_by, takes_of}
use Rattle.kt_engine.specs.Files.{publisher_by, job_at, files_by, files_over}
use Rattle.kt_engine.specs.JobSteps.{MayFinish, outputs_of}
use Rattle.kt_engine.specs.Outputs.{AreOutputs}
use Rattle.kt_engine.specs.Upkeeps.{job_in}
use Rattle.kt_engine.specs.Visits.{IsVisit}
use Rattle.kt_engine.proofs.Filed.{own_job}
use Rattle.kt_engine.proofs.Finished.{over_core, over_names, over_frozen, over_files, is_over, finished_keeps, finished_stored}
use Rattle.kt_engine.proofs.NewRowsets.{outputs_stores, outputs_names}
use Rattle.kt_engine.proofs.Outsiders.{none_kept, none_beside}
use Rattle.kt_engine.proofs.Upkeeps.{jobs_kept}
use Rattle.kt_engine.proofs.Visiting.{shelf_visit}

-- ---- what it gives is what its files tell

pub gives_stores : (w : Want) (left : Job) (job : JobView) (pool : Contents) → AreOutputs left.outputs.metas left.outputs.rowsets → job_in w left ≡ job → map (λ (d : DiskRowSet). store_of d pool) left.outputs.rowsets ≡ map bare_store (outputs_of job)
gives_stores w left job pool stand is = outputs_stores pool left.outputs.metas left.outputs.rowsets stand ∙ ap (λ (j : JobView). map bare_store (outputs_of j)) is

pub gives_names : (w : Want) (left : Job) (job : JobView) → AreOutputs left.outputs.metas left.outputs.rowsets → job_in w left ≡ job → map name_of left.outputs.rowsets ≡ map first_name (outputs_of job)
gives_names w left job stand is = outputs_names left.outputs.metas left.outputs.rowsets stand ∙ ap (λ (j : JobView). map first_name (outputs_of j)) is

pub gives_files : (w : Want) (left : Job) (job : JobView) → job_in w left ≡ job → map held_of left.outputs.rowsets ≡ job.held
gives_files w left job is = ap (λ (j : JobView). j.held) is

pub gives_takes : (w : Want) (left : Job) (job : JobView) → job_in w left ≡ job → takes_by left.taken left.last_mem ≡ takes_of job
gives_takes w left job is = ap takes_of is

pub changed_is : {C : Type 0} (old new : View C) (t u : Takes) (stores others : List Store) (names targets : List Target) (files held : List HeldFiles) → t ≡ u → stores ≡ others → names ≡ targets → files ≡ held → HasChangedOver old new t stores names files
    → HasChangedOver old new u others targets held
changed_is old new t u stores others names targets files held takes same alike own h =
    subst (λ (s : Takes). HasChangedOver old new s others targets held) takes
    (subst (λ (ss : List Store). HasChangedOver old new t ss targets held) same (subst (λ (ns : List Target). HasChangedOver old new t stores ns held) alike (subst (HasChangedOver old new t stores names) own h)))

-- ---- the engine

module _ {L D C : Type 0} (log_tells : Bool) (log_seen : L → Files) (log_now : L → ℕ) (log_leaves : L → ℕ → Files → Type 0) (log_faults : L → ℕ) (tells : Bool) (seen : D → Files) (faults : D → ℕ) (view : EngineView L D C) (tablet : View C) (upkeep : UpkeepsView)
    (n : ℕ) (job : JobView) (h : HasChangedOver view.tablet tablet (takes_of job) (map bare_store (outputs_of job)) (map first_name (outputs_of job)) job.held) (has : HasUpkeep n (job_finished job.want (upkeep_at n view.upkeep.passes)) view.upkeep upkeep) where
  pub finished_both : job_of n view.upkeep ≡ Some job → MayFinish view n job → (upkeep.begun ≡ view.upkeep.begun) × (upkeep.publishing ≡ None)
      → IsEngine log_tells log_seen log_now log_leaves log_faults view × IsStored log_tells log_seen tells seen faults view
      → IsEngine log_tells log_seen log_now log_leaves log_faults (record view { tablet = tablet; upkeep = upkeep }) × IsStored log_tells log_seen tells seen faults (record view { tablet = tablet; upkeep = upkeep })
  finished_both had may same is =
      let o : Over = record { number = job.super; takes = takes_of job; outputs = outputs_of job } in
      let over_is : over view ≡ Some o = ap (λ (p : Option ℕ). over_by p view.upkeep) may.published.0 ∙ ap over_of had ∙ ap (λ (p : Option RowSetData). over_for p job) may.output in (
        finished_keeps view tablet upkeep (takes_of job) (outputs_of job) job.held h log_tells log_seen log_now log_leaves log_faults job.last_mem (λ none. may.begun (sym same.0 ∙ none)) may.small may.given is.0,
        finished_stored view tablet upkeep (takes_of job) (outputs_of job) job.held h log_tells log_seen tells seen faults is.1 o job.last_mem over_is refl refl may.published.1 may.published.2 told same.1 same.0 may.given
            (jobs_kept (view.records ++ is.1.run) n (job_finished job.want (upkeep_at n view.upkeep.passes)) view.upkeep upkeep has (λ j e. absurd (let no : None ≡ Some j = e in cc)) is.1.jobs)
            (none_kept n (job_finished job.want (upkeep_at n view.upkeep.passes)) view.upkeep upkeep has (λ j e. absurd (let no : None ≡ Some j = e in cc)) (none_beside view is.1.run is.1.outside n may.published.0)),
      )
    where
      -- from its superblock on each is told of the files that memory has then
      told : (m : Meta) → job.super ≤ m.number → files_at view m ≡ files_left (takes_of job) view.tablet.files ++ job.held
      told m up =
          ap (λ (p : Option ℕ). files_over (job_at m.number (publisher_by p view.upkeep)) view.tablet.files) may.published.0
          ∙ ap (λ (j : Option JobView). files_over (job_at m.number j) view.tablet.files) had
          ∙ ap (λ (j : Option JobView). files_over j view.tablet.files) (own_job m.number job up)
          ∙ ap (λ (p : Option RowSetData). files_by p (takes_of job) job.held view.tablet.files) may.output

  pub finish_visit : IsVisit n view (record view { tablet = tablet; upkeep = upkeep })
  finish_visit =
      shelf_visit n (job_finished job.want (upkeep_at n view.upkeep.passes)) view tablet upkeep (over_core view tablet upkeep (takes_of job) (outputs_of job) job.held h).stores (over_names view tablet upkeep (takes_of job) (outputs_of job) job.held h)
      (over_frozen view tablet upkeep (takes_of job) (outputs_of job) job.held h) tablet.pool (over_files view tablet upkeep (takes_of job) (outputs_of job) job.held h) (is_over view tablet upkeep (takes_of job) (outputs_of job) job.held h) has
