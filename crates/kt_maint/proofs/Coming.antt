-- A store that went out to publish the superblock of a job, and came home.
use Rattle.std.proofs.Common.{◌≡◌, ◌≢◌, ◌<◌, ◌≤◌, ◌+◌, ℕ, Bool, true, false, Option, Some, None, Result, Ok, Err, refl, sym, ap, subst, ◌∙◌, arith}
use Rattle.std.specs.Prelude.{IsTrue, OnOk}
use Rattle.std.specs.Option.{option_map}
use Rattle.kt_disk.specs.Disk.{Files}
use Rattle.kt_histlaws.specs.Events.{halted}
use Rattle.kt_super.specs.declared.meta.Meta.{Meta}
use Rattle.kt_diskrowset.specs.declared.data.RowSetData.{RowSetData}
use Rattle.kt_storeside.specs.declared.side.Lent.{Lent}
use Rattle.kt_engine.specs.declared.store.Purpose.TheVariants as purpose
use Rattle.kt_engine.specs.declared.job.MaintNo.{MaintNo}
use Rattle.kt_engine.specs.declared.job.MaintNo.TheVariants as no
use Rattle.kt_engine.specs.declared.upkeep.Stage.TheVariants as stage
use Rattle.kt_engine.specs.Engines.{EngineView}
use Rattle.kt_engine.specs.Stored.{job_meta, meta_by}
use Rattle.kt_engine.specs.Visits.{IsVisit}
use Rattle.kt_engine.specs.Jobs.{JobView, UpkeepView, upkeep_at, job_of, rewritten}
use Rattle.kt_engine.specs.JobSteps.{IsLent, HasComeHome, stage_home}
use Rattle.kt_engine.specs.DeltaJobs.{delta_meta}
use Rattle.kt_engine.specs.JobCalls.{MayGoOut, goes_out, lent_with, meta_with}
use Rattle.kt_maint.specs.Runs.{KeepsAsks, HasTurned, HasBroken, MayAbandon, StandsAs, IsPublishing, IsPublished, going_out}
use Rattle.kt_maint.proofs.Visiting.{LentOut, stands_same, stands_halted, turned_visit, broken_turn}

-- the job whose superblock went out
abbrev pub its_job : JobView → ℕ → JobView
its_job job number = record job { stage = stage.Publishing; super = number }

-- it came home published
pub record Came {L D C : Type 0} (n : ℕ) (job : JobView) (b new : EngineView L D C) : Type 0 where
  pub tablet : new.tablet ≡ b.tablet
  pub number : ℕ
  pub has : job_of n new.upkeep ≡ Some (record job { stage = stage.Published; super = number })
  pub own : (new.upkeep.publishing ≡ Some n) × (number ≤ new.store.meta.number) × (new.store.lent ≡ None)
  pub numbers : new.store.next_rowset ≡ b.store.next_rowset

module _ {L D C : Type 0} (n : ℕ) (b out : EngineView L D C) (lent : Lent D) (home : b.store.holder ≡ None) (is : LentOut n b lent out) (job : JobView) (number : ℕ) (went : IsLent n job number b.upkeep out.upkeep) where
  its_has : job_of n out.upkeep ≡ Some (its_job job number)
  its_has = ap (λ (u : UpkeepView). u.job) went.upkeep.own

  module _ (new : EngineView L D C) where
    came_others : (published : Bool) → HasComeHome n (its_job job number) published out.upkeep new.upkeep → (k : ℕ) → (k ≡ n → ⊥) → upkeep_at k new.upkeep.passes ≡ upkeep_at k b.upkeep.passes
    came_others published h k ne = h.upkeep.others k ne ∙ went.upkeep.others k ne

    came_asks : (published : Bool) → HasComeHome n (its_job job number) published out.upkeep new.upkeep → KeepsAsks n b.upkeep new.upkeep
    came_asks published h = record {
      own = h.upkeep.own ∙ ap (λ (u : UpkeepView). record u { job = Some (record (its_job job number) { stage = stage_home published }) }) went.upkeep.own
          ∙ (λ k. record (upkeep_at n b.upkeep.passes) { job = sym (ap (λ (u : UpkeepView). u.job) h.upkeep.own) k });
      begun = h.begun.0 ∙ went.begun.0;
    }

    -- whether it came home published, for want of memory unpublished, or broken
    module _ (r : Result (Unit {0}) MaintNo) (turned : r ≢ Err no.Stopped → HasTurned out new) (broken : r ≡ Err no.Stopped → HasBroken out new)
        (published : (j : JobView) → job_of n out.upkeep ≡ Some j → OnOk r (HasComeHome n j true out.upkeep new.upkeep × (new.store.meta.number ≡ j.super)))
        (memory : (j : JobView) → job_of n out.upkeep ≡ Some j → r ≡ Err no.Memory → HasComeHome n j false out.upkeep new.upkeep) where
      ends : (P : Type 0) → ((home : Bool) → HasComeHome n (its_job job number) home out.upkeep new.upkeep → HasTurned out new → P) → (r ≡ Err no.Stopped → HasBroken out new → P) → P
      ends P goes stops = elim r as (λ x. r ≡ x → P) [
        | Ok done ↦ λ e. goes true (subst (λ x. OnOk x (HasComeHome n (its_job job number) true out.upkeep new.upkeep × (new.store.meta.number ≡ number))) e (published (its_job job number) its_has)).0 (turned (λ h. let both : Ok done ≡ Err no.Stopped = sym e ∙ h in cc))
        | Err no.Stopped ↦ λ e. stops e (broken e)
        | Err no.Memory ↦ λ e. goes false (memory (its_job job number) its_has e) (turned (λ h. let both : ◌≡◌ {A = Result (Unit {0}) MaintNo} (Err no.Memory) (Err no.Stopped) = sym e ∙ h in cc))
      ] refl

      pub publish_visit : IsVisit n b new
      publish_visit = ends (IsVisit n b new) (λ which h t. turned_visit n b out new lent home is t (came_others which h)) (λ e t. broken_turn n b out new lent home is t went.upkeep.others)

      pub publish_stands : StandsAs n b new
      publish_stands = ends (StandsAs n b new) (λ which h t. stands_same n b new (ap (λ (v : EngineView L D C). v.tablet) t.beside ∙ ap (λ (v : EngineView L D C). v.tablet) is))
          (λ e t. stands_halted n b new (ap (λ (v : EngineView L D C). v.tablet) t.beside ∙ ap (λ (v : EngineView L D C). record v.tablet { core = halted v.tablet.core }) is))

      pub publish_log : new.log ≡ b.log
      publish_log = ends (new.log ≡ b.log) (λ which h t. ap (λ (v : EngineView L D C). v.log) t.beside ∙ ap (λ (v : EngineView L D C). v.log) is) (λ e t. ap (λ (v : EngineView L D C). v.log) t.beside ∙ ap (λ (v : EngineView L D C). v.log) is)

      pub publish_asks : r ≢ Err no.Stopped → KeepsAsks n b.upkeep new.upkeep
      publish_asks goes = ends (KeepsAsks n b.upkeep new.upkeep) (λ which h t. came_asks which h) (λ e t. absurd (goes e))

      pub publish_back : r ≡ Err no.Memory → MayAbandon new n
      publish_back e = let h = memory (its_job job number) its_has e in record {
        job = record (its_job job number) { stage = stage.Written };
        has = ap (λ (u : UpkeepView). u.job) h.upkeep.own;
        early = tt;
        free = h.begun.1;
      }

      pub publish_done : (r ≢ Err no.Stopped → new.store.lent ≡ None) → new.store.next_rowset ≡ out.store.next_rowset → OnOk r (Came n job b new)
      publish_done lent_home numbers = elim r as (λ x. r ≡ x → OnOk x (Came n job b new)) [
        | Ok done ↦ λ e.
            let h = subst (λ x. OnOk x (HasComeHome n (its_job job number) true out.upkeep new.upkeep × (new.store.meta.number ≡ number))) e (published (its_job job number) its_has) in
            record {
              tablet = ap (λ (v : EngineView L D C). v.tablet) (turned (λ f. let both : Ok done ≡ Err no.Stopped = sym e ∙ f in cc)).beside ∙ ap (λ (v : EngineView L D C). v.tablet) is;
              number = number;
              has = ap (λ (u : UpkeepView). u.job) h.0.upkeep.own;
              own = (h.0.begun.1 ∙ went.begun.1, (let same = h.1 in omega arith), lent_home (λ f. let both : Ok done ≡ Err no.Stopped = sym e ∙ f in cc));
              numbers = numbers ∙ ap (λ (v : EngineView L D C). v.store.next_rowset) is;
            }
        | Err x ↦ λ e. tt
      ] refl

-- ---- as it went out

-- a job whose superblock may go out is written
pub out_written : {L D C : Type 0} (tells : Bool) (seen : D → Files) (now : D → ℕ) (leaves : D → ℕ → Files → Type 0) (v : EngineView L D C) (job : JobView) (o : Option RowSetData) → MayGoOut tells seen now leaves v job o → job.stage ≡ stage.Written
out_written tells seen now leaves v job None may = may.at
out_written tells seen now leaves v job (Some d) may = may.at

-- the engine as a superblock goes out
abbrev pub outgoing : {L D C : Type 0} → Option RowSetData → EngineView L D C → EngineView L D C
outgoing o v = record v { tablet = going_out o v.tablet }

module _ {L D C : Type 0} (n : ℕ) (v : EngineView L D C) where
  lent_is : (o : Option RowSetData) (out : EngineView L D C) (lent : Lent D) → out ≡ lent_with o v n lent.meta out.upkeep → LentOut n (outgoing o v) lent out
  lent_is None out lent e = e
  lent_is (Some d) out lent e = e

  -- which is seen in no other pass's part
  pub visit_outgoing : (o : Option RowSetData) (new : EngineView L D C) → IsVisit n (outgoing o v) new → IsVisit n v new
  visit_outgoing None new e = record { line = e.line; parts = e.parts }
  visit_outgoing (Some d) new e = record { line = e.line; parts = e.parts }

  pub stands_outgoing : (o : Option RowSetData) (new : EngineView L D C) → StandsAs n (outgoing o v) new → StandsAs n v new
  stands_outgoing None new e = record { line = e.line; session = e.session; place = e.place }
  stands_outgoing (Some d) new e = record { line = e.line; session = e.session; place = e.place }

  stopped_outgoing : (o : Option RowSetData) → (outgoing o v).tablet.core.stopped ≡ v.tablet.core.stopped
  stopped_outgoing None = refl
  stopped_outgoing (Some d) = refl

  pub published_as : (job : JobView) (new : EngineView L D C) (r : Result (Unit {0}) MaintNo) → OnOk r (Came n job (outgoing job.output v) new) → OnOk r (IsPublished n job v new)
  published_as job new (Ok done) h = record { tablet = h.tablet; number = h.number; has = h.has; own = h.own; numbers = h.numbers }
  published_as job new (Err e) h = tt

  -- the superblock that goes out with a job comes next
  pub record IsNext (meta : Option Meta) : Type 0 where
    pub m : Meta
    pub is : meta ≡ Some m
    pub number : m.number ≡ v.store.meta.number + 1
    pub schema : m.schema ≡ v.store.meta.schema

  next_is : (o : Option RowSetData) (job : JobView) → job_of n v.upkeep ≡ Some job → IsNext (meta_with o n purpose.Publish v)
  next_is None job has = record { m = job_meta v job; is = ap (λ (j : Option JobView). Some (meta_by j v)) has; number = refl; schema = refl }
  next_is (Some d) job has = record { m = delta_meta v job.dms d; is = ap (option_map (λ (j : JobView). delta_meta v j.dms d)) has; number = refl; schema = refl }

  -- the store went out with the superblock of the job of the pass
  module _ (out : EngineView L D C) (lent : Lent D) (job : JobView) (has : job_of n v.upkeep ≡ Some job) (went : out ≡ lent_with (goes_out purpose.Publish (job_of n v.upkeep)) v n lent.meta out.upkeep)
      (meta : lent.meta ≡ meta_with (goes_out purpose.Publish (job_of n v.upkeep)) n purpose.Publish v) where
    its_output : goes_out purpose.Publish (job_of n v.upkeep) ≡ job.output
    its_output = ap rewritten has

    pub went_out : LentOut n (outgoing job.output v) lent out
    went_out = lent_is job.output out lent (went ∙ ap (λ (o : Option RowSetData). lent_with o v n lent.meta out.upkeep) its_output)

    pub went_goes : v.tablet.core.stopped ≡ false → out.tablet.core.stopped ≡ false
    went_goes goes = ap (λ (e : EngineView L D C). e.tablet.core.stopped) went_out ∙ stopped_outgoing job.output ∙ goes

    pub its_next : IsNext lent.meta
    its_next = subst IsNext (sym (meta ∙ ap (λ (o : Option RowSetData). meta_with o n purpose.Publish v) its_output)) (next_is job.output job has)

    pub went_publishing : IsLent n job its_next.m.number v.upkeep out.upkeep → lent.device ≡ v.store.known → (lent.next_rowset ≡ v.store.next_rowset) × (lent.next_file ≡ v.store.next_file) → IsTrue v.store.whole → IsPublishing out n lent
    went_publishing lends device numbers whole = record {
      out = ap (λ (e : EngineView L D C). e.store.holder) went_out;
      whole = subst (λ (e : EngineView L D C). IsTrue e.store.whole) (sym went_out) whole;
      device = device ∙ sym (ap (λ (e : EngineView L D C). e.store.known) went_out);
      numbers = (numbers.0 ∙ sym (ap (λ (e : EngineView L D C). e.store.next_rowset) went_out), numbers.1 ∙ sym (ap (λ (e : EngineView L D C). e.store.next_file) went_out));
      meta = its_next.m;
      is = (its_next.is, ap (λ (e : EngineView L D C). e.store.lent) went_out ∙ its_next.is);
      schema = its_next.schema ∙ sym (ap (λ (e : EngineView L D C). e.store.meta.schema) went_out);
      job = its_job job its_next.m.number;
      has = ap (λ (u : UpkeepView). u.job) lends.upkeep.own;
      at = refl;
      own = (lends.begun.1, refl, subst (λ (e : EngineView L D C). e.store.meta.number < its_next.m.number) (sym went_out) (let next = its_next.number in omega arith));
    }
