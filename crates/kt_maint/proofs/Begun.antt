-- A job that has begun, and its end.
use Rattle.std.proofs.Common.{◌⊎◌, ◌≡◌, ◌≢◌, ◌≤◌, ℕ, Bool, true, false, refl, sym, ap, subst, ◌∙◌, inl, inr, arith, List, Option, Some, None, Result, Ok, Err}
use Rattle.std.specs.Prelude.{OnOk}
use Rattle.kt_disk.specs.Disk.{Files}
use Rattle.kt_diskrowset.specs.declared.data.RowSetData.{RowSetData}
use Rattle.kt_history.specs.declared.event.Event.{Event}
use Rattle.kt_histlaws.specs.Parts.{part}
use Rattle.kt_pick.specs.declared.rules.Want.{Want}
use Rattle.kt_pick.specs.declared.rules.Want.TheVariants as want
use Rattle.kt_tablet.specs.Views.{View, place_at}
use Rattle.kt_engine.specs.Engines.{EngineView, IsFound}
use Rattle.kt_engine.specs.declared.upkeep.Stage.TheVariants as stage
use Rattle.kt_engine.specs.Jobs.{JobView, UpkeepView, UpkeepsView, upkeep_at, job_of, asked, job_finished}
use Rattle.kt_engine.specs.JobSteps.{IsMerge, HasTaken, HasBegunJob}
use Rattle.kt_engine.specs.DeltaJobs.{HasBegunDeltas}
use Rattle.kt_engine.specs.JobCalls.{ByWant, HasEndedBy}
use Rattle.kt_engine.specs.Visits.{IsVisit, part_in, root_of}
use Rattle.kt_engine.proofs.Visiting.{root_stays}
use Rattle.kt_maint.specs.Done.{GivesFor}
use Rattle.kt_engine.specs.declared.job.MaintNo.{MaintNo}
use Rattle.kt_engine.specs.declared.job.MaintNo.TheVariants as no
use Rattle.kt_maint.specs.Runs.{KeepsAsks, OnlyJob, IsReady, JobIsAt, HasNoDevice, StandsAs, RunsAs, AddsStop, is_pass}
use Rattle.kt_maint.specs.Outside.{EndsAs, EndsRead, HasEnded, HasReadTheSame, IsAwayBy, KeepsRead, LeftAs, StartsAs, ended}
use Rattle.kt_maint.specs.declared.reworking.Away.{Away}
use Rattle.kt_maint.specs.declared.reworking.Away.TheVariants as away
use Rattle.kt_maint.specs.declared.jobs.Start.{Start}
use Rattle.kt_maint.specs.declared.jobs.Start.TheVariants as start
use Rattle.kt_maint.specs.declared.tries.Turn.{Turn}
use Rattle.kt_maint.specs.declared.tries.Turn.TheVariants as turn
use Rattle.kt_maint.specs.DeltaRuns.{DeltasAt}
use Rattle.kt_maint.specs.JobRuns.{BeginsBy, HasBegunNow, MayEnd, MergeBegins}
use Rattle.kt_maint.proofs.Merged.{gives_then}
use Rattle.kt_maint.proofs.Stages.{some_is}
use Rattle.kt_maint.proofs.Readying.{none_has}
use Rattle.kt_maint.proofs.Visiting.{stands_same, stands_then}

-- of the tablet a flush freezes alone, and a compaction nothing
stands_taken : {L D C : Type 0} (n : ℕ) (a b : EngineView L D C) (w : Want) → HasTaken w a.tablet b.tablet → StandsAs n a b
stands_taken {L} {D} {C} n a b want.Flush f = record { line = inl (ap (λ (t : View C). t.core.trail) f.is); session = ap (λ (t : View C). part t.core n) f.is; place = ap (λ (t : View C). place_at n t.places) f.is }
stands_taken n a b (want.FlushDeltas r) same = stands_same n a b same
stands_taken n a b (want.Minor r) same = stands_same n a b same
stands_taken n a b (want.Major r) same = stands_same n a b same
stands_taken n a b (want.Compact taken) same = stands_same n a b same

module _ {L D C : Type 0} (n : ℕ) (a b : EngineView L D C) where
  -- behind a step that left the tablet
  pub stands_ready : (ready : EngineView L D C) (w : Want) → ready.tablet ≡ a.tablet → HasTaken w ready.tablet b.tablet → StandsAs n a b
  stands_ready ready w same taken = stands_then n a ready b (ap (λ (t : View C). t.core.trail) same) (stands_same n a ready same) (stands_taken n ready b w taken)

  calm_taken : (w : Want) → HasTaken w a.tablet b.tablet → (b.tablet.core.stopped ≡ a.tablet.core.stopped) × (b.tablet.core.aloft ≡ a.tablet.core.aloft)
  calm_taken want.Flush f = (ap (λ (t : View C). t.core.stopped) f.is, ap (λ (t : View C). t.core.aloft) f.is)
  calm_taken (want.FlushDeltas r) same = (ap (λ (t : View C). t.core.stopped) same, ap (λ (t : View C). t.core.aloft) same)
  calm_taken (want.Minor r) same = (ap (λ (t : View C). t.core.stopped) same, ap (λ (t : View C). t.core.aloft) same)
  calm_taken (want.Major r) same = (ap (λ (t : View C). t.core.stopped) same, ap (λ (t : View C). t.core.aloft) same)
  calm_taken (want.Compact taken) same = (ap (λ (t : View C). t.core.stopped) same, ap (λ (t : View C). t.core.aloft) same)

  -- what is so of any job that has begun
  pub record HasBegun (w : Want) : Type 0 where
    pub job : JobView
    pub own : upkeep_at n b.upkeep.passes ≡ asked w job (upkeep_at n a.upkeep.passes)
    pub tablet : HasTaken w a.tablet b.tablet
    pub beside : b ≡ record a { tablet = b.tablet; upkeep = b.upkeep }
    pub begins : BeginsBy b n w

  merge_at : (w : Want) (k : ℕ) (h : HasBegunJob a b n w k) → IsMerge w → JobIsAt b n stage.Begun
  merge_at w k h merges = record {
    job = h.job;
    has = ap (λ (u : UpkeepView). u.job) h.upkeep.own;
    at = h.stage_is;
    want = subst IsMerge (sym h.want_is) merges;
    output = h.output;
    free = h.number.3;
    begun = λ none. (let first = h.number.1 in let same = h.number.2 in omega arith);
    given = subst (λ (v : EngineView L D C). h.job.first_rowset ≤ v.store.next_rowset) (sym h.beside) (let first = h.numbers.0 in omega arith);
    takes = h.takes;
    as_many = h.as_many;
  }

  deltas_at : (w : Want) (k : ℕ) → HasBegunDeltas a b n w k → DeltasAt b n w stage.Begun
  deltas_at w k h = record {
    job = h.job;
    has = ap (λ (u : UpkeepView). u.job) h.upkeep.own;
    at = h.stage_is;
    want = h.want_is;
    on = h.on;
    free = h.number.3;
    begun = λ none. (let first = h.number.1 in let same = h.number.2 in omega arith);
  }

  left : (w : Want) (k : ℕ) → HasBegunDeltas a b n w k → b.tablet ≡ a.tablet
  left w k h = ap (λ (v : EngineView L D C). v.tablet) h.beside

  left_beside : (w : Want) (k : ℕ) → HasBegunDeltas a b n w k → b ≡ record a { tablet = b.tablet; upkeep = b.upkeep }
  left_beside w k h = h.beside ∙ (λ i. record a { tablet = sym (left w k h) i; upkeep = b.upkeep })

  pub has_begun : (w : Want) (k : ℕ) → ByWant w (HasBegunJob a b n w k) (λ r. HasBegunDeltas a b n w k) → HasBegun w
  unfolding merge_at
  has_begun want.Flush k h = record { job = h.job; own = h.upkeep.own; tablet = h.tablet; beside = h.beside; begins = record { at = merge_at want.Flush k h tt; want = h.want_is } }
  has_begun (want.Compact taken) k h = record { job = h.job; own = h.upkeep.own; tablet = h.tablet; beside = h.beside; begins = record { at = merge_at (want.Compact taken) k h tt; want = h.want_is } }
  has_begun (want.FlushDeltas r) k h = record { job = h.job; own = h.upkeep.own; tablet = left (want.FlushDeltas r) k h; beside = left_beside (want.FlushDeltas r) k h; begins = deltas_at (want.FlushDeltas r) k h }
  has_begun (want.Minor r) k h = record { job = h.job; own = h.upkeep.own; tablet = left (want.Minor r) k h; beside = left_beside (want.Minor r) k h; begins = deltas_at (want.Minor r) k h }
  has_begun (want.Major r) k h = record { job = h.job; own = h.upkeep.own; tablet = left (want.Major r) k h; beside = left_beside (want.Major r) k h; begins = deltas_at (want.Major r) k h }

  -- it is ready as before
  pub begun_ready : (w : Want) → HasBegun w → IsReady a → IsReady b
  begun_ready w begun r =
      let calm = calm_taken w begun.tablet in
      record {
        goes = calm.0 ∙ r.goes;
        calm = calm.1 ∙ r.calm;
        settled = (ap (λ (v : EngineView L D C). v.log.queued) begun.beside ∙ r.settled.0, ap (λ (v : EngineView L D C). v.log.out) begun.beside ∙ r.settled.1, ap (λ (v : EngineView L D C). v.log.holder) begun.beside ∙ r.settled.2);
        home = ap (λ (v : EngineView L D C). v.store.holder) begun.beside ∙ r.home;
      }

-- ---- and is over

pub record IsOver {L D C : Type 0} (n : ℕ) (job : JobView) (a b : EngineView L D C) : Type 0 where
  pub own : upkeep_at n b.upkeep.passes ≡ job_finished job.want (upkeep_at n a.upkeep.passes)
  pub beside : (b.log ≡ a.log) × (b.store ≡ a.store)
  pub line : b.tablet.core.trail ≡ a.tablet.core.trail
  pub session : part b.tablet.core n ≡ part a.tablet.core n
  pub place : place_at n b.tablet.places ≡ place_at n a.tablet.places

pub is_over : {L D C : Type 0} (n : ℕ) (a b : EngineView L D C) (job : JobView) (o : Option RowSetData) → job_of n a.upkeep ≡ Some job → HasEndedBy o n a b → IsOver n job a b
is_over {L} {D} {C} n a b job None has h = record {
  own = h.upkeep.own ∙ ap (λ (j : JobView). job_finished j.want (upkeep_at n a.upkeep.passes)) (some_is h.job job (sym h.had ∙ has));
  beside = (ap (λ (v : EngineView L D C). v.log) h.beside, ap (λ (v : EngineView L D C). v.store) h.beside);
  line = ap (λ x. x.trail) h.changed.stores;
  session = ap (λ x. part x n) h.changed.stores;
  place = ap (λ (t : View C). place_at n t.places) h.changed.beside;
}
is_over {L} {D} {C} n a b job (Some d) has h = record {
  own = h.upkeep.own ∙ ap (λ (j : JobView). job_finished j.want (upkeep_at n a.upkeep.passes)) (some_is h.job job (sym h.had ∙ has));
  beside = (ap (λ (v : EngineView L D C). v.log) h.beside, ap (λ (v : EngineView L D C). v.store) h.beside);
  line = ap (λ (v : EngineView L D C). v.tablet.core.trail) h.beside;
  session = ap (λ (v : EngineView L D C). part v.tablet.core n) h.beside;
  place = ap (λ (v : EngineView L D C). place_at n v.tablet.places) h.beside;
}

-- the session stands behind it as before
pub stands_over : {L D C : Type 0} (n : ℕ) (a b c : EngineView L D C) (job : JobView) → StandsAs n a b → IsOver n job b c → StandsAs n a c
stands_over n a b c job first h = record { line = subst (λ (t : List Event). AddsStop a.tablet.core.trail t) (sym h.line) first.line; session = h.session ∙ first.session; place = h.place ∙ first.place }

-- and where the tablet stays
pub stands_on : {L D C : Type 0} (n : ℕ) (a b c : EngineView L D C) → StandsAs n a b → c.tablet ≡ b.tablet → StandsAs n a c
stands_on {L} {D} {C} n a b c first same = record {
  line = subst (λ (t : List Event). AddsStop a.tablet.core.trail t) (sym (ap (λ (t : View C). t.core.trail) same)) first.line;
  session = ap (λ (t : View C). part t.core n) same ∙ first.session;
  place = ap (λ (t : View C). place_at n t.places) same ∙ first.place;
}

-- what it gave it has given then
gives_for : {L D C : Type 0} (a b : EngineView L D C) (w : Want) (job : JobView) → root_of b ≡ root_of a → GivesFor (IsFound a) w job → GivesFor (IsFound b) w job
gives_for a b want.Flush job root g = gives_then a b job job.stage job.super root g
gives_for a b (want.Compact taken) job root g = gives_then a b job job.stage job.super root g
gives_for a b (want.FlushDeltas r) job root g = g
gives_for a b (want.Minor r) job root g = g
gives_for a b (want.Major r) job root g = g

-- what a job has given is so when it is over
pub has_ended : {L D C : Type 0} (n : ℕ) (a b : EngineView L D C) (w : Want) (ends : MayEnd a n w) → IsOver n ends.job a b → IsVisit n a b → HasEnded n w a b
has_ended n a b w ends over visit = record {
  job = ends.job;
  upkeep = over.own ∙ ap (λ (x : Want). job_finished x (upkeep_at n a.upkeep.passes)) ends.given.want_is ∙ ap (λ (o : Option JobView). record (ended w ends.job (upkeep_at n a.upkeep.passes)) { done = o }) ends.has;
  given = record { want_is = ends.given.want_is; gives = gives_for a b w ends.job (root_stays n a b visit) ends.given.gives };
}

-- behind steps of it
pub ended_then : {L D C : Type 0} (n : ℕ) (a b c : EngineView L D C) (w : Want) → OnlyJob n a.upkeep b.upkeep → HasEnded n w b c → HasEnded n w a c
ended_then n a b c w own h = record { job = h.job; upkeep = h.upkeep ∙ ap (ended w h.job) own; given = h.given }

-- where the job is carried out, and closed
module _ {L D C : Type 0} (n : ℕ) (a b c : EngineView L D C) (w : Want) (carried result : Result (Unit {0}) MaintNo) where
  pub ends_as_carried : result ≡ carried → c.log ≡ b.log → c.store ≡ b.store → is_pass b.log.holder n ≡ false → b.store.holder ≡ None → (carried ≢ Err no.Stopped → KeepsAsks n a.upkeep b.upkeep) → OnOk carried (MayEnd b n w) → (result ≡ Err no.Stopped → c ≡ b)
      → (carried ≡ Err no.Stopped → b.tablet.core.stopped ≡ true) → OnOk result ((x : Want) → MayEnd b n x → HasEnded n x b c) → (result ≡ Err no.Memory → job_of n c.upkeep ≡ None) → EndsAs n w a c result
  ends_as_carried same log store free home asks may still stops ended none = by carried same asks may stops result refl ended still none
    where
      away : HasNoDevice n c
      away = record { log = ap (λ l. is_pass l.holder n) log ∙ free; store = none_has c.store.holder n (ap (λ s. s.holder) store ∙ home) }

      by : (x : Result (Unit {0}) MaintNo) → result ≡ x → (x ≢ Err no.Stopped → KeepsAsks n a.upkeep b.upkeep) → OnOk x (MayEnd b n w) → (x ≡ Err no.Stopped → b.tablet.core.stopped ≡ true) → (r : Result (Unit {0}) MaintNo) → r ≡ result → OnOk r ((y : Want) → MayEnd b n y → HasEnded n y b c)
          → (r ≡ Err no.Stopped → c ≡ b) → (r ≡ Err no.Memory → job_of n c.upkeep ≡ None) → EndsAs n w a c r
      by (Ok done) is keeps may stops (Ok also) e ended still none = (ended_then n a b c w (keeps (λ h. cc)).own (ended w may), away)
      by (Ok done) is keeps may stops (Err e) i ended still none = let never : ◌≡◌ {A = Result (Unit {0}) MaintNo} (Err e) (Ok done) = i ∙ is in absurd cc
      by (Err x) is keeps may stops (Ok also) e ended still none = let never : ◌≡◌ {A = Result (Unit {0}) MaintNo} (Ok also) (Err x) = e ∙ is in absurd cc
      by (Err x) is keeps may stops (Err no.Memory) e ended still none = (away, none refl)
      by (Err x) is keeps may stops (Err no.Stopped) e ended still none = (ap (λ (v : EngineView L D C). v.tablet.core.stopped) (still refl) ∙ stops (sym (e ∙ is)), away)

-- what is so of an answer
pub on_ok : (r : Result (Unit {0}) MaintNo) (A : Type 0) {B : Type 0} → (A → B) → OnOk r A → OnOk r B
on_ok (Ok done) A f a = f a
on_ok (Err e) A f a = tt

-- a flush or a compaction has begun
pub begins_merge : {L D C : Type 0} (v : EngineView L D C) (n : ℕ) (w : Want) → (w ≡ want.Flush) ⊎ ((rs : List ℕ) × (w ≡ want.Compact rs)) → BeginsBy v n w → MergeBegins v n w
begins_merge v n w (inl is) h = subst (MergeBegins v n) (sym is) (subst (BeginsBy v n) is h)
begins_merge v n w (inr is) h = subst (MergeBegins v n) (sym is.1) (subst (BeginsBy v n) is.1 h)

-- the job that is outside
job_away : {L D C : Type 0} (tells : Bool) (seen : D → Files) (n : ℕ) (w : Want) (out : Away D) (v : EngineView L D C) → IsAwayBy tells seen n w out (part_in v n) → (job : JobView) × ((job_of n v.upkeep ≡ Some job) × (job.want ≡ w))
job_away tells seen n w (away.Merge out) v h = (h.job, (h.own, h.want.0))
job_away tells seen n w (away.One out) v h = (h.job, (h.own, h.want.0))

-- the job that began is outside, or is given up
pub starts_as : {L D C : Type 0} (tells : Bool) (seen : D → Files) (n : ℕ) (w : Want) (a b c : EngineView L D C) (s : Start Turn D) → HasBegunNow n w a b → LeftAs tells seen n w b c s → StartsAs tells seen n w a c s
starts_as {L} {D} {C} tells seen n w a b c s begun left = by s left
  where
    by : (x : Start Turn D) → LeftAs tells seen n w b c x → StartsAs tells seen n w a c x
    by (start.Over t) h = subst (RunsAs n w a c) (sym h.0) (h.1, λ none. h.2)
    by (start.Out out) h =
        let its = job_away tells seen n w out c h.0 in
        record {
          away = h.0;
          job = its.0;
          want = its.1.1;
          asks = h.1.own ∙ ap (λ (u : UpkeepView). record u { job = job_of n c.upkeep }) begun.own ∙ ap (λ (o : Option JobView). record (asked w begun.job (upkeep_at n a.upkeep.passes)) { job = o }) its.1.0;
        }

-- a job that is done may end
pub done_of : {L D C : Type 0} (n : ℕ) (v : EngineView L D C) (r : Result (Unit {0}) MaintNo) (done : Unit {0}) → r ≡ Ok done → OnOk r ((w : Want) × MayEnd v n w) → (w : Want) × MayEnd v n w
done_of n v r done is may = subst (λ x. OnOk x ((w : Want) × MayEnd v n w)) is may

-- behind steps of a job however it ends
pub ends_then : {L D C : Type 0} (n : ℕ) (w : Want) (a b c : EngineView L D C) (r : Result (Unit {0}) MaintNo) → OnlyJob n a.upkeep b.upkeep → EndsAs n w b c r → EndsAs n w a c r
ends_then n w a b c (Ok done) own h = (ended_then n a b c w own h.0, h.1)
ends_then n w a b c (Err no.Memory) own h = h
ends_then n w a b c (Err no.Stopped) own h = h

-- what is so for each want
pub all_ok : (r : Result (Unit {0}) MaintNo) (A B : Want → Type 0) → ((w : Want) → A w → OnOk r (B w)) → OnOk r ((w : Want) → A w → B w)
all_ok (Ok done) A B f = f
all_ok (Err e) A B f = tt

-- a job that failed
pub ends_failed : {L D C : Type 0} (n : ℕ) (w : Want) (a b : EngineView L D C) (e : MaintNo) → HasNoDevice n b → (e ≡ no.Stopped → b.tablet.core.stopped ≡ true) → (e ≡ no.Memory → job_of n b.upkeep ≡ None) → EndsAs n w a b (Err e)
ends_failed n w a b no.Memory home stops none = (home, none refl)
ends_failed n w a b no.Stopped home stops none = (stops refl, home)

-- for want of memory nothing was begun
pub memory_same : {L D C : Type 0} (n : ℕ) (w : Want) (a b : EngineView L D C) → HasNoDevice n b → upkeep_at n b.upkeep.passes ≡ upkeep_at n a.upkeep.passes → RunsAs n w a b turn.Memory
memory_same n w a b home same = (home, λ none. ap (λ (u : UpkeepView). u.job) same ∙ none)

-- what is so of two answers that are one
pub on_both : (carried result : Result (Unit {0}) MaintNo) (A B : Type 0) {P : Type 0} → result ≡ carried → (A → B → P) → OnOk carried A → OnOk result B → OnOk result P
on_both carried (Ok done) A B same f a b = f (subst (λ r. OnOk r A) (sym same) a) b
on_both carried (Err e) A B same f a b = tt

-- ---- what was read of a job is kept to its end

pub keeps_done : (n : ℕ) (a b c : UpkeepsView) → KeepsRead n a b → (upkeep_at n c.passes).done ≡ job_of n b → EndsRead n a c
keeps_done n a b c k done = record { its = k.its; had = k.had; job = k.job; done = done ∙ k.has; same = k.same }

pub keeps_then : (n : ℕ) (a b c : UpkeepsView) → KeepsRead n a b → EndsRead n b c → EndsRead n a c
keeps_then n a b c k e =
    let mid = some_is e.its k.job (sym e.had ∙ k.has) in
    record {
      its = k.its;
      had = k.had;
      job = e.job;
      done = e.done;
      same = record {
        inputs = e.same.inputs ∙ ap (λ (j : JobView). j.inputs) mid ∙ k.same.inputs;
        times = (e.same.times.0 ∙ ap (λ (j : JobView). j.bound) mid ∙ k.same.times.0, e.same.times.1 ∙ ap (λ (j : JobView). j.mark) mid ∙ k.same.times.1);
      };
    }

-- the job that is done is known
pub ends_same : (n : ℕ) (a b : UpkeepsView) (its job : JobView) → job_of n a ≡ Some its → (upkeep_at n b.passes).done ≡ Some job → EndsRead n a b → HasReadTheSame its job
ends_same n a b its job had done e = subst (λ (x : JobView). HasReadTheSame x job) (some_is e.its its (sym e.had ∙ had)) (subst (HasReadTheSame e.its) (some_is e.job job (sym e.done ∙ done)) e.same)
