-- A call whose job goes outside the lock, as the part of its pass tells.
use Rattle.std.proofs.Common.{◌≡◌, ◌⊎◌, ℕ, Bool, true, List, Option, Some, Result, Ok, Err, inl, inr, sym, ap, subst, ◌∙◌}
use Rattle.std.specs.Prelude.{OnOk}
use Rattle.kt_disk.specs.Disk.{Files}
use Rattle.kt_history.specs.declared.event.Event.{Event}
use Rattle.kt_pick.specs.declared.rules.Want.{Want}
use Rattle.kt_engine.specs.Calls.{HasNoDevice, StandsStill}
use Rattle.kt_engine.specs.Engines.{EngineView, TellsStop}
use Rattle.kt_engine.specs.Jobs.{JobView, UpkeepView, asked, finished, job_of}
use Rattle.kt_engine.specs.Visits.{PartView, part_in, IsVisit}
use Rattle.kt_engine.specs.declared.job.MaintNo.{MaintNo}
use Rattle.kt_engine.specs.declared.job.MaintNo.TheVariants as no
use Rattle.kt_engine.proofs.Visiting.{root_stays}
use Rattle.kt_maint.specs.Calls.{AfterCall, AfterEnd, AfterStart, AfterTurn, ComesTo, HasAsked, HasAway, HasEndedJob, HasNoJob, IsBetween, SameUpkeep, has_stop, ran_of}
use Rattle.kt_engine.specs.DeltaJobs.{IsOn}
use Rattle.kt_maint.specs.DeltaRuns.{IsAwayOne}
use Rattle.kt_maint.specs.Reworks.{HasComeBy, HasMade, HasWorked, MayWork}
use Rattle.kt_maint.specs.Done.{FoundBy, HasDoneJob, HasGiven}
use Rattle.kt_maint.specs.Outside.{EndsAs, EndsRead, HasWritten, StartsAs, ended}
use Rattle.kt_maint.specs.Runs.{HasNoDevice as PassHasNone, StandsAs}
use Rattle.kt_maint.specs.Work.{LeftNone}
use Rattle.kt_maint.specs.declared.jobs.Start.{Start}
use Rattle.kt_maint.specs.declared.jobs.Start.TheVariants as start
use Rattle.kt_maint.specs.declared.reworking.Away.{Away}
use Rattle.kt_maint.specs.declared.reworking.Away.TheVariants as away
use Rattle.kt_maint.specs.declared.reworking.Came.{Came}
use Rattle.kt_maint.specs.declared.reworking.Came.TheVariants as came
use Rattle.kt_maint.specs.declared.run.Ran.TheVariants as ran
use Rattle.kt_maint.specs.declared.tries.Turn.{Turn}
use Rattle.kt_maint.specs.declared.tries.Turn.TheVariants as turn
use Rattle.kt_maint.proofs.Begun.{ends_same}
use Rattle.kt_maint.proofs.Calling.{after_turn, done_then, none_lent, none_out, stop_told}
use Rattle.kt_maint.proofs.Stages.{some_is}

module _ {L D C : Type 0} (told told' : Option (PartView L D C)) (x y : EngineView L D C) (n : ℕ) (is : told ≡ Some (part_in x n)) (is' : told' ≡ Some (part_in y n)) (visit : IsVisit n x y) where
  pub still_told : StandsAs n x y → StandsStill told told'
  still_told s = record { was = part_in x n; was_is = is; part = part_in y n; is = is'; session = s.session; place = s.place; root = root_stays n x y visit }

  pub home_told : PassHasNone n y → HasNoDevice told'
  home_told h = record { part = part_in y n; is = is'; log = none_out y.log.holder y.log.out n h.log; store = none_lent y.store.holder y.store n h.store }

  -- the visit that begins
  pub after_start : HasNoDevice told → (tells : Bool) (seen : D → Files) (w : Want) (s : Start Turn D) (lines : List Event) → TellsStop y.tablet.core → lines ≡ y.tablet.core.trail → StartsAs tells seen n w x y s → AfterStart tells seen n w told told' lines s
  after_start home tells seen w (start.Over t) lines stops sees h = after_turn told x n is home told' y is' visit w t lines stops sees h
  after_start home tells seen w (start.Out out) lines stops sees h = record { was = part_in x n; was_is = is; part = part_in y n; is = is'; away = h.away; job = h.job; want = h.want; asks = h.asks }

  -- and the last one
  pub after_end : (job : JobView) → job_of n x.upkeep ≡ Some job → (r : Result (Unit {0}) MaintNo) (lines : List Event) → TellsStop y.tablet.core → lines ≡ y.tablet.core.trail → EndsAs n job.want x y r → OnOk r (EndsRead n x.upkeep y.upkeep) → AfterEnd told told' lines r
  after_end job has (Ok done) lines stops sees h reads = (
    record { was = part_in x n; was_is = is; its = job; had = has; part = part_in y n; is = is'; job = h.0.job; upkeep = h.0.upkeep; same = ends_same n x.upkeep y.upkeep job h.0.job has (ap (λ (u : UpkeepView). u.done) h.0.upkeep) reads; given = h.0.given },
    home_told h.1,
  )
  after_end job has (Err no.Stopped) lines stops sees h reads = (stop_told y lines stops sees h.0, home_told h.1)
  after_end job has (Err no.Memory) lines stops sees h reads = (home_told h.0, record { part = part_in y n; is = is'; none = h.1 })

-- what a job has outside can be worked on,
pub may_work : {L D C : Type 0} (tells : Bool) (seen : D → Files) (n : ℕ) (out : Away D) (told : Option (PartView L D C)) → HasAway tells seen n out told → MayWork tells seen out
may_work tells seen n (away.Merge out) told h = h.away.may
may_work tells seen n (away.One out) told h = (subst (IsOn out.rowset.number) (sym h.away.want.1) h.away.on.1, h.away.vacant)

-- and what was written comes back
pub comes_to : {L D C : Type 0} (tells : Bool) (seen : D → Files) (now : D → ℕ) (leaves : D → ℕ → Files → Type 0) (faults : D → ℕ) (n : ℕ) (out : Away D) (back : Came D) (told : Option (PartView L D C)) → HasAway tells seen n out told → HasWorked tells seen now leaves faults out back
    → ComesTo tells seen now leaves faults n back told
comes_to tells seen now leaves faults n (away.Merge out) (came.Merge c) told h worked = record {
  part = h.part;
  is = h.is;
  come = record { want = h.want; out = out; away = h.away; bound_is = worked.0; most_is = worked.1; written = subst (λ (k : ℕ). HasWritten tells seen now leaves faults k out.input out.lent c.lent c.written) (sym worked.1) worked.2 };
}
comes_to tells seen now leaves faults n (away.One out) (came.One c) told h worked =
    let wants : c.want ≡ h.want = worked.0 ∙ h.away.want.1 in
    record {
      part = h.part;
      is = h.is;
      come = record {
        out = out;
        away = subst (λ (w : Want). IsAwayOne tells seen n w out h.part) (sym wants) h.away;
        most_is = worked.1;
        written = subst (λ (k : ℕ). HasMade tells seen now leaves faults k c.want out.rowset out.lent c.lent c.written) (sym worked.1) (subst (λ (w : Want). HasMade tells seen now leaves faults out.most w out.rowset out.lent c.lent c.written) (sym worked.0) worked.2);
      };
    }
comes_to tells seen now leaves faults n (away.Merge out) (came.One c) told h worked = absurd worked
comes_to tells seen now leaves faults n (away.One out) (came.Merge c) told h worked = absurd worked

-- its job, by what came back
pub job_of_come : {L D C : Type 0} (tells : Bool) (seen : D → Files) (now : D → ℕ) (leaves : D → ℕ → Files → Type 0) (faults : D → ℕ) (n : ℕ) (back : Came D) (e : EngineView L D C) → HasComeBy tells seen now leaves faults n back (part_in e n) → (job : JobView) × (job_of n e.upkeep ≡ Some job)
job_of_come tells seen now leaves faults n (came.Merge c) e h = (h.away.job, h.away.own)
job_of_come tells seen now leaves faults n (came.One c) e h = (h.away.job, h.away.own)

pub has_away : {L D C : Type 0} (tells : Bool) (seen : D → Files) (n : ℕ) (w : Want) (out : Away D) (before mid : Option (PartView L D C)) → IsBetween tells seen n w out before mid → HasAway tells seen n out mid
has_away tells seen n w out before mid between = record { want = w; part = between.part; is = between.is; away = between.away }

-- how a turn ended, as it is known
pub turn_at : {L D C : Type 0} (w : Want) (a b : Option (PartView L D C)) (lines : List Event) (t known : Turn) → t ≡ known → AfterTurn w a b lines t → AfterTurn w a b lines known
turn_at w a b lines t known is h = subst (AfterTurn w a b lines) is h

module _ {L D C : Type 0} (tells : Bool) (seen : D → Files) (n : ℕ) (w : Want) (out : Away D) (before mid after : Option (PartView L D C)) (between : IsBetween tells seen n w out before mid) where
  module _ (e : HasEndedJob mid after) where
    same_part : e.was ≡ between.part
    same_part = some_is e.was between.part (sym e.was_is ∙ between.is)

    same_want : e.its.want ≡ w
    same_want = ap (λ (j : JobView). j.want) (some_is e.its between.job (sym e.had ∙ ap (λ (p : PartView L D C). p.pass.upkeep.job) same_part ∙ ap (λ (u : UpkeepView). u.job) between.asks)) ∙ between.want

    -- what the pass has of maintenance
    all_upkeep : e.part.pass.upkeep ≡ ended w e.job (asked w between.job between.was.pass.upkeep)
    all_upkeep = e.upkeep ∙ (λ k. ended (same_want k) e.job (same_part k).pass.upkeep) ∙ ap (ended w e.job) between.asks

    its_ask : HasAsked (finished w) before after
    its_ask = record {
      was = between.was;
      was_is = between.was_is;
      part = e.part;
      is = e.is;
      asks = ap (λ (u : UpkeepView). u.asks) all_upkeep;
      last_is = ap (λ (u : UpkeepView). u.last) all_upkeep;
      round = (ap (λ (u : UpkeepView). u.round) all_upkeep, ap (λ (u : UpkeepView). u.rounds) all_upkeep);
      todo = ap (λ (u : UpkeepView). u.todo) all_upkeep;
      job = ap (λ (u : UpkeepView). u.job) all_upkeep;
    }

    its_job : HasDoneJob w after
    its_job = record { part = e.part; is = e.is; job = e.job; done = ap (λ (u : UpkeepView). u.done) all_upkeep; given = subst (λ (x : Want). HasGiven (FoundBy e.part.root) x e.job) same_want e.given }

  -- so the call has done what was asked
  pub call_ended : (lines : List Event) (r : Result (Unit {0}) MaintNo) → AfterEnd mid after lines r → AfterCall w before after lines (ran_of r)
  call_ended lines (Ok done) h = (its_ask h.0, h.1, its_job h.0)
  call_ended lines (Err no.Stopped) h = h
  call_ended lines (Err no.Memory) h = (h.0, λ none. h.1)

-- however it ended the pass has no device
pub end_home : {L D C : Type 0} (before after : Option (PartView L D C)) (lines : List Event) (r : Result (Unit {0}) MaintNo) → AfterEnd before after lines r → HasNoDevice after
end_home before after lines (Ok done) h = h.1
end_home before after lines (Err no.Stopped) h = h.1
end_home before after lines (Err no.Memory) h = h.0

-- and no job, unless the tablet has stopped
pub end_none : {L D C : Type 0} (before after : Option (PartView L D C)) (lines : List Event) (r : Result (Unit {0}) MaintNo) → AfterEnd before after lines r → HasNoJob after ⊎ (has_stop lines ≡ true)
end_none before after lines (Ok done) h = inl (record { part = h.0.part; is = h.0.is; none = ap (λ (u : UpkeepView). u.job) h.0.upkeep })
end_none before after lines (Err no.Stopped) h = inr h.0
end_none before after lines (Err no.Memory) h = inl h.1

-- how a call ended whose job went outside, as that ended
pub told_ran : (r : Result (Unit {0}) MaintNo) (P : Type 0) → OnOk r P → ran_of r ≡ Ok ran.Done → P
told_ran (Ok done) P h e = h
told_ran (Err x) P h e = absurd cc

-- a try in a visit leaves no job to a pass that had none
pub starts_none : {L D C : Type 0} (tells : Bool) (seen : D → Files) (n : ℕ) (w : Want) (x y : EngineView L D C) (s : Start Turn D) → StartsAs tells seen n w x y s → LeftNone n x y s
starts_none tells seen n w x y (start.Over turn.Nothing) h = λ none. inl h.1
starts_none tells seen n w x y (start.Over turn.Wait) h = λ none. inl (ap (λ (u : UpkeepView). u.job) h.0 ∙ none)
starts_none tells seen n w x y (start.Over turn.Memory) h = λ none. inl (h.1 none)
starts_none tells seen n w x y (start.Over turn.Stopped) h = λ none. inr h.0
starts_none tells seen n w x y (start.Out out) h = tt

-- it has no job as it had none
none_since : {L D C : Type 0} (a b : Option (PartView L D C)) → SameUpkeep a b → HasNoJob a → HasNoJob b
none_since {L} {D} {C} a b same none = record {
  part = same.part;
  is = same.is;
  none = ap (λ (u : UpkeepView). u.job) (same.same ∙ ap (λ (p : PartView L D C). p.pass.upkeep) (some_is same.was none.part (sym same.was_is ∙ none.is))) ∙ none.none;
}

-- a later turn had no memory
pub memory_since : {L D C : Type 0} (a b c : Option (PartView L D C)) (w : Want) (lines : List Event) → SameUpkeep a b → AfterTurn w b c lines turn.Memory → AfterCall w a c lines (Err no.Memory)
memory_since a b c w lines same h = (h.0, λ none. h.1 (none_since a b same none))

-- it asked in a later visit, and had what it had of maintenance until then
pub call_since : {L D C : Type 0} (a b c : Option (PartView L D C)) (w : Want) (lines : List Event) (r : Result (Unit {0}) MaintNo) → SameUpkeep a b → AfterCall w b c lines (ran_of r) → AfterCall w a c lines (ran_of r)
call_since a b c w lines (Ok done) same h = done_then a b c w same h
call_since a b c w lines (Err no.Stopped) same h = h
call_since a b c w lines (Err no.Memory) same h = (h.0, λ none. h.1 (none_since a b same none))
