-- What a visit for a job leaves of the part of its pass.
use Rattle.std.proofs.Common.{◌≡◌, ℕ, ◌++◌, List, [], ◌∷◌, Bool, true, false, cond, Option, Some, None, Ok, Err, Result, refl, sym, ap, subst, ◌∙◌, inl, inr}
use Rattle.std.proofs.lemmas.List.{append-nil, append_assoc}
use Rattle.kt_seatlock.specs.Trails.{Each}
use Rattle.std.specs.Prelude.{◌==◌, ◌≢◌, ◌^◌, ◌-◌}
use Rattle.kt_base.specs.declared.chore.Chore.{Chore}
use Rattle.kt_history.specs.declared.event.Event.{Event}
use Rattle.kt_history.specs.declared.event.Event.TheVariants as event
use Rattle.kt_records.specs.declared.entry.Entry.{Entry}
use Rattle.kt_pick.specs.declared.rules.Want.{Want}
use Rattle.kt_engine.specs.Engines.{EngineView, TellsStop}
use Rattle.kt_engine.specs.Visits.{PartView, part_in, out_of, lent_of, session_of, IsVisit}
use Rattle.kt_engine.specs.Calls.{SeesOthers, HasNoDevice, StandsStill}
use Rattle.kt_engine.specs.Jobs.{UpkeepView, Last, HasUpkeep, job_of, upkeep_at, finished, nothing, more, without_want}
use Rattle.kt_engine.specs.Rounds.{round_of}
use Rattle.kt_engine.proofs.Visiting.{root_stays}
use Rattle.kt_engine.specs.declared.job.MaintNo.{MaintNo}
use Rattle.kt_engine.specs.declared.job.MaintNo.TheVariants as no
use Rattle.kt_maint.specs.declared.run.Ran.{Ran}
use Rattle.kt_maint.specs.declared.run.Ran.TheVariants as ran
use Rattle.kt_maint.specs.declared.tries.Turn.{Turn}
use Rattle.kt_maint.specs.declared.tries.Turn.TheVariants as turn
use Rattle.kt_maint.specs.Runs.{is_pass, HasNoDevice as PassHasNone, AddsStop, StandsAs, RunsAs}
use Rattle.kt_maint.specs.Done.{HasDoneJob}
use Rattle.kt_maint.specs.Calls.{has_stop, want_of, HasAsked, HasNoJob, LeavesNoJob, SameUpkeep, AfterTurn, AfterCall, HasBegunRound}
use Rattle.kt_maint.specs.Work.{LeftNone}
use Rattle.kt_maint.specs.declared.jobs.Start.TheVariants as start
use Rattle.kt_maint.proofs.Stages.{some_is}
use Rattle.kt_maint.proofs.Visiting.{stands_same}

-- ---- a device that a pass has out

pub out_none : (holder : Option ℕ) (out : List Entry) (n : ℕ) → out_of holder out n ≡ None → is_pass holder n ≡ false
out_none None out n e = refl
out_none (Some by) out n e = elim (by == n) as (λ b. cond b (Some out) None ≡ None → b ≡ false) [ true ↦ λ h. absurd cc | false ↦ λ h. refl ] e

pub none_out : (holder : Option ℕ) (out : List Entry) (n : ℕ) → is_pass holder n ≡ false → out_of holder out n ≡ None
none_out None out n e = refl
none_out (Some by) out n e = ap (λ (b : Bool). cond b (Some out) None) e

-- the store, as it went out to this pass or to none
lent_none : {J : Type 0} (holder : Option ℕ) (known : J) (n : ℕ) → lent_of holder known n ≡ None → is_pass holder n ≡ false
lent_none None known n e = refl
lent_none (Some by) known n e = elim (by == n) as (λ b. cond b (Some known) None ≡ None → b ≡ false) [ true ↦ λ h. absurd cc | false ↦ λ h. refl ] e

pub none_lent : {J : Type 0} (holder : Option ℕ) (known : J) (n : ℕ) → is_pass holder n ≡ false → lent_of holder known n ≡ None
none_lent None known n e = refl
none_lent (Some by) known n e = ap (λ (b : Bool). cond b (Some known) None) e

-- ---- the `stop` line

stop_at_end : (lines : List Event) → has_stop (lines ++ event.Stop ∷ []) ≡ true
stop_at_end [] = refl
stop_at_end (event.Begin s i ts m ∷ lines) = stop_at_end lines
stop_at_end (event.End s i ts ∷ lines) = stop_at_end lines
stop_at_end (event.Look s i t m ∷ lines) = stop_at_end lines
stop_at_end (event.Rows s i t ∷ lines) = stop_at_end lines
stop_at_end (event.Ancient s i t a ∷ lines) = stop_at_end lines
stop_at_end (event.Busy s i t f ∷ lines) = stop_at_end lines
stop_at_end (event.Mark s i a ∷ lines) = stop_at_end lines
stop_at_end (event.Chore s i ∷ lines) = stop_at_end lines
stop_at_end (event.Large s i n ∷ lines) = stop_at_end lines
stop_at_end (event.Stop ∷ lines) = refl

module _ {L D C : Type 0} where
  pub stop_told : (y : EngineView L D C) (seen : List Event) → TellsStop y.tablet.core → seen ≡ y.tablet.core.trail → y.tablet.core.stopped ≡ true → has_stop seen ≡ true
  stop_told y seen tells sees stopped = let last = tells.stopped stopped in ap has_stop (sees ∙ last.1) ∙ stop_at_end last.0

  -- the part of a pass under another name of its number
  pub told_by : (told : Option (PartView L D C)) (x : EngineView L D C) (n by : ℕ) → told ≡ Some (part_in x n) → n ≡ by → told ≡ Some (part_in x by)
  told_by told x n by is same = subst (λ (k : ℕ). told ≡ Some (part_in x k)) same is

  part_is : (told : Option (PartView L D C)) (p : PartView L D C) (x : EngineView L D C) (n : ℕ) → told ≡ Some p → told ≡ Some (part_in x n) → part_in x n ≡ p
  part_is told p x n a b = some_is (part_in x n) p (sym b ∙ a)

  -- ---- before the visit

  module _ (told : Option (PartView L D C)) (x : EngineView L D C) (n : ℕ) (is : told ≡ Some (part_in x n)) (home : HasNoDevice told) where
    its_part : part_in x n ≡ home.part
    its_part = part_is told home.part x n home.is is

    pub pass_home : PassHasNone n x
    pass_home = record { log = out_none x.log.holder x.log.out n (ap (λ (p : PartView L D C). p.pass.out) its_part ∙ home.log); store = lent_none x.store.holder x.store n (ap (λ (p : PartView L D C). p.turn) its_part ∙ home.store) }

    -- ---- and after it

    module _ (told' : Option (PartView L D C)) (y : EngineView L D C) (is' : told' ≡ Some (part_in y n)) (visit : IsVisit n x y) where
      pub stands_still : StandsAs n x y → StandsStill told told'
      stands_still s = record { was = part_in x n; was_is = is; part = part_in y n; is = is'; session = s.session; place = s.place; root = root_stays n x y visit }

      pub no_device_told : PassHasNone n y → HasNoDevice told'
      no_device_told h = record { part = part_in y n; is = is'; log = none_out y.log.holder y.log.out n h.log; store = none_lent y.store.holder y.store n h.store }

      pub after_turn : (w : Want) (t : Turn) (seen : List Event) → TellsStop y.tablet.core → seen ≡ y.tablet.core.trail → RunsAs n w x y t → AfterTurn w told told' seen t
      after_turn w turn.Nothing seen tells sees r = (
        record {
          was = part_in x n;
          was_is = is;
          part = part_in y n;
          is = is';
          asks = ap (λ (u : UpkeepView). u.asks) r.0;
          last_is = ap (λ (u : UpkeepView). u.last) r.0;
          round = (ap (λ (u : UpkeepView). u.round) r.0, ap (λ (u : UpkeepView). u.rounds) r.0);
          todo = ap (λ (u : UpkeepView). u.todo) r.0;
          job = r.1;
        },
        no_device_told r.2,
      )
      after_turn w turn.Wait seen tells sees r = (record { was = part_in x n; was_is = is; part = part_in y n; is = is'; same = r.0 }, no_device_told r.1)
      after_turn w turn.Stopped seen tells sees r = (stop_told y seen tells sees r.0, no_device_told r.1)
      after_turn w turn.Memory seen tells sees r = (
        no_device_told r.0,
        λ before. record { part = part_in y n; is = is'; none = r.1 (ap (λ (p : PartView L D C). p.pass.upkeep.job) (part_is told before.part x n before.is is) ∙ before.none) },
      )

      -- ---- where nothing has changed but what passes have of maintenance

      pub beside_still : y ≡ record x { upkeep = y.upkeep } → StandsStill told told'
      beside_still e = stands_still (stands_same n x y (ap (λ (v : EngineView L D C). v.tablet) e))

      pub beside_home : y ≡ record x { upkeep = y.upkeep } → HasNoDevice told'
      beside_home e = no_device_told (record { log = ap (λ (v : EngineView L D C). is_pass v.log.holder n) e ∙ pass_home.log; store = ap (λ (v : EngineView L D C). is_pass v.store.holder n) e ∙ pass_home.store })

      -- ---- of its job

      pub job_stays : job_of n y.upkeep ≡ job_of n x.upkeep → HasNoJob told → HasNoJob told'
      job_stays same before = record { part = part_in y n; is = is'; none = same ∙ ap (λ (p : PartView L D C). p.pass.upkeep.job) (part_is told before.part x n before.is is) ∙ before.none }

      -- a pass that had none has none, or the tablet has stopped
      pub left_told : {T : Type 0} (t : T) (seen : List Event) → TellsStop y.tablet.core → seen ≡ y.tablet.core.trail → LeftNone {T = T} n x y (start.Over t) → LeavesNoJob told told' seen
      left_told t seen tells sees left before = elim (left (ap (λ (p : PartView L D C). p.pass.upkeep.job) (part_is told before.part x n before.is is) ∙ before.none)) [
        | inl none ↦ inl (record { part = part_in y n; is = is'; none = none })
        | inr stopped ↦ inr (stop_told y seen tells sees stopped)
      ]

      -- ---- of a round

      pub round_told : (c : Chore) (wants : List Want) → HasUpkeep n (round_of c wants (upkeep_at n x.upkeep.passes)) x.upkeep y.upkeep → HasBegunRound c wants told told'
      round_told c wants h = record {
        was = part_in x n;
        was_is = is;
        part = part_in y n;
        is = is';
        rounds = ap (λ (u : UpkeepView). u.rounds) h.own;
        round = ap (λ (u : UpkeepView). u.round) h.own;
        todo = ap (λ (u : UpkeepView). u.todo) h.own;
      }

-- ---- several visits

module _ {L D C : Type 0} (a b c : Option (PartView L D C)) where
  pub still_then : StandsStill a b → StandsStill b c → StandsStill a c
  still_then first second =
      let mid : second.was ≡ first.part = some_is second.was first.part (sym second.was_is ∙ first.is) in
      record {
        was = first.was;
        was_is = first.was_is;
        part = second.part;
        is = second.is;
        session = second.session ∙ ap (λ (p : PartView L D C). p.pass.session) mid ∙ first.session;
        place = second.place ∙ ap (λ (p : PartView L D C). p.pass.place) mid ∙ first.place;
        root = second.root ∙ ap (λ (p : PartView L D C). p.root) mid ∙ first.root;
      }

  pub same_then : SameUpkeep a b → SameUpkeep b c → SameUpkeep a c
  same_then first second =
      let mid : second.was ≡ first.part = some_is second.was first.part (sym second.was_is ∙ first.is) in
      record { was = first.was; was_is = first.was_is; part = second.part; is = second.is; same = second.same ∙ ap (λ (p : PartView L D C). p.pass.upkeep) mid ∙ first.same }

  asked_then : (last : Last) → SameUpkeep a b → HasAsked last b c → HasAsked last a c
  asked_then last first second =
      let mid : second.was.pass.upkeep ≡ first.was.pass.upkeep = ap (λ (p : PartView L D C). p.pass.upkeep) (some_is second.was first.part (sym second.was_is ∙ first.is)) ∙ first.same in
      record {
        was = first.was;
        was_is = first.was_is;
        part = second.part;
        is = second.is;
        asks = second.asks ∙ ap (λ (u : UpkeepView). more (2 ^ 64 - 1) u.asks) mid;
        last_is = second.last_is;
        round = (second.round.0 ∙ ap (λ (u : UpkeepView). u.round) mid, second.round.1 ∙ ap (λ (u : UpkeepView). u.rounds) mid);
        todo = second.todo ∙ ap (λ (u : UpkeepView). without_want (want_of last) u.todo) mid;
        job = second.job;
      }

  pub done_then : (w : Want) → SameUpkeep a b → HasAsked (finished w) b c × HasNoDevice c × HasDoneJob w c → HasAsked (finished w) a c × HasNoDevice c × HasDoneJob w c
  done_then w first second = (asked_then (finished w) first second.0, second.1, second.2)

  pub nothing_then : (w : Want) → SameUpkeep a b → HasAsked (nothing w) b c × HasNoDevice c → HasAsked (nothing w) a c × HasNoDevice c
  nothing_then w first second = (asked_then (nothing w) first second.0, second.1)

module _ {L D C : Type 0} (b c : Option (PartView L D C)) where
  -- of an ask that has ended no job is left
  asked_none : (last : Last) → HasAsked last b c → HasNoJob c
  asked_none last h = record { part = h.part; is = h.is; none = h.job }

  -- however a call ended
  pub call_home : (w : Want) (seen : List Event) (r : Result Ran MaintNo) → AfterCall w b c seen r → HasNoDevice c
  call_home w seen (Ok ran.Done) call = call.1
  call_home w seen (Ok ran.Nothing) call = call.1
  call_home w seen (Err no.Stopped) call = call.1
  call_home w seen (Err no.Memory) call = call.0

  pub call_stops : (w : Want) (seen : List Event) (r : Result Ran MaintNo) → AfterCall w b c seen r → r ≡ Err no.Stopped → has_stop seen ≡ true
  call_stops w seen (Ok r) call e = absurd cc
  call_stops w seen (Err no.Stopped) call e = call.0
  call_stops w seen (Err no.Memory) call e = absurd cc

  -- a call that has ended leaves no job
  pub ran_none : (w : Want) (seen : List Event) (r : Ran) → AfterCall w b c seen (Ok r) → HasNoJob c
  ran_none w seen ran.Done call = asked_none (finished w) call.0
  ran_none w seen ran.Nothing call = asked_none (nothing w) call.0

  -- and none to a pass that had none, unless the tablet has stopped
  pub call_none : (w : Want) (seen : List Event) (r : Result Ran MaintNo) → AfterCall w b c seen r → r ≢ Err no.Stopped → HasNoJob b → HasNoJob c
  call_none w seen (Ok r) call goes before = ran_none w seen r call
  call_none w seen (Err no.Stopped) call goes before = absurd (goes refl)
  call_none w seen (Err no.Memory) call goes before = call.1 before

-- nothing has changed
pub still_itself : {L D C : Type 0} (told : Option (PartView L D C)) → HasNoDevice told → StandsStill told told × SameUpkeep told told
still_itself told h = (record { was = h.part; was_is = h.is; part = h.part; is = h.is; session = refl; place = refl; root = refl }, record { was = h.part; was_is = h.is; part = h.part; is = h.is; same = refl })

-- ---- the lines that a pass has seen

each_append : (P : Event → Type 0) (xs ys : List Event) → Each P xs → Each P ys → Each P (xs ++ ys)
each_append P [] ys h k = k
each_append P (x ∷ xs) ys h k = (h.0, each_append P xs ys h.1 k)

pub sees_then : (n : ℕ) (a b c : List Event) → SeesOthers n a b → SeesOthers n b c → SeesOthers n a c
sees_then n a b c first second = (
  first.0 ++ second.0,
  second.1 ∙ ap (λ (l : List Event). l ++ second.0) first.1 ∙ append_assoc a first.0 second.0,
  each_append (λ e. session_of e ≡ Some n → ⊥) first.0 second.0 first.2 second.2,
)

pub sees_itself : (n : ℕ) (a : List Event) → SeesOthers n a a
sees_itself n a = ([], sym (append-nil a), tt)

none_some : (n : ℕ) → None ≡ Some n → ⊥
none_some n e = cc

-- a `stop` line is of no session
pub sees_stop : (n : ℕ) (a b c : List Event) → SeesOthers n a b → AddsStop b c → SeesOthers n a c
sees_stop n a b c first (inl e) = subst (SeesOthers n a) (sym e) first
sees_stop n a b c first (inr e) = sees_then n a b c first (event.Stop ∷ [], e, (none_some n, tt))

-- ---- a pass without a job

stop_stays : (lines more : List Event) → has_stop lines ≡ true → has_stop (lines ++ more) ≡ true
stop_stays [] more h = absurd cc
stop_stays (event.Begin s i ts m ∷ lines) more h = stop_stays lines more h
stop_stays (event.End s i ts ∷ lines) more h = stop_stays lines more h
stop_stays (event.Look s i t m ∷ lines) more h = stop_stays lines more h
stop_stays (event.Rows s i t ∷ lines) more h = stop_stays lines more h
stop_stays (event.Ancient s i t a ∷ lines) more h = stop_stays lines more h
stop_stays (event.Busy s i t f ∷ lines) more h = stop_stays lines more h
stop_stays (event.Mark s i a ∷ lines) more h = stop_stays lines more h
stop_stays (event.Chore s i ∷ lines) more h = stop_stays lines more h
stop_stays (event.Large s i n ∷ lines) more h = stop_stays lines more h
stop_stays (event.Stop ∷ lines) more h = refl

-- several visits leave none
pub none_then : {L D C : Type 0} (n : ℕ) (a b c : Option (PartView L D C)) (sees then : List Event) → LeavesNoJob a b sees → SeesOthers n sees then → LeavesNoJob b c then → LeavesNoJob a c then
none_then n a b c sees then first more second none = elim (first none) [ inl left ↦ second left | inr stop ↦ inr (ap has_stop more.1 ∙ stop_stays sees more.0 stop) ]
