-- The plan of a run is taken before anything has happened.
use Rattle.std.proofs.Common.{◌≡◌, ℕ, List, [], ◌∷◌, Option, refl, false, sym, ap, ◌∙◌, subst, map}
use Rattle.std.specs.Prelude.{not}
use Rattle.std.specs.List.{filter}
use Rattle.kt_history.specs.declared.command.Command.{Command}
use Rattle.kt_history.specs.History.{Past}
use Rattle.kt_history.specs.Machine.{Turn, first_turns, start, state_after}
use Rattle.kt_histlaws.specs.Histories.{Shows, hists, timeline}
use Rattle.kt_history.specs.Stores.{Steps, Store}
use Rattle.kt_histlaws.specs.Pending.{Aloft, Same, done, is_pending}
use Rattle.kt_histlaws.specs.Fitting.{AreSound}
use Rattle.kt_histlaws.specs.Core.{Core, Stands, now}
use Rattle.kt_histlaws.proofs.Events.{open_stands}
use Rattle.kt_histlaws.proofs.Pending.{shows_alike, timeline-done}
use Rattle.kt_tablet.specs.declared.tablet.FlyingWrite.{FlyingWrite}
use Rattle.kt_tablet.specs.Plans.{PlanKeeps}
use Rattle.kt_tablet.specs.Views.{aloft_of, View, IsSound}
use Rattle.kt_tablet.proofs.Keeps.{keys_differ}

-- while nothing flies, what is done is all
all_kept : (steps : Steps) → filter (λ x. not (is_pending [] [] x.0)) steps ≡ steps
all_kept [] = refl
all_kept (x ∷ steps) = ap (λ r. x ∷ r) (all_kept steps)

all_shown : (stores : List Store) (aloft : List Aloft) (past : Past) (a : ℕ) → aloft ≡ [] → Same stores aloft past a → Shows a stores past
all_shown stores aloft past a flies same = shows_alike a stores (done [] past) past refl (λ q. timeline-done q [] past.writes ∙ all_kept (timeline q past.writes)) (subst (λ fs. Same stores fs past a) flies same)

-- before the first line the engine is in its first state
first_state : (core : Core) (st : Stands core) → core.trail ≡ [] → start core.work core.first core.opened ≡ now core st.past
first_state core st lines = sym (ap (state_after core.work (start core.work core.first core.opened)) lines) ∙ st.run.state

-- so that it stands for another plan too
pub plan_sound : {C : Type 0} (readings : C → Option (List ℕ)) (view old : View C) (plan kept : List (List Command)) (turns : List Turn) → IsSound readings view → view ≡ old
    → (old.core.trail ≡ []) × (old.core.aloft ≡ []) × (old.core.stopped ≡ false) → PlanKeeps (record old.core.work { plan = plan }) → kept ≡ plan → turns ≡ first_turns plan
    → IsSound readings (record view { core = record view.core { work = record view.core.work { plan = kept }; turns = turns } })
plan_sound readings view old plan kept turns sound same fresh keeps taken places =
    let kept_to = subst (λ p. PlanKeeps (record view.core.work { plan = p })) (sym taken) (subst (λ v. PlanKeeps (record v.core.work { plan = plan })) (sym same) keeps) in record {
      stands = λ first told.
          let core : Core = record view.core { first = first } in
          let st = sound.stands first told in
          let is = first_state core st (ap (λ v. v.core.trail) same ∙ fresh.0) in
          let past : first ≡ st.past = ap (λ s. s.past) is in
          let mark : first.mark ≡ view.core.a = ap (λ s. s.a) is in
          open_stands (record core { work = record core.work { plan = kept }; turns = turns }) (ap (λ v. v.core.trail) same ∙ fresh.0) (ap (λ v. v.core.aloft) same ∙ fresh.1)
          (sym mark) (sym (ap (λ s. s.c) is)) (ap (λ v. v.core.stopped) same ∙ fresh.2) (places ∙ ap first_turns (sym taken)) told.ends
          (subst (λ p. Shows first.mark core.stores p) (sym past) (subst (λ n. Shows n core.stores st.past) (sym mark) (all_shown core.stores core.aloft st.past core.a (ap (λ v. v.core.aloft) same ∙ fresh.1) st.stores.same)))
          (λ q. subst (λ n. AreSound n (hists q core.stores)) (sym mark) (st.stores.sound q))
          (keys_differ (record view.core.work { plan = kept }) kept_to);
      clock = sound.clock;
      plan = kept_to;
    }

pub taken : {C : Type 0} (view old : View C) (plan kept : List (List Command)) (turns : List Turn) → view ≡ old → kept ≡ plan → turns ≡ first_turns plan
    → record view { core = record view.core { work = record view.core.work { plan = kept }; turns = turns } } ≡ record old { core = record old.core { work = record old.core.work { plan = plan }; turns = first_turns plan } }
taken view old plan kept turns same is places = λ k. record (same k) { core = record (same k).core { work = record (same k).core.work { plan = is k }; turns = places k } }

-- nothing flies where nothing is shown to
pub no_flights : (flights : List FlyingWrite) → map aloft_of flights ≡ [] → flights ≡ []
no_flights [] none = refl
no_flights (w ∷ flights) none = cc
