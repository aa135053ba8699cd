-- The start of a walk, and each step of it.
use Rattle.std.proofs.Common.{◌≡◌, ℕ, zero, suc, ◌+◌, ◌-◌, ◌<◌, ◌≤◌, List, [], ◌∷◌, ◌++◌, Some, None, Option, refl, true, false, Bool, sym, ap, ◌∙◌, subst, arith, map, take, length, get_or}
use Rattle.std.specs.Option.{option_map}
use Rattle.std.proofs.lemmas.List.{take_more}
use Rattle.kt_history.specs.declared.command.Command.{Command}
use Rattle.kt_history.specs.declared.event.Event.{Event}
use Rattle.kt_history.specs.History.{Past}
use Rattle.kt_history.specs.Machine.{Workload, State, Flying, Turn, IsRun, first_turns, nth}
use Rattle.kt_judge.specs.Turns.{Stand, turn_of}
use Rattle.kt_judge.specs.declared.machine.Machine.{Machine}
use Rattle.kt_judge.specs.Machine.{flown, Follows, IsFollowed, line_in, line_of}
use Rattle.kt_judge.specs.Walks.{AreFirst}
use Rattle.kt_judge.specs.Faults.{IsFirstFault}
use Rattle.kt_judge.proofs.Steps.{nth-map}

abbrev unanswered : List Command → Stand
unanswered commands = record { lines = []; look = None }

turns_first : (plan : List (List Command)) → map turn_of (map unanswered plan) ≡ first_turns plan
turns_first [] = refl
turns_first (commands ∷ plan) = ap (λ ts. record { next = 1; look = None } ∷ ts) (turns_first plan)

no_line : (o : Option (List Command)) (i : ℕ) → line_in (option_map unanswered o) i ≡ None
no_line None i = refl
no_line (Some commands) zero = refl
no_line (Some commands) (suc i) = refl

pub starts : (work : Workload) (past : Past) (m : Machine) → past.mark ≡ m.a → m.flying.items ≡ [] → AreFirst m.turns.items work.plan → m.stopped ≡ false → Follows work past m.c [] m
starts work past m mark none first going =
    let state : ℕ → List Flying → List Turn → Bool → State = λ a ws ts b. record { past = past; a = a; c = m.c; flying = ws; turns = ts; stopped = b } in
    record {
      run = tt;
      state = ap (λ a. state a (map (flown work) m.flying.items) (map turn_of m.turns.items) m.stopped) (sym mark)
          ∙ ap (λ fs. state past.mark (map (flown work) fs) (map turn_of m.turns.items) m.stopped) none
          ∙ ap (λ ts. state past.mark [] ts m.stopped) (ap (map turn_of) first ∙ turns_first work.plan)
          ∙ ap (λ b. state past.mark [] (first_turns work.plan) b) going;
      lines = λ s i. ap (λ ts. line_of ts s i) first ∙ ap (λ o. line_in o i) (nth-map unanswered work.plan s) ∙ no_line (nth work.plan s) i;
    }

-- one line more of the list
pub more_of : (events : List Event) (at : ℕ) (e d : Event) → at < length events → e ≡ get_or events at d → take at events ++ e ∷ [] ≡ take (at + 1) events
more_of events at e d below is = ap (λ x. take at events ++ x ∷ []) is ∙ sym (take_more events at d below)

pub faults : (work : Workload) (past : Past) (c : ℕ) (events : List Event) (at : ℕ) (e d : Event) → at < length events → e ≡ get_or events at d → IsRun work past c (take at events) → (IsRun work past c (take at events ++ e ∷ []) → ⊥) → IsFirstFault work past c events (at + 1)
faults work past c events at e d below is run never =
    let back : at ≡ at + 1 - 1 = omega arith in
    record {
      some = omega arith;
      within = omega arith;
      before = subst (λ (n : ℕ). IsRun work past c (take n events)) back run;
      fault = λ r. never (subst (λ (es : List Event). IsRun work past c es) (sym (more_of events at e d below is)) r);
    }

pub followed_true : (work : Workload) (past : Past) (c : ℕ) (events : List Event) (m : Machine) (b : Bool) → b ≡ true → IsFollowed work past c events m b → Follows work past c events m
followed_true work past c events m true e f = f
followed_true work past c events m false e f = cc

pub followed_false : (work : Workload) (past : Past) (c : ℕ) (events : List Event) (m : Machine) (b : Bool) → b ≡ false → IsFollowed work past c events m b → IsRun work past c events → ⊥
followed_false work past c events m true e f = cc
followed_false work past c events m false e f = f

pub first_of : (turns : List Stand) (plan others : List (List Command)) → AreFirst turns plan → plan ≡ others → AreFirst turns others
first_of turns plan others first same = first ∙ ap (map unanswered) same

pub take_whole : (events : List Event) (n : ℕ) → length events ≤ n → take n events ≡ events
take_whole [] n le = take-nil n
  where
    take-nil : (n : ℕ) → take {A = Event} n [] ≡ []
    take-nil zero = refl
    take-nil (suc n) = refl
take_whole (e ∷ events) zero le = absurd (omega arith)
take_whole (e ∷ events) (suc n) le = ap (λ es. e ∷ es) (take_whole events n (omega arith))

pub steps : (work : Workload) (past : Past) (c : ℕ) (events : List Event) (at : ℕ) (e d : Event) (m : Machine) → at < length events → e ≡ get_or events at d → Follows work past c (take at events ++ e ∷ []) m → Follows work past c (take (at + 1) events) m
steps work past c events at e d m below is f = subst (λ (es : List Event). Follows work past c es m) (more_of events at e d below is) f
