-- A write that flies is the next command of its session.
use Rattle.std.proofs.Common.{◌≡◌, ◌≢◌, ℕ, List, [], ◌∷◌, ◌++◌, Some, None, Option, refl, true, false, Bool, ◌&&◌, ◌||◌, cond, sym, ap, ◌∙◌, arith}
use Rattle.std.specs.Prelude.{◌==◌, not}
use Rattle.std.specs.List.{list_any, filter, AllByRecursion}
use Rattle.std.proofs.lemmas.Bool.Decides.{nat_tests}
use Rattle.kt_history.specs.declared.command.Command.{Command}
use Rattle.kt_history.specs.declared.command.Command.TheVariants as command
use Rattle.kt_history.specs.declared.event.Event.{Event}
use Rattle.kt_history.specs.declared.event.Event.TheVariants.{Begin, End, Look, Rows, Ancient, Busy, Mark, Chore, Large, Stop}
use Rattle.kt_history.specs.Machine.{Workload, State, Flying, Turn, Allowed, IsNext, MayRead, ReadsAt, look_for, IfScan, IsRunFrom, command_at, after, state_after, nth, set_nth}
use Rattle.kt_judge.specs.Machine.{Sits}
use Rattle.kt_judge.proofs.Lines.{nth-set_other}

abbrev sits : List Turn → Flying → Type 0
sits turns w = nth turns w.s ≡ Some (record { next = w.i; look = None })

abbrev AllSit : List Turn → List Flying → Type 0
AllSit turns flying = AllByRecursion (sits turns) flying

or_left : (a b : Bool) → (a || b) ≡ false → a ≡ false
or_left true b h = cc
or_left false b h = refl

or_right : (a b : Bool) → (a || b) ≡ false → b ≡ false
or_right true b h = cc
or_right false b h = h

differs : (a b : ℕ) → (a == b) ≡ false → a ≢ b
differs a b e h = grind (arith, nat_tests)

others_sit : (turns : List Turn) (s : ℕ) (v : Turn) (flying : List Flying) → list_any (λ w. w.s == s) flying ≡ false → AllSit turns flying → AllSit (set_nth turns s v) flying
others_sit turns s v [] none h = tt
others_sit turns s v (w ∷ flying) none h =
    (nth-set_other turns s w.s v (differs w.s s (or_left _ _ none)) ∙ h.0, others_sit turns s v flying (or_right _ _ none) h.1)

landed_sit : (turns : List Turn) (s : ℕ) (v : Turn) (flying : List Flying) → AllSit turns flying → AllSit (set_nth turns s v) (filter (λ w. not (w.s == s)) flying)
landed_sit turns s v [] h = tt
landed_sit turns s v (w ∷ flying) h =
    elim (w.s == s) as (λ b. (w.s == s) ≡ b → AllSit (set_nth turns s v) (cond (not b) (w ∷ filter (λ w. not (w.s == s)) flying) (filter (λ w. not (w.s == s)) flying))) [
      | true ↦ λ _. landed_sit turns s v flying h.1
      | false ↦ λ e. (nth-set_other turns s w.s v (differs w.s s e) ∙ h.0, landed_sit turns s v flying h.1)
    ] refl

one_more_sits : (turns : List Turn) (w : Flying) (flying : List Flying) → AllSit turns flying → sits turns w → AllSit turns (flying ++ w ∷ [])
one_more_sits turns w [] h k = (k, tt)
one_more_sits turns w (v ∷ flying) h k = (h.0, one_more_sits turns w flying h.1 k)

abbrev at_turn : ℕ → Option Turn
at_turn n = Some (record { next = n; look = None })

-- a session whose write flies is at that write
pub flying_sits : (turns : List Turn) (s i ts : ℕ) (flying : List Flying) → AllSit turns flying → list_any (λ w. (w.s == s) && (w.i == i) && (w.ts == ts)) flying ≡ true → nth turns s ≡ Some (record { next = i; look = None })
flying_sits turns s i ts [] h any = cc
flying_sits turns s i ts (w ∷ flying) h any =
    elim ((w.s == s) && (w.i == i) && (w.ts == ts)) as (λ b. ((w.s == s) && (w.i == i) && (w.ts == ts)) ≡ b → (b || list_any (λ w. (w.s == s) && (w.i == i) && (w.ts == ts)) flying) ≡ true → nth turns s ≡ Some (record { next = i; look = None })) [
      | true ↦ λ here _.
          let same : w.s ≡ s = grind (arith, nat_tests) in
          let also : w.i ≡ i = grind (arith, nat_tests) in
          ap (nth turns) (sym same) ∙ h.0 ∙ ap at_turn also
      | false ↦ λ _ rest. flying_sits turns s i ts flying h.1 rest
    ] refl any

-- a scan that may be answered is the next command of its session
pub record NextOf (st : State) (s i : ℕ) : Type 0 where
  pub look : Option ℕ
  pub is : IsNext st s i look

read_next : (o : Option Command) (st : State) (s i t : ℕ) → IfScan o (λ w. ReadsAt w t × IsNext st s i (look_for w t)) → NextOf st s i
read_next None st s i t h = absurd h
read_next (Some (command.Write w)) st s i t h = absurd h
read_next (Some (command.Scan scan)) st s i t h = record { look = look_for scan.at t; is = h.1 }
read_next (Some (command.Mark a)) st s i t h = absurd h
read_next (Some (command.Chore chore)) st s i t h = absurd h

pub may_read_next : (work : Workload) (st : State) (s i t : ℕ) → MayRead work st s i t → NextOf st s i
may_read_next work st s i t h = read_next (command_at work s i) st s i t h

sits_after : (work : Workload) (st : State) (e : Event) → Allowed work st e → Sits st → Sits (after work st e)
sits_after work st (Begin s i ts m) h k = one_more_sits st.turns _ st.flying k h.1.next
sits_after work st (End s i ts) h k = landed_sit st.turns s _ st.flying k
sits_after work st (Look s i t m) h k = others_sit st.turns s _ st.flying h.1.rests k
sits_after work st (Rows s i t) h k = others_sit st.turns s _ st.flying (may_read_next work st s i t h.1).is.rests k
sits_after work st (Ancient s i t a) h k = others_sit st.turns s _ st.flying (may_read_next work st s i t h.1).is.rests k
sits_after work st (Busy s i t f) h k = others_sit st.turns s _ st.flying h.1.rests k
sits_after work st (Mark s i a) h k = others_sit st.turns s _ st.flying h.1.rests k
sits_after work st (Chore s i) h k = others_sit st.turns s _ st.flying h.1.rests k
sits_after work st (Large s i n) h k = others_sit st.turns s _ st.flying h.1.rests k
sits_after work st Stop h k = k

pub sits_all : (work : Workload) (st : State) (es : List Event) → IsRunFrom work st es → Sits st → Sits (state_after work st es)
sits_all work st [] run k = k
sits_all work st (e ∷ es) run k = sits_all work (after work st e) es run.1 (sits_after work st e run.0 k)
