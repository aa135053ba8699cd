-- Where each command is answered, no write flies.
use Rattle.std.proofs.Common.{◌≡◌, ℕ, zero, suc, List, [], ◌∷◌, ◌++◌, Option, Some, None, true, false, cond, map, refl, sym, ap, ◌∙◌, eq-eqb}
use Rattle.std.specs.Prelude.{◌==◌, ◌||◌, not, is_some, slice_get, slice_set}
use Rattle.std.specs.List.{list_any, filter}
use Rattle.kt_history.specs.declared.command.Command.{Command}
use Rattle.kt_history.specs.declared.command.Command.TheVariants as command
use Rattle.kt_history.specs.declared.event.Event.{Event}
use Rattle.kt_history.specs.declared.event.Event.TheVariants as event
use Rattle.kt_history.specs.declared.operation.RowOp.{RowOp}
use Rattle.kt_history.specs.History.{Past}
use Rattle.kt_history.specs.Machine.{Workload, State, Flying, Turn, nth, set_nth, command_at, IsNext, IfWrite, IfScan, ReadsAt, look_for, Allowed, after, state_after, start, IsRunFrom, IsRun}
use Rattle.kt_history.specs.Replies.{told}
use Rattle.kt_histlaws.specs.Core.{flown_by}
use Rattle.kt_histlaws.specs.Pending.{Aloft}
use Rattle.kt_serve.proofs.Open.{next_is_open}

get_other : {A : Type 0} (xs : List A) (j k : ℕ) (x : A) → (j ≡ k → ⊥) → slice_get (slice_set xs j x) k ≡ slice_get xs k
get_other [] j k x ne = refl
get_other (y ∷ xs) zero zero x ne = absurd (ne refl)
get_other (y ∷ xs) zero (suc k) x ne = refl
get_other (y ∷ xs) (suc j) zero x ne = refl
get_other (y ∷ xs) (suc j) (suc k) x ne = get_other xs j k x (λ e. ne (ap suc e))

-- what stands elsewhere stays
nth_other : {A : Type 0} (xs : List A) (s k : ℕ) (x : A) → (s ≡ k → ⊥) → nth (set_nth xs s x) k ≡ nth xs k
nth_other xs zero k x ne = refl
nth_other xs (suc s) zero x ne = refl
nth_other xs (suc s) (suc k) x ne = get_other xs s k x (λ e. ne (ap suc e))

other : (a b : ℕ) → (a == b) ≡ false → b ≡ a → ⊥
other a b is e = let yes_it : (a == b) ≡ true = eq-eqb a b (sym e) in cc

-- each flying write is the next command of its session, and a command of the plan
abbrev AreOwn : Workload → List Turn → List Flying → Type 0
AreOwn work turns [] = Unit {0}
AreOwn work turns (w ∷ flying) = (nth turns w.s ≡ Some (record { next = w.i; look = None })) × (is_some (command_at work w.s w.i) ≡ true) × AreOwn work turns flying

own_more : (work : Workload) (turns : List Turn) (flying : List Flying) (w : Flying) → AreOwn work turns flying → nth turns w.s ≡ Some (record { next = w.i; look = None }) → is_some (command_at work w.s w.i) ≡ true → AreOwn work turns (flying ++ w ∷ [])
own_more work turns [] w all next there = (next, there, tt)
own_more work turns (v ∷ flying) w all next there = (all.0, all.1, own_more work turns flying w all.2 next there)

-- another session goes on
own_beside : (work : Workload) (turns : List Turn) (flying : List Flying) (s : ℕ) (t : Turn) → AreOwn work turns flying → list_any (λ w. w.s == s) flying ≡ false → AreOwn work (set_nth turns s t) flying
own_beside work turns [] s t all none = tt
own_beside work turns (v ∷ flying) s t all none =
    elim (v.s == s) as (λ b. v.s == s ≡ b → (b || list_any (λ w. w.s == s) flying) ≡ false → AreOwn work (set_nth turns s t) (v ∷ flying)) [
      | true ↦ λ is h. absurd cc
      | false ↦ λ is h. (nth_other turns s v.s t (other v.s s is) ∙ all.0, all.1, own_beside work turns flying s t all.2 h)
    ] refl none

-- a session goes on whose write flies no more
own_fewer : (work : Workload) (turns : List Turn) (flying : List Flying) (s : ℕ) (t : Turn) → AreOwn work turns flying → AreOwn work (set_nth turns s t) (filter (λ w. not (w.s == s)) flying)
own_fewer work turns [] s t all = tt
own_fewer work turns (v ∷ flying) s t all =
    elim (v.s == s) as (λ b. v.s == s ≡ b → AreOwn work (set_nth turns s t) (cond (not b) (v ∷ filter (λ w. not (w.s == s)) flying) (filter (λ w. not (w.s == s)) flying))) [
      | true ↦ λ is. own_fewer work turns flying s t all.2
      | false ↦ λ is. (nth_other turns s v.s t (other v.s s is) ∙ all.0, all.1, own_fewer work turns flying s t all.2)
    ] refl

there_is : (o : Option Command) (P : List RowOp → Type 0) → IfWrite o P → is_some o ≡ true
there_is None P h = absurd h
there_is (Some c) P h = refl

scan_rests : (st : State) (s i t : ℕ) (o : Option Command) → IfScan o (λ w. ReadsAt w t × IsNext st s i (look_for w t)) → list_any (λ w. w.s == s) st.flying ≡ false
scan_rests st s i t None h = absurd h
scan_rests st s i t (Some (command.Write w)) h = absurd h
scan_rests st s i t (Some (command.Scan scan)) h = h.1.rests
scan_rests st s i t (Some (command.Mark a)) h = absurd h
scan_rests st s i t (Some (command.Chore chore)) h = absurd h

after_own : (work : Workload) (st : State) (e : Event) → Allowed work st e → AreOwn work st.turns st.flying → AreOwn work (after work st e).turns (after work st e).flying
after_own work st (event.Begin s i ts m) may all = own_more work st.turns st.flying _ all may.1.next (there_is (command_at work s i) _ may.2)
after_own work st (event.End s i ts) may all = own_fewer work st.turns st.flying s _ all
after_own work st (event.Look s i t m) may all = own_beside work st.turns st.flying s _ all may.1.rests
after_own work st (event.Rows s i t) may all = own_beside work st.turns st.flying s _ all (scan_rests st s i t _ may.1)
after_own work st (event.Ancient s i t a) may all = own_beside work st.turns st.flying s _ all (scan_rests st s i t _ may.1)
after_own work st (event.Busy s i t f) may all = own_beside work st.turns st.flying s _ all may.1.rests
after_own work st (event.Mark s i a) may all = own_beside work st.turns st.flying s _ all may.1.rests
after_own work st (event.Chore s i) may all = own_beside work st.turns st.flying s _ all may.1.rests
after_own work st (event.Large s i n) may all = own_beside work st.turns st.flying s _ all may.1.rests
after_own work st event.Stop may all = all

run_own : (work : Workload) (st : State) (lines : List Event) → IsRunFrom work st lines → AreOwn work st.turns st.flying → AreOwn work (state_after work st lines).turns (state_after work st lines).flying
run_own work st [] run all = all
run_own work st (e ∷ lines) run all = run_own work (after work st e) lines run.1 (after_own work st e run.0 all)

no_flying : (work : Workload) (turns : List Turn) (flying : List Flying) → AreOwn work turns flying → ((s i : ℕ) → is_some (command_at work s i) ≡ true → nth turns s ≡ Some (record { next = i; look = None }) → ⊥) → flying ≡ []
no_flying work turns [] all none = refl
no_flying work turns (w ∷ flying) all none = absurd (none w.s w.i all.1 all.0)

pub none_flies : (work : Workload) (first : Past) (c : ℕ) (lines : List Event) → IsRun work first c lines → ((s i : ℕ) → is_some (command_at work s i) ≡ true → is_some (told work (start work first c) lines s i) ≡ true)
    → (state_after work (start work first c) lines).flying ≡ []
none_flies work first c lines run answered =
    no_flying work _ _ (run_own work (start work first c) lines run tt)
    (λ s i there next. let open_still = next_is_open work first c lines s i None run next in let it = answered s i there in cc)

-- and so none is aloft
pub none_aloft : (aloft : List Aloft) → map flown_by aloft ≡ [] → aloft ≡ []
none_aloft [] e = refl
none_aloft (w ∷ aloft) e = absurd cc
