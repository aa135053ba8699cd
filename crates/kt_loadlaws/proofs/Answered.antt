-- What each command of such a run is answered, and that a session of which all is answered is done.
use Rattle.std.proofs.Common.{◌≡◌, ℕ, zero, suc, ◌+◌, ◌-◌, ◌<◌, ◌≤◌, List, [], ◌∷◌, Some, None, Option, refl, true, false, Bool, cond, sym, ap, ◌∙◌, subst, arith, inl, inr, length}
use Rattle.std.specs.Prelude.{is_some, ◌==◌, unwrap_or, slice_get}
use Rattle.std.proofs.lemmas.Bool.{cases_eq, eqb-true}
use Rattle.std.proofs.lemmas.List.{take_all}
use Rattle.std.proofs.lemmas.Option.{same_Some}
use Rattle.kt_history.specs.declared.command.Command.{Command}
use Rattle.kt_history.specs.declared.event.Event.{Event}
use Rattle.kt_history.specs.declared.event.Event.TheVariants.{Begin, End, Look, Rows, Ancient, Busy, Mark, Chore, Large, Stop}
use Rattle.kt_history.specs.declared.reply.Reply.{Reply}
use Rattle.kt_history.specs.declared.reply.Reply.TheVariants as reply
use Rattle.kt_history.specs.Rows.{Rows as TableRows}
use Rattle.kt_history.specs.History.{rows_at}
use Rattle.kt_history.specs.Operations.{outcomes_on}
use Rattle.kt_history.specs.Machine.{Workload, State, Turn, Allowed, ops_of, nth, set_nth, command_at, command_of, after, state_after, IsRunFrom}
use Rattle.kt_history.specs.Replies.{reply_of, is_of, answers, told}
use Rattle.kt_history.proofs.Runs.{left, right}
use Rattle.kt_loadlaws.specs.Summary.{Counts, all_counted, replied}
use Rattle.kt_loadlaws.proofs.Folds.{rows_on, outcomes_agree, session_of}
use Rattle.kt_loadlaws.proofs.Alone.{session, alone, begun_by, begun_in, flies, StandsAt, OwnWork, nth_set, nth_set_other, the_flying, the_scan, of_scan, of_mark, of_chore, none_large, step_stands}

-- ---- the outcomes of an answer

-- a reply counts as the command does alone
abbrev pub CountsAlone : Workload → TableRows → ℕ → ℕ → Option Reply → Type 0
CountsAlone work base s i r = (n : Counts) → replied n (unwrap_or r reply.Stopped) ≡ all_counted n (outcomes_on work.fill (alone work base s (i - 1)) (ops_of (command_at work s i)))

counts_nothing : (work : Workload) (base : TableRows) (s i : ℕ) → ops_of (command_at work s i) ≡ [] → (n : Counts) → n ≡ all_counted n (outcomes_on work.fill (alone work base s (i - 1)) (ops_of (command_at work s i)))
counts_nothing work base s i e n = sym (ap (λ ops. all_counted n (outcomes_on work.fill (alone work base s (i - 1)) ops)) e)

-- the session and the command that a line is of
same_place : (s i k j : ℕ) → is_of s i k j ≡ true → (k ≡ s) × (j ≡ i)
same_place s i k j h = (sym (eqb-true s k (left (s == k) (i == j) h)), sym (eqb-true i j (right (s == k) (i == j) h)))

placed : (P : ℕ → ℕ → Type 0) (s i k j : ℕ) → is_of s i k j ≡ true → P k j → P s i
placed P s i k j h p = let e = same_place s i k j h in subst (λ a. P a i) e.0 (subst (P k) e.1 p)

pub reply_counts : (work : Workload) (owner : List ℕ → ℕ) (base : TableRows) (st : State) (e : Event) (s i : ℕ) → OwnWork work owner → StandsAt work owner base st → Allowed work st e → answers s i e ≡ true
    → CountsAlone work base s i (reply_of work st.past e)
reply_counts work owner base st (Begin k j ts m) s i own stands h a n = cc
reply_counts work owner base st (End k j ts) s i own stands h a n =
    placed (λ s i. replied n (reply.At ts (outcomes_on work.fill (rows_at st.past (ts - 1)) (ops_of (command_at work k j)))) ≡ all_counted n (outcomes_on work.fill (alone work base s (i - 1)) (ops_of (command_at work s i)))) s i k j a
    (ap (all_counted n) (outcomes_agree owner k work.fill (rows_at st.past (ts - 1)) (alone work base k (j - 1)) (ops_of (command_at work k j))
    (the_flying work owner base st.past st.c st.turns k j ts st.flying h.1 stands.fly).1.rows (own k j).owned))
reply_counts work owner base st (Look k j t m) s i own stands h a n = cc
reply_counts work owner base st (Rows k j t) s i own stands h a n =
    counts_nothing work base s i (placed (λ s i. ops_of (command_at work s i) ≡ []) s i k j a (of_scan (command_at work k j) _ h.1).1) n
reply_counts work owner base st (Ancient k j t m) s i own stands h a n =
    counts_nothing work base s i (placed (λ s i. ops_of (command_at work s i) ≡ []) s i k j a (of_scan (command_at work k j) _ h.1).1) n
reply_counts work owner base st (Busy k j t f) s i own stands h a n =
    counts_nothing work base s i (placed (λ s i. ops_of (command_at work s i) ≡ []) s i k j a (of_scan (command_at work k j) _ h.2).1) n
reply_counts work owner base st (Mark k j m) s i own stands h a n =
    counts_nothing work base s i (placed (λ s i. ops_of (command_at work s i) ≡ []) s i k j a (of_mark (command_at work k j) _ h.2).1) n
reply_counts work owner base st (Chore k j) s i own stands h a n =
    counts_nothing work base s i (placed (λ s i. ops_of (command_at work s i) ≡ []) s i k j a (of_chore (command_at work k j) h.2).1) n
reply_counts work owner base st (Large k j m) s i own stands h a n = absurd (none_large work owner k j m own h.2)
reply_counts work owner base st Stop s i own stands h a n = cc

-- and so each answer that a run told
pub told_counts : (work : Workload) (owner : List ℕ → ℕ) (base : TableRows) (st : State) (es : List Event) (s i : ℕ) → OwnWork work owner → StandsAt work owner base st → IsRunFrom work st es
    → is_some (told work st es s i) ≡ true → CountsAlone work base s i (told work st es s i)
told_counts work owner base st [] s i own stands run some = cc
told_counts work owner base st (e ∷ es) s i own stands run some =
    elim (answers s i e) as (λ b. answers s i e ≡ b → is_some (cond b (reply_of work st.past e) (told work (after work st e) es s i)) ≡ true → CountsAlone work base s i (cond b (reply_of work st.past e) (told work (after work st e) es s i))) [
      | true ↦ λ here _. reply_counts work owner base st e s i own stands run.0 here
      | false ↦ λ _ later. told_counts work owner base (after work st e) es s i own (step_stands work owner base st e own stands run.0) run.1 later
    ] refl some

-- ---- a session goes on

-- the next command of session s is behind the i-th
pub record IsBehind (turns : List Turn) (s i : ℕ) : Type 0 where
  pub turn : Turn
  pub is : nth turns s ≡ Some turn
  pub behind : i < turn.next

-- a turn that changes goes on
behind_set : (turns : List Turn) (s i k : ℕ) (old new : Turn) → nth turns k ≡ Some old → old.next ≤ new.next → IsBehind turns s i → IsBehind (set_nth turns k new) s i
behind_set turns s i k old new is le b = elim (cases_eq k s) [
  | inl self ↦ record {
    turn = new;
    is = subst (λ n. nth (set_nth turns k new) n ≡ Some new) self (nth_set turns k old new is);
    behind = let e = ap (λ (t : Turn). t.next) (same_Some old b.turn (sym is ∙ ap (nth turns) self ∙ b.is)) in omega (arith, e, b.behind);
  }
  | inr other ↦ record { turn = b.turn; is = nth_set_other turns k s new other ∙ b.is; behind = b.behind }
]

goes_on : (turns : List Turn) (s i k j : ℕ) (look : Option ℕ) → nth turns k ≡ Some (record { next = j; look = look }) → IsBehind turns s i → IsBehind (set_nth turns k (record { next = j + 1; look = None })) s i
goes_on turns s i k j look is b = behind_set turns s i k (record { next = j; look = look }) (record { next = j + 1; look = None }) is (omega arith) b

gone_on : (turns : List Turn) (s i k j : ℕ) (look : Option ℕ) → nth turns k ≡ Some (record { next = j; look = look }) → is_of s i k j ≡ true → IsBehind (set_nth turns k (record { next = j + 1; look = None })) s i
gone_on turns s i k j look is a = placed (IsBehind (set_nth turns k (record { next = j + 1; look = None }))) s i k j a
    (record { turn = record { next = j + 1; look = None }; is = nth_set turns k (record { next = j; look = look }) (record { next = j + 1; look = None }) is; behind = omega arith })

stays_behind : (work : Workload) (owner : List ℕ → ℕ) (base : TableRows) (st : State) (e : Event) (s i : ℕ) → OwnWork work owner → StandsAt work owner base st → Allowed work st e → IsBehind st.turns s i → IsBehind (after work st e).turns s i
stays_behind work owner base st (Begin k j ts m) s i own stands h b = b
stays_behind work owner base st (End k j ts) s i own stands h b = goes_on st.turns s i k j None (the_flying work owner base st.past st.c st.turns k j ts st.flying h.1 stands.fly).1.turn b
stays_behind work owner base st (Look k j t m) s i own stands h b = behind_set st.turns s i k (record { next = j; look = None }) (record { next = j; look = Some t }) h.1.next (omega arith) b
stays_behind work owner base st (Rows k j t) s i own stands h b = let look = the_scan (command_at work k j) st k j t h.1 in goes_on st.turns s i k j look.0 look.1.next b
stays_behind work owner base st (Ancient k j t m) s i own stands h b = let look = the_scan (command_at work k j) st k j t h.1 in goes_on st.turns s i k j look.0 look.1.next b
stays_behind work owner base st (Busy k j t f) s i own stands h b = goes_on st.turns s i k j None h.1.next b
stays_behind work owner base st (Mark k j m) s i own stands h b = goes_on st.turns s i k j None h.1.next b
stays_behind work owner base st (Chore k j) s i own stands h b = goes_on st.turns s i k j None h.1.next b
stays_behind work owner base st (Large k j m) s i own stands h b = absurd (none_large work owner k j m own h.2)
stays_behind work owner base st Stop s i own stands h b = b

answered_behind : (work : Workload) (owner : List ℕ → ℕ) (base : TableRows) (st : State) (e : Event) (s i : ℕ) → OwnWork work owner → StandsAt work owner base st → Allowed work st e → answers s i e ≡ true → IsBehind (after work st e).turns s i
answered_behind work owner base st (Begin k j ts m) s i own stands h a = cc
answered_behind work owner base st (End k j ts) s i own stands h a = gone_on st.turns s i k j None (the_flying work owner base st.past st.c st.turns k j ts st.flying h.1 stands.fly).1.turn a
answered_behind work owner base st (Look k j t m) s i own stands h a = cc
answered_behind work owner base st (Rows k j t) s i own stands h a = let look = the_scan (command_at work k j) st k j t h.1 in gone_on st.turns s i k j look.0 look.1.next a
answered_behind work owner base st (Ancient k j t m) s i own stands h a = let look = the_scan (command_at work k j) st k j t h.1 in gone_on st.turns s i k j look.0 look.1.next a
answered_behind work owner base st (Busy k j t f) s i own stands h a = gone_on st.turns s i k j None h.1.next a
answered_behind work owner base st (Mark k j m) s i own stands h a = gone_on st.turns s i k j None h.1.next a
answered_behind work owner base st (Chore k j) s i own stands h a = gone_on st.turns s i k j None h.1.next a
answered_behind work owner base st (Large k j m) s i own stands h a = absurd (none_large work owner k j m own h.2)
answered_behind work owner base st Stop s i own stands h a = cc

run_behind : (work : Workload) (owner : List ℕ → ℕ) (base : TableRows) (st : State) (es : List Event) (s i : ℕ) → OwnWork work owner → StandsAt work owner base st → IsRunFrom work st es → IsBehind st.turns s i → IsBehind (state_after work st es).turns s i
run_behind work owner base st [] s i own stands run b = b
run_behind work owner base st (e ∷ es) s i own stands run b =
    run_behind work owner base (after work st e) es s i own (step_stands work owner base st e own stands run.0) run.1 (stays_behind work owner base st e s i own stands run.0 b)

-- behind what was answered
pub told_behind : (work : Workload) (owner : List ℕ → ℕ) (base : TableRows) (st : State) (es : List Event) (s i : ℕ) → OwnWork work owner → StandsAt work owner base st → IsRunFrom work st es
    → is_some (told work st es s i) ≡ true → IsBehind (state_after work st es).turns s i
told_behind work owner base st [] s i own stands run some = cc
told_behind work owner base st (e ∷ es) s i own stands run some =
    elim (answers s i e) as (λ b. answers s i e ≡ b → is_some (cond b (reply_of work st.past e) (told work (after work st e) es s i)) ≡ true → IsBehind (state_after work (after work st e) es).turns s i) [
      | true ↦ λ here _. run_behind work owner base (after work st e) es s i own (step_stands work owner base st e own stands run.0) run.1 (answered_behind work owner base st e s i own stands run.0 here)
      | false ↦ λ _ later. told_behind work owner base (after work st e) es s i own (step_stands work owner base st e own stands run.0) run.1 later
    ] refl some

-- ---- a session that is done

last_there : {A : Type 0} (xs : List A) (k : ℕ) → length xs ≡ suc k → is_some (slice_get xs k) ≡ true
last_there [] k e = absurd (omega arith)
last_there (x ∷ xs) zero e = refl
last_there (x ∷ xs) (suc k) e = last_there xs k (omega arith)

command_there : (o : Option (List Command)) (k : ℕ) → is_some (slice_get (session_of o) k) ≡ true → is_some (command_of o (suc k)) ≡ true
command_there None k h = cc
command_there (Some commands) k h = h

begun_behind : (o : Option Turn) (f : Bool) (turn : Turn) (i : ℕ) → o ≡ Some turn → i < turn.next → i ≤ begun_by o f
begun_behind o f turn i e lt = subst (λ p. i ≤ begun_by p f) (sym e) (one f)
  where
    one : (f : Bool) → i ≤ begun_by (Some turn) f
    one true = omega arith
    one false = omega arith

-- where its last command is answered, it has begun all
pub all_begun : (work : Workload) (st : State) (s : ℕ) → ((i : ℕ) → is_some (command_at work s i) ≡ true → IsBehind st.turns s i) → length (session work s) ≤ begun_in st.turns st.flying s
all_begun work st s behind = one (length (session work s)) refl
  where
    one : (n : ℕ) → length (session work s) ≡ n → n ≤ begun_in st.turns st.flying s
    one zero e = omega arith
    one (suc k) e = let b = behind (suc k) (command_there (nth work.plan s) k (last_there (session work s) k e)) in begun_behind (nth st.turns s) (flies s st.flying) b.turn (suc k) b.is b.behind

pub alone_all : (work : Workload) (base : TableRows) (s n : ℕ) → length (session work s) ≤ n → alone work base s n ≡ rows_on work.fill base (session work s)
alone_all work base s n le = ap (rows_on work.fill base) (take_all n (session work s) le)
