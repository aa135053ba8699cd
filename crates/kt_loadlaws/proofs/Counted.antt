-- Sessions that own their keys come to the same beside each other as one after another.
use Rattle.std.proofs.Common.{◌≡◌, ℕ, zero, suc, ◌+◌, ◌-◌, ◌≤◌, List, [], ◌∷◌, Some, None, Option, refl, true, Bool, sym, ap, ◌∙◌, subst, arith, take, T}
use Rattle.std.specs.Prelude.{is_some, unwrap_or, slice_get}
use Rattle.std.specs.FinMap.{nat_cmp-IsAntisymmetric, slice_cmp-IsAntisymmetric}
use Rattle.std.specs.FinMap.Entries.{find, same_entries}
use Rattle.std.proofs.lemmas.Cmp.{nat_list_cmp_total}
use Rattle.kt_history.specs.declared.command.Command.{Command}
use Rattle.kt_history.specs.declared.event.Event.{Event}
use Rattle.kt_history.specs.declared.reply.Reply.{Reply}
use Rattle.kt_history.specs.declared.reply.Reply.TheVariants as reply
use Rattle.kt_history.specs.Rows.{Row, Rows, key_cmp}
use Rattle.kt_history.specs.History.{Past, IsPastUpTo, rows_at}
use Rattle.kt_history.specs.Operations.{outcomes_on}
use Rattle.kt_history.specs.Machine.{Workload, State, ops_of, command_of, command_at, start, state_after, IsRun}
use Rattle.kt_history.specs.Replies.{answer, told, past_after, replies_to, all_replies}
use Rattle.kt_history.proofs.Runs.{answer_is_told}
use Rattle.kt_history.proofs.RowLaws.{sorted-replay}
use Rattle.kt_loadlaws.specs.Summary.{Counts, none_counted, all_counted, Folded, command_on, commands_on, sessions_on, replied, all_replied, sessions_replied, counts_in, AllAnswered}
use Rattle.kt_loadlaws.proofs.Folds.{ops_rows, rows_on, AgreeFor, IsOwn, AllOwn, IsOwnPlan, session_of, outcomes_agree, ops_agree, rows_leave, fold_rows, sorted-sessions, own_session, summed_rows}
use Rattle.kt_loadlaws.proofs.Alone.{alone, begun_in, OwnWork, StandsAt, run_stands, start_stands}
use Rattle.kt_loadlaws.proofs.Answered.{CountsAlone, IsBehind, told_counts, told_behind, all_begun, alone_all}

-- ---- the operations of each command

own_at : (owner : List ℕ → ℕ) (cells s : ℕ) (commands : List Command) (k : ℕ) → AllOwn owner cells s commands → IsOwn owner cells s (ops_of (slice_get commands k))
own_at owner cells s [] k own = record { differ = tt; room = omega arith; owned = tt }
own_at owner cells s (c ∷ commands) zero own = own.0
own_at owner cells s (c ∷ commands) (suc k) own = own_at owner cells s commands k own.1

own_command : (owner : List ℕ → ℕ) (cells s : ℕ) (o : Option (List Command)) (i : ℕ) → AllOwn owner cells s (session_of o) → IsOwn owner cells s (ops_of (command_of o i))
own_command owner cells s None i own = record { differ = tt; room = omega arith; owned = tt }
own_command owner cells s (Some commands) zero own = record { differ = tt; room = omega arith; owned = tt }
own_command owner cells s (Some commands) (suc k) own = own_at owner cells s commands k own

pub own_work : (work : Workload) (owner : List ℕ → ℕ) → IsOwnPlan owner work.cells 1 work.plan → OwnWork work owner
own_work work owner own zero i = record { differ = tt; room = omega arith; owned = tt }
own_work work owner own (suc k) i =
    own_command owner work.cells (suc k) (slice_get work.plan k) i (subst (λ n. AllOwn owner work.cells n (session_of (slice_get work.plan k))) (omega arith) (own_session owner work.cells 1 k work.plan own))

-- ---- the counts

-- the replies to the commands of a session, from the i-th on, count as they do alone
abbrev pub SessionCounts : (ℕ → Option Reply) → ℕ → Row → Rows → List Command → Type 0
SessionCounts g i fill base commands = (k : ℕ) → is_some (slice_get commands k) ≡ true → (n : Counts)
    → replied n (unwrap_or (g (i + k)) reply.Stopped) ≡ all_counted n (outcomes_on fill (rows_on fill base (take k commands)) (ops_of (slice_get commands k)))

session_counts : (owner : List ℕ → ℕ) (cells s : ℕ) (fill : Row) (g : ℕ → Option Reply) (i : ℕ) (base : Rows) (f : Folded) (commands : List Command) → AllOwn owner cells s commands → AgreeFor owner s f.rows base
    → SessionCounts g i fill base commands → all_replied f.counts (replies_to g i commands) ≡ (commands_on fill f commands).counts
session_counts owner cells s fill g i base f [] own agree good = refl
session_counts owner cells s fill g i base f (c ∷ commands) own agree good =
    ap (λ n. all_replied n (replies_to g (i + 1) commands)) here
    ∙ session_counts owner cells s fill g (i + 1) (ops_rows fill base (ops_of (Some c))) (command_on fill f c) commands own.1 (ops_agree owner cells s fill f.rows base (ops_of (Some c)) agree own.0)
    (λ k h n. subst (λ j. replied n (unwrap_or (g j) reply.Stopped) ≡ all_counted n (outcomes_on fill (rows_on fill (ops_rows fill base (ops_of (Some c))) (take k commands)) (ops_of (slice_get commands k)))) (next k) (good (suc k) h n))
  where
    first : i + 0 ≡ i
    first = omega arith

    next : (k : ℕ) → i + suc k ≡ (i + 1) + k
    next k = omega arith

    here : replied f.counts (unwrap_or (g i) reply.Stopped) ≡ (command_on fill f c).counts
    here = subst (λ n. replied f.counts (unwrap_or (g n) reply.Stopped) ≡ all_counted f.counts (outcomes_on fill base (ops_of (Some c)))) first (good 0 refl f.counts)
        ∙ ap (all_counted f.counts) (sym (outcomes_agree owner s fill f.rows base (ops_of (Some c)) agree own.0.owned))

plan_counts : (owner : List ℕ → ℕ) (cells : ℕ) (fill : Row) (g : ℕ → ℕ → Option Reply) (base : Rows) (s : ℕ) (f : Folded) (plan : List (List Command)) → IsOwnPlan owner cells s plan
    → ((q : List ℕ) → s ≤ owner q → find key_cmp q f.rows ≡ find key_cmp q base) → ((k : ℕ) → SessionCounts (g (s + k)) 1 fill base (session_of (slice_get plan k)))
    → sessions_replied f.counts (all_replies g s plan) ≡ (sessions_on fill f plan).counts
plan_counts owner cells fill g base s f [] own same good = refl
plan_counts owner cells fill g base s f (commands ∷ plan) own same good =
    ap (λ n. sessions_replied n (all_replies g (s + 1) plan)) (session_counts owner cells s fill (g s) 1 base f commands own.0 (λ q e. same q (omega arith)) (subst (λ m. SessionCounts (g m) 1 fill base commands) first (good 0)))
    ∙ plan_counts owner cells fill g base (s + 1) (commands_on fill f commands) plan own.1
    (λ q le. ap (find key_cmp q) (fold_rows fill f commands) ∙ rows_leave owner cells s fill f.rows commands q own.0 (λ e. omega arith) ∙ same q (omega arith))
    (λ k. subst (λ m. SessionCounts (g m) 1 fill base (session_of (slice_get plan k))) (next k) (good (suc k)))
  where
    first : s + 0 ≡ s
    first = omega arith

    next : (k : ℕ) → s + suc k ≡ (s + 1) + k
    next k = omega arith

-- ---- a run of which all is answered

command_is : (o : Option (List Command)) (k : ℕ) → command_of o (suc k) ≡ slice_get (session_of o) k
command_is None k = refl
command_is (Some commands) k = refl

as_T : (b : Bool) → b ≡ true → T b
as_T b h = subst T (sym h) tt

-- the sessions of a workload done one after another on some rows
abbrev pub in_turn : Workload → Rows → Folded
in_turn work rows = sessions_on work.fill (record { rows = rows; counts = none_counted }) work.plan

answers_told : (work : Workload) (past : Past) (c : ℕ) (events : List Event) (s i : ℕ) → IsRun work past c events → answer work (past_after work past c events) events s i ≡ told work (start work past c) events s i
answers_told work past c events s i run = answer_is_told work (start work past c) events s i refl run

pub same_rows : (work : Workload) (owner : List ℕ → ℕ) (past : Past) (c : ℕ) (events : List Event) → IsOwnPlan owner work.cells 1 work.plan → IsPastUpTo c past → IsRun work past c events → AllAnswered work past c events
    → rows_at (past_after work past c events) (state_after work (start work past c) events).c ≡ (in_turn work (rows_at past c)).rows
same_rows work owner past c events own ends run all =
    same_entries key_cmp nat_list_cmp_total (slice_cmp-IsAntisymmetric nat_cmp-IsAntisymmetric) (rows_at last.past last.c) (in_turn work (rows_at past c)).rows
    (sorted-replay last.c last.past.writes last.past.base (as_T _ stands.ends.is.rows))
    (sorted-sessions work.fill (record { rows = rows_at past c; counts = none_counted }) work.plan (sorted-replay c past.writes past.base (as_T _ ends.is.rows)))
    (λ q. stands.rows (owner q) q refl
    ∙ ap (find key_cmp q) (alone_all work (rows_at past c) (owner q) (begun_in last.turns last.flying (owner q)) (all_begun work last (owner q) (behind (owner q))))
    ∙ sym (summed_rows owner work.cells work.fill (record { rows = rows_at past c; counts = none_counted }) work.plan q own))
  where
    last : State
    last = state_after work (start work past c) events

    stands : StandsAt work owner (rows_at past c) last
    stands = run_stands work owner (rows_at past c) (start work past c) events (own_work work owner own) (start_stands work owner past c ends) run

    behind : (s i : ℕ) → is_some (command_at work s i) ≡ true → IsBehind last.turns s i
    behind s i some = told_behind work owner (rows_at past c) (start work past c) events s i (own_work work owner own) (start_stands work owner past c ends) run
        (ap is_some (sym (answers_told work past c events s i run)) ∙ all s i some)

pub same_counts : (work : Workload) (owner : List ℕ → ℕ) (past : Past) (c : ℕ) (events : List Event) → IsOwnPlan owner work.cells 1 work.plan → IsPastUpTo c past → IsRun work past c events → AllAnswered work past c events
    → counts_in (all_replies (answer work (past_after work past c events) events) 1 work.plan) ≡ (in_turn work (rows_at past c)).counts
same_counts work owner past c events own ends run all =
    plan_counts owner work.cells work.fill (answer work (past_after work past c events) events) (rows_at past c) 1 (record { rows = rows_at past c; counts = none_counted }) work.plan own (λ q le. refl) good
  where
    counts : (s i : ℕ) → is_some (command_at work s i) ≡ true → CountsAlone work (rows_at past c) s i (answer work (past_after work past c events) events s i)
    counts s i some =
        let e = answers_told work past c events s i run in
        subst (CountsAlone work (rows_at past c) s i) (sym e)
        (told_counts work owner (rows_at past c) (start work past c) events s i (own_work work owner own) (start_stands work owner past c ends) run (ap is_some (sym e) ∙ all s i some))

    alike : (k j n : ℕ) → n ≡ j → (m : Counts) → all_counted m (outcomes_on work.fill (alone work (rows_at past c) (suc k) n) (ops_of (command_at work (suc k) (suc j))))
        ≡ all_counted m (outcomes_on work.fill (rows_on work.fill (rows_at past c) (take j (session_of (slice_get work.plan k)))) (ops_of (slice_get (session_of (slice_get work.plan k)) j)))
    alike k j n e m = ap (λ x. all_counted m (outcomes_on work.fill (alone work (rows_at past c) (suc k) x) (ops_of (command_at work (suc k) (suc j))))) e
        ∙ ap (λ o. all_counted m (outcomes_on work.fill (alone work (rows_at past c) (suc k) j) (ops_of o))) (command_is (slice_get work.plan k) j)

    at : (k j a b : ℕ) → a ≡ suc k → b ≡ suc j → is_some (slice_get (session_of (slice_get work.plan k)) j) ≡ true → (n : Counts)
        → replied n (unwrap_or (answer work (past_after work past c events) events a b) reply.Stopped)
        ≡ all_counted n (outcomes_on work.fill (rows_on work.fill (rows_at past c) (take j (session_of (slice_get work.plan k)))) (ops_of (slice_get (session_of (slice_get work.plan k)) j)))
    at k j a b ea eb some n =
        ap (λ x. replied n (unwrap_or (answer work (past_after work past c events) events x b) reply.Stopped)) ea
        ∙ ap (λ x. replied n (unwrap_or (answer work (past_after work past c events) events (suc k) x) reply.Stopped)) eb
        ∙ counts (suc k) (suc j) (ap is_some (command_is (slice_get work.plan k) j) ∙ some) n
        ∙ alike k j (suc j - 1) (omega arith) n

    good : (k : ℕ) → SessionCounts (answer work (past_after work past c events) events (1 + k)) 1 work.fill (rows_at past c) (session_of (slice_get work.plan k))
    good k j some n = at k j (1 + k) (1 + j) (omega arith) (omega arith) some n
