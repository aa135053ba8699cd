-- Replies and places that stand.
use Rattle.std.proofs.Common.{◌≡◌, ℕ, zero, suc, ◌+◌, ◌-◌, ◌<◌, ◌≤◌, List, [], ◌∷◌, Some, None, Option, refl, true, false, Bool, sym, ap, ◌∙◌, subst, arith, length, add-one, inl, inr}
use Rattle.std.specs.Prelude.{slice_get, is_some}
use Rattle.std.proofs.lemmas.Bool.{cases_lt, cases_eq}
use Rattle.std.specs.FinMap.Entries.{find, is_sorted}
use Rattle.kt_history.specs.declared.change.Outcome.{Outcome}
use Rattle.kt_history.specs.declared.command.Command.{Command}
use Rattle.kt_history.specs.declared.event.Event.{Event}
use Rattle.kt_history.specs.declared.operation.RowOp.{RowOp}
use Rattle.kt_history.specs.declared.reply.Reply.{Reply}
use Rattle.kt_history.specs.Rows.{Row, Rows, key_cmp}
use Rattle.kt_history.specs.History.{Past, rows_at}
use Rattle.kt_history.specs.Operations.{effect_on, outcomes_on, outcome_of}
use Rattle.kt_history.specs.Machine.{Workload, State, command_at, ops_of}
use Rattle.kt_history.specs.Replies.{answer, reply_at, past_after}
use Rattle.kt_history.proofs.Effects.{outcomes}
use Rattle.kt_script.specs.declared.replies.ReplyLine.{ReplyLine}
use Rattle.kt_script.specs.declared.reread.Output.{Output}
use Rattle.kt_judge.specs.Decided.{Decided}
use Rattle.kt_script.specs.declared.output.LastLine.{LastLine}
use Rattle.kt_judge.specs.declared.walk.Walk.{Walk}
use Rattle.kt_judge.specs.declared.walk.Walk.TheVariants.{Run}
use Rattle.kt_judge.specs.Walks.{IsWalk}
use Rattle.kt_judge.specs.Turns.{Stand}
use Rattle.kt_judge.specs.declared.machine.Machine.{Machine}
use Rattle.kt_judge.specs.Machine.{Follows, state_of, line_in, write_in, ops_in}
use Rattle.kt_judge.specs.Tables.{Entries, IsTableOf}
use Rattle.kt_judge.specs.Grown.{end_of}
use Rattle.kt_judge.specs.Verdicts.{ReplyStands, Stands, EndStands, IsBefore, IsFirstWrong, in_session}
use Rattle.kt_judge.specs.Replied.{ShowsAt, ShowsPast, outcomes_told, IsFirstNot, from_one, StandsAt}
use Rattle.kt_judge.specs.Wrong.{lines_of, lines_at}
use Rattle.kt_judge.proofs.Growing.{ops_same, shows_past}

-- what the table tells of operations is what becomes of them
outcomes_are : (fill : Row) (es : Entries) (t : ℕ) (rows : Rows) (ops : List RowOp) → ShowsAt es t rows → outcomes_told es t ops ≡ outcomes_on fill rows ops
outcomes_are fill es t rows [] shows = refl
outcomes_are fill es t rows (op ∷ ops) shows =
    ap (λ (o : Outcome). o ∷ outcomes_told es t ops) (ap (λ row. outcome_of op.kind (is_some row)) (shows.1 op.key) ∙ sym (outcomes fill op.kind op.cells (find key_cmp op.key rows)))
    ∙ ap (λ (os : List Outcome). (effect_on fill rows op).1 ∷ os) (outcomes_are fill es t rows ops shows)

pub outcomes_at : (work : Workload) (whole : Past) (es : Entries) (s i ts : ℕ) (ops : List RowOp) → ShowsPast es whole → ops ≡ ops_in (write_in (command_at work s i))
    → outcomes_told es (ts - 1) ops ≡ outcomes_on work.fill (rows_at whole (ts - 1)) (ops_of (command_at work s i))
outcomes_at work whole es s i ts ops shows is =
    ap (outcomes_told es (ts - 1)) (is ∙ ops_same (command_at work s i)) ∙ outcomes_are work.fill es (ts - 1) (rows_at whole (ts - 1)) (ops_of (command_at work s i)) (shows (ts - 1))

-- ---- places of a session

swap : (work : Workload) (a b : Bool) (c d : Option Command) (q r : Option Reply) (k l : Option ReplyLine) → a ≡ b → c ≡ d → q ≡ r → k ≡ l → ReplyStands work a c q k → ReplyStands work b d r l
swap work a b c d q r k l e f g h stands =
    subst (λ x. ReplyStands work b d r x) h (subst (λ x. ReplyStands work b d x k) g (subst (λ x. ReplyStands work b x q k) f (subst (λ x. ReplyStands work x c q k) e stands)))

-- a test of what is there at a place
pub decided_at : (work : Workload) (whole : Past) (stopped : Bool) (commands : List Command) (lines : List Event) (replies : List ReplyLine) (at : ℕ) (c : Option Command) (line : Option Event) (r : Option ReplyLine) (b : Bool)
    → c ≡ slice_get commands at → line ≡ slice_get lines at → r ≡ slice_get replies at → Decided b (ReplyStands work stopped c (reply_at work whole line) r) → Decided b (StandsAt work whole stopped commands lines replies at)
decided_at work whole stopped commands lines replies at c line r true e f g d = swap work stopped stopped c _ _ _ r _ refl e (ap (reply_at work whole) f) g d
decided_at work whole stopped commands lines replies at c line r false e f g d = λ s. d (swap work stopped stopped _ c _ _ _ r refl (sym e) (ap (reply_at work whole) (sym f)) (sym g) s)

nothing_at : {A : Type 0} (xs : List A) (k : ℕ) → length xs ≤ k → slice_get xs k ≡ None
nothing_at [] zero le = refl
nothing_at [] (suc k) le = refl
nothing_at (x ∷ xs) zero le = absurd (omega arith)
nothing_at (x ∷ xs) (suc k) le = nothing_at xs k (omega arith)

-- behind the last command and reply nothing is wrong
pub stands_behind : (work : Workload) (whole : Past) (stopped : Bool) (commands : List Command) (lines : List Event) (replies : List ReplyLine) (k : ℕ) → length commands ≤ k → length replies ≤ k → StandsAt work whole stopped commands lines replies k
stands_behind work whole stopped commands lines replies k le ge =
    swap work stopped stopped None _ (reply_at work whole (slice_get lines k)) _ None _ refl (sym (nothing_at commands k le)) refl (sym (nothing_at replies k ge)) tt

pub one_more : (P : ℕ → Type 0) (n : ℕ) → ((k : ℕ) → k < n → P k) → P n → (k : ℕ) → k < n + 1 → P k
one_more P n below here k lt = elim (cases_eq k n) [
  | inl e ↦ subst P (sym e) here
  | inr ne ↦ below k (omega arith)
]

pub first_from_one : (P : ℕ → Type 0) (n : ℕ) → ((k : ℕ) → k < n → P k) → (P n → ⊥) → IsFirstNot (from_one P) (Some (n + 1))
first_from_one P n below wrong = (before, subst (λ (k : ℕ). from_one P k → ⊥) (sym (add-one n)) wrong)
  where
    before : (k : ℕ) → k < n + 1 → from_one P k
    before zero lt = tt
    before (suc k) lt = below k (omega arith)

pub all_from_one : (P : ℕ → Type 0) → ((k : ℕ) → P k) → IsFirstNot (from_one P) None
all_from_one P all zero = tt
all_from_one P all (suc k) = all k

pub all_of : (P : ℕ → Type 0) (n : ℕ) → ((k : ℕ) → k < n → P k) → ((k : ℕ) → n ≤ k → P k) → (k : ℕ) → P k
all_of P n below from k = elim (cases_lt k n) [ inl lt ↦ below k lt | inr ge ↦ from k ge ]

-- ---- places by session

line_same : (o : Option Stand) (at : ℕ) → slice_get (lines_of o) at ≡ line_in o (suc at)
line_same None zero = refl
line_same None (suc at) = refl
line_same (Some stand) at = refl

first_same : (P Q : ℕ → Type 0) (o : Option ℕ) → ((k : ℕ) → P k → Q k) → ((k : ℕ) → Q k → P k) → IsFirstNot P o → IsFirstNot Q o
first_same P Q None f g h = λ k. f k (h k)
first_same P Q (Some n) f g h = (λ k lt. f k (h.0 k lt), λ q. h.1 (g n q))

-- a session that is there, in the script and in the output
pub session_both : (work : Workload) (past : Past) (c : ℕ) (out : Output) (m : Machine) (s : ℕ) (commands : List Command) (replies : List ReplyLine) (wrong : Option ℕ) → Follows work past c out.events m
    → Some commands ≡ slice_get work.plan s → Some replies ≡ slice_get out.replies s
    → IsFirstNot (from_one (StandsAt work (past_after work past c out.events) m.stopped commands (lines_at m.turns.items s) replies)) wrong → IsFirstNot (λ j. Stands work past c out (suc s) j) wrong
session_both work past c out m s commands replies wrong follows here there first = first_same _ _ wrong to from first
  where
    whole : Past
    whole = past_after work past c out.events

    same : (st : State) → st ≡ end_of work past c out.events → st.stopped ≡ (end_of work past c out.events).stopped
    same st e = ap (λ (x : State). x.stopped) e

    reply : (at : ℕ) → reply_at work (past_after work past c out.events) (slice_get (lines_at m.turns.items s) at) ≡ answer work (past_after work past c out.events) out.events (suc s) (suc at)
    reply at = ap (reply_at work (past_after work past c out.events)) (line_same (slice_get m.turns.items s) at ∙ follows.lines (suc s) (suc at))

    to : (k : ℕ) → from_one (StandsAt work (past_after work past c out.events) m.stopped commands (lines_at m.turns.items s) replies) k → Stands work past c out (suc s) k
    to zero h = sym (ap is_some here) ∙ ap is_some there
    to (suc at) h = swap work m.stopped _ (slice_get commands at) _ _ _ (slice_get replies at) _ (same _ follows.state) (ap (λ o. in_session o (suc at)) here) (reply at) (ap (λ o. in_session o (suc at)) there) h

    from : (k : ℕ) → Stands work past c out (suc s) k → from_one (StandsAt work (past_after work past c out.events) m.stopped commands (lines_at m.turns.items s) replies) k
    from zero h = tt
    from (suc at) h = swap work _ m.stopped _ (slice_get commands at) _ _ _ (slice_get replies at) (sym (same _ follows.state)) (sym (ap (λ o. in_session o (suc at)) here)) (sym (reply at)) (sym (ap (λ o. in_session o (suc at)) there)) h

-- the same, with what was handed in
pub session_both_at : (work : Workload) (past : Past) (c : ℕ) (out : Output) (m : Machine) (s : ℕ) (commands cs : List Command) (ls : List Event) (replies rs : List ReplyLine) (wrong : Option ℕ) → Follows work past c out.events m
    → Some commands ≡ slice_get work.plan s → Some replies ≡ slice_get out.replies s → cs ≡ commands → ls ≡ lines_at m.turns.items s → rs ≡ replies
    → IsFirstNot (from_one (StandsAt work (past_after work past c out.events) m.stopped cs ls rs)) wrong → IsFirstNot (λ j. Stands work past c out (suc s) j) wrong
session_both_at work past c out m s commands cs ls replies rs wrong follows here there e f g first =
    session_both work past c out m s commands replies wrong follows here there
    (subst (λ (x : List Command). IsFirstNot (from_one (StandsAt work (past_after work past c out.events) m.stopped x (lines_at m.turns.items s) replies)) wrong) e
    (subst (λ (x : List Event). IsFirstNot (from_one (StandsAt work (past_after work past c out.events) m.stopped cs x replies)) wrong) f
    (subst (λ (x : List ReplyLine). IsFirstNot (from_one (StandsAt work (past_after work past c out.events) m.stopped cs ls x)) wrong) g first)))

-- one that is nowhere
pub session_none : (work : Workload) (past : Past) (c : ℕ) (out : Output) (s : ℕ) → None ≡ slice_get work.plan s → None ≡ slice_get out.replies s → (j : ℕ) → Stands work past c out (suc s) j
session_none work past c out s here there zero = sym (ap is_some here) ∙ ap is_some there
session_none work past c out s here there (suc at) =
    swap work _ _ None _ (answer work (past_after work past c out.events) out.events (suc s) (suc at)) _ None _ refl (ap (λ o. in_session o (suc at)) here) refl (ap (λ o. in_session o (suc at)) there) tt

-- one that is only in the script or only in the output
pub session_script : (work : Workload) (past : Past) (c : ℕ) (out : Output) (s : ℕ) (commands : List Command) → Some commands ≡ slice_get work.plan s → None ≡ slice_get out.replies s → IsFirstNot (λ j. Stands work past c out (suc s) j) (Some 0)
session_script work past c out s commands here there = (λ k lt. absurd (omega arith), λ same. differ (ap is_some here ∙ same ∙ sym (ap is_some there)))
  where
    differ : true ≡ false → ⊥
    differ e = cc

pub session_output : (work : Workload) (past : Past) (c : ℕ) (out : Output) (s : ℕ) (replies : List ReplyLine) → None ≡ slice_get work.plan s → Some replies ≡ slice_get out.replies s → IsFirstNot (λ j. Stands work past c out (suc s) j) (Some 0)
session_output work past c out s replies here there = (λ k lt. absurd (omega arith), λ same. differ (ap is_some here ∙ same ∙ sym (ap is_some there)))
  where
    differ : false ≡ true → ⊥
    differ e = cc

-- ---- all places

no_session : (work : Workload) (past : Past) (c : ℕ) (out : Output) (j : ℕ) → Stands work past c out zero j
no_session work past c out zero = refl
no_session work past c out (suc j) = tt

pub first_place : (work : Workload) (past : Past) (c : ℕ) (out : Output) (s i : ℕ) → ((k : ℕ) → k < s → (j : ℕ) → Stands work past c out (suc k) j) → IsFirstNot (λ j. Stands work past c out (suc s) j) (Some i) → IsFirstWrong work past c out (s + 1) i
first_place work past c out s i below first = subst (λ (n : ℕ). IsFirstWrong work past c out n i) (sym (add-one s)) (record { before = before; wrong = first.1 })
  where
    before : (t j : ℕ) → IsBefore t j (suc s) i → Stands work past c out t j
    before zero j h = no_session work past c out j
    before (suc t) j h = elim h [
      | inl lt ↦ below t (omega arith) j
      | inr both ↦
          let same : t ≡ s = omega (arith, both.0) in
          subst (λ (n : ℕ). Stands work past c out (suc n) j) (sym same) (first.0 j both.1)
    ]

pub every_place : (work : Workload) (past : Past) (c : ℕ) (out : Output) (n : ℕ) → length work.plan ≤ n → length out.replies ≤ n → ((k : ℕ) → k < n → (j : ℕ) → Stands work past c out (suc k) j) → (s i : ℕ) → Stands work past c out s i
every_place work past c out n le ge below zero i = no_session work past c out i
every_place work past c out n le ge below (suc s) i = all_of (λ k. (j : ℕ) → Stands work past c out (suc k) j) n below (λ k from. session_none work past c out k (sym (nothing_at work.plan k (omega arith))) (sym (nothing_at out.replies k (omega arith)))) s i

-- ---- what the parts of a verdict are handed

pub follows_of : (work : Workload) (past : Past) (c : ℕ) (es events : List Event) (w : Walk) (m : Machine) → es ≡ events → w ≡ Run m → IsWalk work past c es w → Follows work past c events m
follows_of work past c es events w m same run walked = subst (λ (x : List Event). Follows work past c x m) same (subst (IsWalk work past c es) run walked)

pub shows_of : (work : Workload) (past : Past) (c : ℕ) (es events : List Event) (entries table : Entries) → es ≡ events → table ≡ entries → is_sorted key_cmp past.base ≡ true
    → IsTableOf (end_of work past c es).c (rows_at (end_of work past c es).past) entries → ShowsPast table (past_after work past c events)
shows_of work past c es events entries table same of sorted is =
    subst (λ (x : Entries). ShowsPast x (past_after work past c events)) (sym of) (subst (λ (x : List Event). ShowsPast entries (past_after work past c x)) same (shows_past work past c es entries sorted is))

pub end_of_run : (work : Workload) (past : Past) (c : ℕ) (events : List Event) (m : Machine) (last : LastLine) (b : Bool) → Follows work past c events m
    → Decided b (EndStands (state_of work (past_after work past c events) m) last) → Decided b (EndStands (end_of work past c events) last)
end_of_run work past c events m last b follows d = subst (λ (st : State). Decided b (EndStands st last)) follows.state d
