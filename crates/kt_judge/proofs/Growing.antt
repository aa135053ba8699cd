-- The table of a run, line by line.
use Rattle.std.proofs.Common.{◌≡◌, ℕ, zero, suc, ◌+◌, ◌-◌, ◌<◌, ◌≤◌, List, [], ◌∷◌, Some, None, Option, refl, sym, ap, ◌∙◌, subst, arith, length, take, get_or, max}
use Rattle.std.proofs.lemmas.List.{take_more, take_all}
use Rattle.kt_history.specs.declared.command.Command.{Command}
use Rattle.kt_history.specs.declared.command.Command.TheVariants as command
use Rattle.kt_history.specs.declared.operation.RowOp.{RowOp}
use Rattle.kt_history.specs.declared.event.Event.{Event}
use Rattle.kt_history.specs.declared.event.Event.TheVariants.{Begin, End, Look, Rows, Ancient, Busy, Mark, Chore, Large, Stop}
use Rattle.kt_history.specs.Rows.{Row, Rows as TableRows, Changes, apply, set_row, changed, key_cmp}
use Rattle.kt_history.specs.Replies.{past_after}
use Rattle.std.specs.Ordering.{eq_by_cmp}
use Rattle.std.specs.FinMap.Entries.{find, is_sorted, is_sorted-put, is_sorted-where_key}
use Rattle.std.proofs.lemmas.Cmp.{nat_list_cmp_total}
use Rattle.kt_judge.specs.Replied.{ShowsPast}
use Rattle.kt_history.specs.History.{Past, PastWrite, replay, rows_at, with_write}
use Rattle.kt_history.specs.Operations.{changes_on}
use Rattle.kt_history.specs.Machine.{Workload, State, Allowed, IsRun, IsRunFrom, command_at, ops_of, start, after, state_after}
use Rattle.kt_history.proofs.Runs.{state_after-append, begins_above, c_rises}
use Rattle.kt_history.proofs.RowLaws.{rows_at-with_write_below, rows_at-with_write_from}
use Rattle.kt_judge.specs.Machine.{write_in, ops_in}
use Rattle.kt_judge.specs.Tables.{Entries, IsTable, IsTableUpTo, IsTableOf, Shows, with_changes}
use Rattle.kt_judge.specs.Grown.{end_of, BeginsLater, Grows}
use Rattle.kt_judge.proofs.Opened.{table_later}
use Rattle.kt_judge.proofs.Shown.{shows_same}
use Rattle.std.specs.Prelude.{nat_le, not, true, false, Bool}
use Rattle.std.proofs.Common.{cond, T}
use Rattle.std.proofs.lemmas.Bool.Decides.{nat_tests}

le_from : (a b : ℕ) → nat_le a b ≡ true → a ≤ b
le_from a b h = grind (arith, nat_tests)

lt_from : (a b : ℕ) → nat_le a b ≡ false → b < a
lt_from a b h = grind (arith, nat_tests)

-- a write shows at each time what its changes make of the rows
write_shows : (past : Past) (ts : ℕ) (changes : Changes) (t : ℕ) → with_changes ts changes (rows_at past) t ≡ rows_at (with_write past ts changes) t
write_shows past ts changes t = elim (nat_le ts t) as (λ b. nat_le ts t ≡ b → with_changes ts changes (rows_at past) t ≡ rows_at (with_write past ts changes) t) [
  | true ↦ λ e. rw e (sym (rows_at-with_write_from past ts changes t (le_from ts t e)))
  | false ↦ λ e. rw e (sym (rows_at-with_write_below past ts changes t (lt_from ts t e)))
] refl

pub ops_same : (o : Option Command) → ops_in (write_in o) ≡ ops_of o
ops_same (Some (command.Write w)) = refl
ops_same (Some (command.Scan scan)) = refl
ops_same (Some (command.Mark t)) = refl
ops_same (Some (command.Chore chore)) = refl
ops_same None = refl

pub grows_begin : (work : Workload) (s i ts m : ℕ) (ops : List RowOp) (old new : Entries) → ops ≡ ops_in (write_in (command_at work s i)) → IsTable new → IsTableUpTo ts new
    → ((rows : ℕ → TableRows) → Shows old rows → Shows new (with_changes ts (changes_on work.fill (rows (ts - 1)) ops) rows)) → Grows work (Begin s i ts m) old new
grows_begin work s i ts m ops old new is table up step st allowed was =
    let changes : Changes = changes_on work.fill (rows_at st.past (ts - 1)) (ops_of (command_at work s i)) in
    let so = subst (λ (os : List RowOp). Shows new (with_changes ts (changes_on work.fill (rows_at st.past (ts - 1)) os) (rows_at st.past))) (is ∙ ops_same (command_at work s i)) (step (rows_at st.past) was.shows) in
    record { table = table; up_to = up; shows = shows_same new (with_changes ts changes (rows_at st.past)) (rows_at (with_write st.past ts changes)) (write_shows st.past ts changes) so }

stays : (c d : ℕ) (rows : ℕ → TableRows) (es : Entries) → c ≤ d → IsTableOf c rows es → IsTableOf d rows es
stays c d rows es le was = record { table = was.table; up_to = table_later c d es le was.up_to; shows = was.shows }

-- no other line changes rows
abbrev pub IsOther : Event → Type 0
IsOther (Begin s i ts m) = ⊥
IsOther _ = Unit {0}

pub grows_other : (work : Workload) (e : Event) (es : Entries) → IsOther e → Grows work e es es
grows_other work (Begin s i ts m) es other st allowed was = absurd other
grows_other work (End s i ts) es other st allowed was = was
grows_other work (Look s i t m) es other st allowed was = stays st.c t (rows_at st.past) es (c_rises work st (Look s i t m) allowed) was
grows_other work (Rows s i t) es other st allowed was = stays st.c (max st.c t) (rows_at st.past) es (omega arith) was
grows_other work (Ancient s i t a) es other st allowed was = was
grows_other work (Busy s i t f) es other st allowed was = was
grows_other work (Mark s i a) es other st allowed was = was
grows_other work (Chore s i) es other st allowed was = was
grows_other work (Large s i n) es other st allowed was = was
grows_other work Stop es other st allowed was = was

pub is_other : (e : Event) → ((s i ts m : ℕ) → e ≡ Begin s i ts m → ⊥) → IsOther e
is_other (Begin s i ts m) not = not s i ts m refl
is_other (End s i ts) not = tt
is_other (Look s i t m) not = tt
is_other (Rows s i t) not = tt
is_other (Ancient s i t a) not = tt
is_other (Busy s i t f) not = tt
is_other (Mark s i a) not = tt
is_other (Chore s i) not = tt
is_other (Large s i n) not = tt
is_other Stop not = tt

-- ---- the lines of a run

allowed_from : (work : Workload) (st : State) (events : List Event) (k : ℕ) (d : Event) → IsRunFrom work st events → k < length events → Allowed work (state_after work st (take k events)) (get_or events k d)
allowed_from work st [] k d run below = absurd (omega arith)
allowed_from work st (e ∷ events) zero d run below = run.0
allowed_from work st (e ∷ events) (suc k) d run below = allowed_from work (after work st e) events k d run.1 (omega arith)

-- the table of the state after the first lines
abbrev pub IsGrown : Workload → Past → ℕ → List Event → ℕ → Entries → Type 0
IsGrown work past c events k es = IsTableOf (end_of work past c (take k events)).c (rows_at (end_of work past c (take k events)).past) es

later_line : (work : Workload) (st : State) (e : Event) (es : Entries) → Allowed work st e → IsTableUpTo st.c es → BeginsLater e es
later_line work st (Begin s i ts m) es allowed up = let above = begins_above work st s i ts m allowed in (omega arith, table_later st.c ts es (omega arith) up)
later_line work st (End s i ts) es allowed up = tt
later_line work st (Look s i t m) es allowed up = tt
later_line work st (Rows s i t) es allowed up = tt
later_line work st (Ancient s i t a) es allowed up = tt
later_line work st (Busy s i t f) es allowed up = tt
later_line work st (Mark s i a) es allowed up = tt
later_line work st (Chore s i) es allowed up = tt
later_line work st (Large s i n) es allowed up = tt
later_line work st Stop es allowed up = tt

pub next_line_later : (work : Workload) (past : Past) (c : ℕ) (events : List Event) (k : ℕ) (d : Event) (es : Entries) → IsRun work past c events → IsGrown work past c events k es → k < length events → BeginsLater (get_or events k d) es
next_line_later work past c events k d es run grown below =
    later_line work (end_of work past c (take k events)) (get_or events k d) es (allowed_from work (start work past c) events k d run below) grown.up_to

pub grown_more : (work : Workload) (past : Past) (c : ℕ) (events : List Event) (k : ℕ) (d : Event) (es new : Entries) → IsRun work past c events → IsGrown work past c events k es → k < length events → Grows work (get_or events k d) es new → IsGrown work past c events (k + 1) new
grown_more work past c events k d es new run grown below grows =
    let st : State = end_of work past c (take k events) in
    let e : Event = get_or events k d in
    let more : after work st e ≡ end_of work past c (take (k + 1) events) =
    sym (state_after-append work (start work past c) (take k events) (e ∷ [])) ∙ ap (state_after work (start work past c)) (sym (take_more events k d below)) in
    subst (λ (x : State). IsTableOf x.c (rows_at x.past) new) more (grows st (allowed_from work (start work past c) events k d run below) grown)

pub grown_all : (work : Workload) (past : Past) (c : ℕ) (events : List Event) (k : ℕ) (es : Entries) → IsGrown work past c events k es → length events ≤ k → IsTableOf (end_of work past c events).c (rows_at (end_of work past c events).past) es
grown_all work past c events k es grown all = subst (λ (es' : List Event). IsTableOf (end_of work past c es').c (rows_at (end_of work past c es').past) es) (take_all k events all) grown

-- ---- the rows at the end of a run

base_stays : (work : Workload) (st : State) (e : Event) → (after work st e).past.base ≡ st.past.base
base_stays work st (Begin s i ts m) = with_write_base st.past ts (changes_on work.fill (rows_at st.past (ts - 1)) (ops_of (command_at work s i)))
  where
    with_write_base : (past : Past) (ts : ℕ) (changes : Changes) → (with_write past ts changes).base ≡ past.base
    with_write_base past ts [] = refl
    with_write_base past ts (c ∷ changes) = refl
base_stays work st (End s i ts) = refl
base_stays work st (Look s i t m) = refl
base_stays work st (Rows s i t) = refl
base_stays work st (Ancient s i t a) = refl
base_stays work st (Busy s i t f) = refl
base_stays work st (Mark s i a) = refl
base_stays work st (Chore s i) = refl
base_stays work st (Large s i n) = refl
base_stays work st Stop = refl

base_stays_all : (work : Workload) (st : State) (events : List Event) → (state_after work st events).past.base ≡ st.past.base
base_stays_all work st [] = refl
base_stays_all work st (e ∷ events) = base_stays_all work (after work st e) events ∙ base_stays work st e

as_T : (b : Bool) → b ≡ true → T b
as_T b h = subst T (sym h) tt

from_T : (b : Bool) → T b → b ≡ true
from_T true h = refl
from_T false h = absurd h

sorted-set_row : (k : List ℕ) (o : Option Row) (rows : TableRows) → T (is_sorted key_cmp rows) → T (is_sorted key_cmp (set_row k o rows))
sorted-set_row k None rows h = is_sorted-where_key key_cmp (λ other. not (eq_by_cmp key_cmp k other)) rows h
sorted-set_row k (Some row) rows h = is_sorted-put key_cmp nat_list_cmp_total k row rows h

sorted-changed : (changes : Changes) (rows : TableRows) → T (is_sorted key_cmp rows) → T (is_sorted key_cmp (changed changes rows))
sorted-changed [] rows h = h
sorted-changed (c ∷ changes) rows h = sorted-changed changes _ (sorted-set_row c.0 (apply c.1 (find key_cmp c.0 rows)) rows h)

sorted-replay : (t : ℕ) (ws : List PastWrite) (rows : TableRows) → T (is_sorted key_cmp rows) → T (is_sorted key_cmp (replay t ws rows))
sorted-replay t [] rows h = h
sorted-replay t (w ∷ ws) rows h = sorted-replay t ws _ (elim (nat_le w.ts t) as (λ b. T (is_sorted key_cmp (cond b (changed w.changes rows) rows))) [ true ↦ sorted-changed w.changes rows h | false ↦ h ])

-- the table of a run has the rows of its past at each time, by rising key
pub shows_past : (work : Workload) (past : Past) (c : ℕ) (events : List Event) (es : Entries) → is_sorted key_cmp past.base ≡ true → IsTableOf (end_of work past c events).c (rows_at (end_of work past c events).past) es → ShowsPast es (past_after work past c events)
shows_past work past c events es sorted table t =
    let whole : Past = past_after work past c events in
    let base = subst (λ (rows : TableRows). T (is_sorted key_cmp rows)) (sym (base_stays_all work (start work past c) events)) (as_T _ sorted) in
    (from_T _ (sorted-replay t whole.writes whole.base base), λ key. table.shows key t)
