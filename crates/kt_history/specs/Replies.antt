-- The reply to each command, read off the line of the history that answered it.
use Rattle.std.specs.Prelude.{◌≡◌, ℕ, ◌+◌, ◌-◌, Bool, true, false, not, ◌&&◌, ◌==◌, List, [], ◌∷◌, ◌++◌, map, Option, Some, None, unwrap_or, if◌then◌else◌}
use Rattle.std.specs.List.{filter, list_all, find}
use Rattle.std.specs.declared.cmp.Ordering.{Ordering}
use Rattle.std.specs.Ordering.{nat_cmp, int_cmp, bool_cmp, is_eq, is_lt, is_le, is_gt, is_ge, is_some_and}
use Rattle.std.specs.Cmp.Lexicographic.{slice_cmp}
use Rattle.std.specs.FinMap.Entries as entries
use Rattle.std.specs.List.{zip}
use Rattle.kt_base.specs.declared.cell.Kind.{Kind}
use Rattle.kt_base.specs.declared.cell.Kind.TheVariants.{Int64}
use Rattle.kt_base.specs.declared.cell.Cell.{Cell}
use Rattle.kt_base.specs.declared.cell.Cell.TheVariants as cell
use Rattle.kt_base.specs.Keys.{key_cells}
use Rattle.kt_history.specs.declared.command.Command.{Command}
use Rattle.kt_history.specs.declared.command.Command.TheVariants as command
use Rattle.kt_history.specs.declared.scan.Scan.{Scan}
use Rattle.kt_history.specs.declared.scan.Pred.{Pred}
use Rattle.kt_history.specs.declared.scan.Test.{Test}
use Rattle.kt_history.specs.declared.scan.Test.TheVariants as test
use Rattle.kt_history.specs.declared.event.Event.{Event}
use Rattle.kt_history.specs.declared.event.Event.TheVariants as event
use Rattle.kt_history.specs.declared.reply.Reply.{Reply}
use Rattle.kt_history.specs.declared.reply.Reply.TheVariants as reply
use Rattle.kt_history.specs.Rows.{Row, Rows}
use Rattle.kt_history.specs.History.{Past, rows_at}
use Rattle.kt_history.specs.Operations.{outcomes_on}
use Rattle.kt_history.specs.Machine.{Workload, State, command_at, ops_of, start, after, state_after, IsRun}

-- how two cells of one kind compare. Null compares with nothing
abbrev pub cell_cmp : Cell → Cell → Option Ordering
cell_cmp (cell.Int m) (cell.Int n) = Some (int_cmp m n)
cell_cmp (cell.Bool a) (cell.Bool b) = Some (bool_cmp a b)
cell_cmp (cell.Bytes xs) (cell.Bytes ys) = Some (slice_cmp nat_cmp xs ys)
cell_cmp _ _ = None

abbrev pub is_null : Cell → Bool
is_null cell.Null = true
is_null _ = false

abbrev pub passes : Test → Cell → Bool
passes (test.Eq wanted) c = is_some_and is_eq (cell_cmp c wanted)
passes (test.Lt wanted) c = is_some_and is_lt (cell_cmp c wanted)
passes (test.Le wanted) c = is_some_and is_le (cell_cmp c wanted)
passes (test.Gt wanted) c = is_some_and is_gt (cell_cmp c wanted)
passes (test.Ge wanted) c = is_some_and is_ge (cell_cmp c wanted)
passes test.IsNull c = is_null c
passes test.NotNull c = not (is_null c)

-- every cell of a row by its column, the key's first
abbrev pub whole_row : List (ℕ × Kind) → List ℕ × Row → Row
whole_row keys row = zip (map (λ k. k.0) keys) (key_cells (map (λ k. k.1) keys) row.0) ++ row.1

-- the cell of a column, and null where there is none
abbrev pub cell_of : Row → ℕ → Cell
cell_of row column = unwrap_or (entries.find nat_cmp column row) cell.Null

abbrev pub kept : List Pred → Row → Bool
kept preds row = list_all (λ p. passes p.test (cell_of row p.column)) preds

abbrev pub selected : Option (List ℕ) → Row → List Cell
selected None row = map (λ c. c.1) row
selected (Some columns) row = map (cell_of row) columns

-- what a scan shows of these rows
abbrev pub shown : List (ℕ × Kind) → Scan → Rows → List (List Cell)
shown keys scan rows = map (selected scan.columns) (filter (kept scan.preds) (map (whole_row keys) rows))

abbrev pub shown_by : List (ℕ × Kind) → Option Command → Rows → List (List Cell)
shown_by keys (Some (command.Scan scan)) rows = shown keys scan rows
shown_by keys _ rows = []

-- the reply that a line gives to the command it answers; past has all writes of the run
abbrev pub reply_of : Workload → Past → Event → Option Reply
reply_of work past (event.End s i ts) = Some (reply.At ts (outcomes_on work.fill (rows_at past (ts - 1)) (ops_of (command_at work s i))))
reply_of work past (event.Rows s i t) = Some (reply.Rows t (shown_by work.keys (command_at work s i) (rows_at past t)))
reply_of work past (event.Ancient s i t a) = Some (reply.Ancient t a)
reply_of work past (event.Busy s i t f) = Some (reply.Busy t f)
reply_of work past (event.Mark s i a) = Some (reply.Ahm a)
reply_of work past (event.Chore s i) = Some reply.Done
reply_of work past (event.Large s i n) = Some (reply.Large n)
reply_of work past _ = None

-- whether the line answers command i of session s
abbrev pub is_of : ℕ → ℕ → ℕ → ℕ → Bool
is_of s i s' i' = (s == s') && (i == i')

abbrev pub answers : ℕ → ℕ → Event → Bool
answers s i (event.End s' i' ts) = is_of s i s' i'
answers s i (event.Rows s' i' t) = is_of s i s' i'
answers s i (event.Ancient s' i' t a) = is_of s i s' i'
answers s i (event.Busy s' i' t f) = is_of s i s' i'
answers s i (event.Mark s' i' a) = is_of s i s' i'
answers s i (event.Chore s' i') = is_of s i s' i'
answers s i (event.Large s' i' n) = is_of s i s' i'
answers s i _ = false

abbrev pub reply_at : Workload → Past → Option Event → Option Reply
reply_at work past None = None
reply_at work past (Some e) = reply_of work past e

-- the reply to command i of session s in this history, or none where no line answered it
abbrev pub answer : Workload → Past → List Event → ℕ → ℕ → Option Reply
answer work past events s i = reply_at work past (find (answers s i) events)

-- the opening past with the writes of all lines
abbrev pub past_after : Workload → Past → ℕ → List Event → Past
past_after work past c events = (state_after work (start work past c) events).past

-- the same reply, against the writes up to the line that answered
abbrev pub told : Workload → State → List Event → ℕ → ℕ → Option Reply
told work st [] s i = None
told work st (e ∷ events) s i = if answers s i e then reply_of work st.past e else told work (after work st e) events s i

-- in a run, an answer against all writes of the run is the one against the writes up to its line
abbrev pub answers_stay : Type 0
answers_stay = (work : Workload) (past : Past) (c : ℕ) (events : List Event) (s i : ℕ) → IsRun work past c events → answer work (past_after work past c events) events s i ≡ told work (start work past c) events s i

-- the reply to each command from the i-th on, and stopped where no line answered
abbrev pub replies_to : (ℕ → Option Reply) → ℕ → List Command → List Reply
replies_to f i [] = []
replies_to f i (c ∷ commands) = unwrap_or (f i) reply.Stopped ∷ replies_to f (i + 1) commands

-- the same for each session from the s-th on
abbrev pub all_replies : (ℕ → ℕ → Option Reply) → ℕ → List (List Command) → List (List Reply)
all_replies f s [] = []
all_replies f s (commands ∷ plan) = replies_to (f s) 1 commands ∷ all_replies f (s + 1) plan

-- the kinds of the columns that a scan shows
abbrev pub kinds_of : Workload → Option (List ℕ) → List Kind
kinds_of work None = map (λ k. k.1) (work.keys ++ work.others)
kinds_of work (Some columns) = map (λ id. unwrap_or (entries.find nat_cmp id (work.keys ++ work.others)) Int64) columns
