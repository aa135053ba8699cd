-- The summary of a load: its sessions done one after another on some rows.
use Rattle.std.specs.Prelude.{◌≡◌, ◌≤◌, ℕ, ◌+◌, ℤ, pos, ◌+ℤ◌, true, is_some, List, [], ◌∷◌, ◌++◌, length, Some, codes}
use Rattle.std.specs.Fmt.{decimal, signed_decimal}
use Rattle.kt_base.specs.declared.cell.Cell.{Cell}
use Rattle.kt_base.specs.declared.cell.Cell.TheVariants as cell
use Rattle.kt_schema.specs.Columns.{fill_of}
use Rattle.kt_history.specs.declared.change.Outcome.{Outcome}
use Rattle.kt_history.specs.declared.change.Outcome.TheVariants.{Done, Present, Absent, Ignored}
use Rattle.kt_history.specs.declared.command.Command.{Command}
use Rattle.kt_history.specs.declared.operation.RowOp.{RowOp}
use Rattle.kt_history.specs.declared.event.Event.{Event}
use Rattle.kt_history.specs.declared.reply.Reply.{Reply}
use Rattle.kt_history.specs.declared.reply.Reply.TheVariants as reply
use Rattle.kt_history.specs.Rows.{Row, Rows, changed}
use Rattle.kt_history.specs.History.{Past, IsPastUpTo, rows_at}
use Rattle.kt_history.specs.Operations.{outcomes_on, changes_on}
use Rattle.kt_history.specs.Machine.{Workload, command_at, ops_of, start, state_after, IsRun}
use Rattle.kt_history.specs.Replies.{cell_of, answer, past_after, all_replies}
use Rattle.kt_script.specs.Loads.{load_columns, load_plan}
use Rattle.kt_script.specs.Scripts.{workload}
use Rattle.kt_script.specs.Texts.{line, words}

-- how many operations were done, found their key present, and found it absent
pub record Counts : Type 0 where
  pub ok : ℕ
  pub present : ℕ
  pub absent : ℕ

abbrev pub none_counted : Counts
none_counted = record { ok = 0; present = 0; absent = 0 }

-- with one outcome more. None of a load is ignored
abbrev pub counted : Counts → Outcome → Counts
counted n Done = record n { ok = n.ok + 1 }
counted n Present = record n { present = n.present + 1 }
counted n Absent = record n { absent = n.absent + 1 }
counted n Ignored = n

abbrev pub all_counted : Counts → List Outcome → Counts
all_counted n [] = n
all_counted n (o ∷ outcomes) = all_counted (counted n o) outcomes

-- the rows so far, and the outcomes so far
pub record Folded : Type 0 where
  pub rows : Rows
  pub counts : Counts

-- operations done at once
abbrev pub ops_on : Row → Folded → List RowOp → Folded
ops_on fill f ops = record { rows = changed (changes_on fill f.rows ops) f.rows; counts = all_counted f.counts (outcomes_on fill f.rows ops) }

-- a command done: one that is no write has no operations
abbrev pub command_on : Row → Folded → Command → Folded
command_on fill f c = ops_on fill f (ops_of (Some c))

abbrev pub commands_on : Row → Folded → List Command → Folded
commands_on fill f [] = f
commands_on fill f (c ∷ commands) = commands_on fill (command_on fill f c) commands

-- sessions done one after another
abbrev pub sessions_on : Row → Folded → List (List Command) → Folded
sessions_on fill f [] = f
sessions_on fill f (commands ∷ plan) = sessions_on fill (commands_on fill f commands) plan

-- a load of n writes a session on these rows
abbrev pub summary : ℕ → Rows → Folded
summary n rows = sessions_on (fill_of load_columns) (record { rows = rows; counts = none_counted }) (load_plan n)

-- the number of a cell, and 0 where it has none
abbrev pub number_of : Cell → ℤ
number_of (cell.Int v) = v
number_of _ = pos 0

-- the sum of the numbers in column 2 of all rows
abbrev pub sum_of : Rows → ℤ
sum_of [] = pos 0
sum_of (row ∷ rows) = number_of (cell_of row.1 2) +ℤ sum_of rows

-- a line of a summary
abbrev pub summary_line : List ℕ → List ℕ → List ℕ
summary_line word number = line (words (word ∷ number ∷ []))

-- what is printed of a load
abbrev pub summary_text : ℕ → Folded → List ℕ
summary_text n f = summary_line (codes "load") (decimal n)
    ++ (summary_line (codes "ok") (decimal f.counts.ok)
    ++ (summary_line (codes "present") (decimal f.counts.present)
    ++ (summary_line (codes "absent") (decimal f.counts.absent)
    ++ (summary_line (codes "rows") (decimal (length f.rows))
    ++ summary_line (codes "sum") (signed_decimal (sum_of f.rows))))))

-- the run of a load over a pool of so many cells
abbrev pub load_work : ℕ → ℕ → Workload
load_work cells n = workload cells (record { columns = load_columns; plan = load_plan n })

-- a line answers each command
abbrev pub AllAnswered : Workload → Past → ℕ → List Event → Type 0
AllAnswered work past c events = (s i : ℕ) → is_some (command_at work s i) ≡ true → is_some (answer work (past_after work past c events) events s i) ≡ true

-- the outcomes of replies
abbrev pub replied : Counts → Reply → Counts
replied n (reply.At ts outcomes) = all_counted n outcomes
replied n _ = n

abbrev pub all_replied : Counts → List Reply → Counts
all_replied n [] = n
all_replied n (r ∷ replies) = all_replied (replied n r) replies

abbrev pub sessions_replied : Counts → List (List Reply) → Counts
sessions_replied n [] = n
sessions_replied n (replies ∷ sessions) = sessions_replied (all_replied n replies) sessions

abbrev pub counts_in : List (List Reply) → Counts
counts_in sessions = sessions_replied none_counted sessions

-- however its sessions run beside each other, a load of which all is answered ends with the rows of its summary, and its replies have the
-- outcomes of its summary: they write different keys. 1,024 cells are enough for each of its writes
abbrev pub a_load_has_one_summary : Type 0
a_load_has_one_summary = (n cells : ℕ) (past : Past) (c : ℕ) (events : List Event) → 1024 ≤ cells → IsPastUpTo c past → IsRun (load_work cells n) past c events → AllAnswered (load_work cells n) past c events
    → (rows_at (past_after (load_work cells n) past c events) (state_after (load_work cells n) (start (load_work cells n) past c) events).c ≡ (summary n (rows_at past c)).rows)
    × (counts_in (all_replies (answer (load_work cells n) (past_after (load_work cells n) past c events) events) 1 (load_plan n)) ≡ (summary n (rows_at past c)).counts)
