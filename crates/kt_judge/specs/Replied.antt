-- The table of a run against what is printed of it.
use Rattle.std.specs.Prelude.{◌≡◌, ◌<◌, ℕ, zero, suc, Bool, true, List, map, Option, Some, None, is_some}
use Rattle.std.specs.List.{slice_get}
use Rattle.std.specs.FinMap.Entries.{find, is_sorted}
use Rattle.kt_history.specs.declared.change.Outcome.{Outcome}
use Rattle.kt_history.specs.declared.command.Command.{Command}
use Rattle.kt_history.specs.declared.event.Event.{Event}
use Rattle.kt_history.specs.declared.operation.RowOp.{RowOp}
use Rattle.kt_history.specs.Rows.{Rows, key_cmp}
use Rattle.kt_history.specs.History.{Past, rows_at}
use Rattle.kt_history.specs.Operations.{outcome_of}
use Rattle.kt_history.specs.Machine.{Workload}
use Rattle.kt_history.specs.Replies.{reply_at}
use Rattle.kt_script.specs.declared.replies.ReplyLine.{ReplyLine}
use Rattle.kt_judge.specs.Tables.{Entries, keys_in, row_of}
use Rattle.kt_scan.specs.Live.{live_rows}
use Rattle.kt_judge.specs.declared.view.Table.{Table}
use Rattle.kt_judge.specs.Verdicts.{ReplyStands}

-- the table has these rows at t, by rising key
abbrev pub ShowsAt : Entries → ℕ → Rows → Type 0
ShowsAt entries t rows = (is_sorted key_cmp rows ≡ true) × ((key : List ℕ) → row_of entries key t ≡ find key_cmp key rows)

-- the table has the rows of a past at each time
abbrev pub ShowsPast : Entries → Past → Type 0
ShowsPast entries past = (t : ℕ) → ShowsAt entries t (rows_at past t)

-- what becomes of each operation of a write, by the rows at t
abbrev pub outcomes_told : Entries → ℕ → List RowOp → List Outcome
outcomes_told entries t ops = map (λ (op : RowOp). outcome_of op.kind (is_some (row_of entries op.key t))) ops

-- the first number of which a fact does not hold, or that it holds of each
abbrev pub IsFirstNot : (ℕ → Type 0) → Option ℕ → Type 0
IsFirstNot P None = (k : ℕ) → P k
IsFirstNot P (Some n) = ((k : ℕ) → k < n → P k) × (P n → ⊥)

-- a fact of places that count from 0, of places that count from 1
abbrev pub from_one : (ℕ → Type 0) → ℕ → Type 0
from_one P zero = Unit {0}
from_one P (suc k) = P k

-- the rows that are told at t of some tables
abbrev pub told_rows : List Table → ℕ → Rows
told_rows tables t = live_rows (λ (v : Table). keys_in v.entries.items) (λ (v : Table) key u. row_of v.entries.items key u) tables t

-- the reply at a place of a session stands; places count from 0
abbrev pub StandsAt : Workload → Past → Bool → List Command → List Event → List ReplyLine → ℕ → Type 0
StandsAt work whole stopped commands lines replies at = ReplyStands work stopped (slice_get commands at) (reply_at work whole (slice_get lines at)) (slice_get replies at)
