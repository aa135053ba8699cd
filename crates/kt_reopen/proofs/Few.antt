-- The COMMITs of a log name two stores at most.
use Rattle.std.proofs.Common.{◌≡◌, ◌≤◌, ℕ, List, [], ◌∷◌, ◌++◌, length, Some, true, false, cond, arith}
use Rattle.std.specs.Prelude.{◌==◌}
use Rattle.std.specs.List.{AllByRecursion}
use Rattle.std.proofs.lemmas.Bool.Decides.{nat_tests}
use Rattle.kt_cells.specs.Rules.{EachAfter}
use Rattle.kt_history.specs.declared.change.Outcome.{Outcome}
use Rattle.kt_history.specs.declared.change.Outcome.TheVariants.{Done, Present, Absent, Ignored}
use Rattle.kt_records.specs.declared.entry.CommitRow.{CommitRow}
use Rattle.kt_records.specs.declared.entry.Entry.{Entry}
use Rattle.kt_records.specs.declared.entry.Entry.TheVariants.{Replicate, Commit}
use Rattle.kt_records.specs.Rules.{may_change, RowFits}
use Rattle.kt_journal.specs.Order.{InOrder}
use Rattle.kt_loglaws.specs.Replay.{commit_of}
use Rattle.kt_reopen.specs.Needed.{AreFew}

two_at_most : (outcome : Outcome) (n : ℕ) → may_change outcome n ≡ true → n ≤ 2
two_at_most Done n h = grind (arith, nat_tests)
two_at_most Present n h = grind (arith, nat_tests)
two_at_most Absent n h = grind (arith, nat_tests)
two_at_most Ignored n h = grind (arith, nat_tests)

rows_few : (front rows : List CommitRow) → EachAfter (λ front row. RowFits row) front rows → AllByRecursion (λ (row : CommitRow). length row.targets ≤ 2) rows
rows_few front [] h = tt
rows_few front (row ∷ rows) h = (two_at_most row.outcome (length row.targets) h.0.count, rows_few (front ++ row ∷ []) rows h.1)

pub few_in_log : (ts : ℕ) (before records : List Entry) → InOrder before records → AreFew (commit_of ts records)
few_in_log ts before [] h = tt
few_in_log ts before (Replicate t ops ∷ records) h = few_in_log ts (Replicate t ops ∷ before) records h.2
few_in_log ts before (Commit t rows ∷ records) h = elim (t == ts) as (λ b. AreFew (cond b (Some rows) (commit_of ts records))) [
  | true ↦ rows_few [] rows h.0.keeps.rows
  | false ↦ few_in_log ts (Commit t rows ∷ before) records h.2
]
