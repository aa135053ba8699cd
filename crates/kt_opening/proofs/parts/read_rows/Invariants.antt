use Rattle.std.proofs.Common.{ℕ, ◌≤◌, length}
use Rattle.kt_opening.specs.OpeningTexts.{rows_due, no_rows}
use Rattle.kt_opening.specs.Reading.{with_rows, Leads}
use Rattle.kt_opening.proofs.parts.read_rows.Given as goal

-- the rows so far are read
abbrev pub invariant-loop-left : goal.invariant-loop-left
invariant-loop-left l = (l.at ≤ length l.text) × ((a c : ℕ) → Leads l.schema l.text (rows_due c (no_rows a) l.due) l.start (rows_due c (with_rows a l.rows.items) l.left) l.at)

abbrev pub decreases-loop-left : goal.decreases-loop-left
decreases-loop-left l = l.left
