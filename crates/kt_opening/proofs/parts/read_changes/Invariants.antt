use Rattle.std.proofs.Common.{ℕ, ◌≤◌, [], length}
use Rattle.kt_history.specs.History.{Past}
use Rattle.kt_opening.specs.Live.{IsLive}
use Rattle.kt_opening.specs.OpeningTexts.{changes_due, rows_now}
use Rattle.kt_opening.specs.Reading.{Leads}
use Rattle.kt_opening.proofs.parts.read_changes.Given as goal

-- the changes so far are read
abbrev pub invariant-loop-left : goal.invariant-loop-left
invariant-loop-left l = (l.start ≤ l.at) × (l.at ≤ length l.text)
    × ((c : ℕ) (past : Past) (ts : ℕ) → IsLive l.live (rows_now past) → Leads l.schema l.text (changes_due c past ts [] l.due) l.start (changes_due c past ts l.changes.items l.left) l.at)

abbrev pub decreases-loop-left : goal.decreases-loop-left
decreases-loop-left l = l.left
