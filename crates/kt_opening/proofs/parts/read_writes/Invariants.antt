use Rattle.std.proofs.Common.{◌≤◌, ◌-◌, length, map}
use Rattle.kt_history.specs.Rows.{Rows}
use Rattle.kt_judge.specs.Openings.{write_of}
use Rattle.kt_opening.specs.Live.{IsLive}
use Rattle.kt_opening.specs.OpeningTexts.{turn, written}
use Rattle.kt_opening.specs.Reading.{with_rows, with_writes, Leads}
use Rattle.kt_opening.proofs.parts.read_writes.Given as goal

-- the writes so far are read, and which keys have rows after them is known
abbrev pub invariant-lines : goal.invariant-lines
invariant-lines l = (l.at ≤ length l.text)
    × ((base : Rows) → IsLive l.fn.live base → Leads l.schema l.text (turn l.c l.a (with_rows l.a base)) l.start (turn l.c l.low (with_writes l.a base (map write_of l.writes.items))) l.at × IsLive l.live (written (map write_of l.writes.items) base))

abbrev pub decreases-lines : goal.decreases-lines
decreases-lines l = length l.text - l.at
