use Rattle.std.proofs.Common.{◌≡◌, ◌≤◌, drop, length}
use Rattle.kt_rowfiles.specs.Reading.{steps_in}
use Rattle.kt_diskrowset.specs.Alive as alive
use Rattle.kt_diskrowset.proofs.alive.with_records.Given as goal

abbrev pub invariant-records : goal.invariant-records
invariant-records l = record { within : l.at ≤ length l.records; told : l.verdict ≡ alive.verdict_of (steps_in (drop l.at l.records)) l.fn.behind }

abbrev pub decreases-records : goal.decreases-records
decreases-records l = l.at
