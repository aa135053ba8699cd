use Rattle.std.proofs.Common.{◌≡◌, ◌≤◌, None, drop, length}
use Rattle.kt_rowfiles.specs.Files.{records_in}
use Rattle.kt_diskrowset.specs.Alive as alive
use Rattle.kt_diskrowset.specs.Files.{lists_of}
use Rattle.kt_diskrowset.proofs.alive.verdict_of.Given as goal

abbrev pub invariant-files : goal.invariant-files
invariant-files l = record { within : l.at ≤ length l.files; told : l.verdict ≡ alive.verdict_of (records_in l.ordinal (lists_of (drop l.at l.files))) None }

abbrev pub decreases-files : goal.decreases-files
decreases-files l = l.at
