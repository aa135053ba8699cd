use Rattle.std.proofs.Common.{◌≡◌, length}
use Rattle.kt_disk.specs.Fault.{is_listed_change}
use Rattle.kt_disk.proofs.fault.lists_change.Given as goal

abbrev pub invariant-fails : goal.invariant-fails
invariant-fails l = is_listed_change l.rest l.number ≡ is_listed_change l.fails l.number

abbrev pub decreases-fails : goal.decreases-fails
decreases-fails l = length l.rest
