use Rattle.std.proofs.Common.{◌≡◌, length}
use Rattle.kt_disk.specs.Fault.{is_listed_call}
use Rattle.kt_disk.proofs.fault.lists_call.Given as goal

abbrev pub invariant-fails : goal.invariant-fails
invariant-fails l = is_listed_call l.rest l.number ≡ is_listed_call l.fails l.number

abbrev pub decreases-fails : goal.decreases-fails
decreases-fails l = length l.rest
