use Rattle.std.proofs.Common.{take}
use Rattle.kt_deltafile.specs.Order.{AreUpTo}
use Rattle.kt_deltafile.proofs.file.newest_of.Given as goal

abbrev pub invariant-records : goal.invariant-records
invariant-records l = AreUpTo l.newest (take l.record-index l.records)
