use Rattle.std.proofs.Common.{drop}
use Rattle.kt_joblaws.specs.Apart.{AreInTime}
use Rattle.kt_engine.proofs.filled.are_in_time.Given as goal

abbrev pub invariant-changes : goal.invariant-changes
invariant-changes l = AreInTime (drop l.at l.changes) → AreInTime l.changes
