use Rattle.std.proofs.Common.{take}
use Rattle.kt_engine.proofs.ToDo.{AreThere}
use Rattle.kt_engine.proofs.job.lacks_one.Given as goal

abbrev pub invariant-taken : goal.invariant-taken
invariant-taken g l = AreThere (take l.rowset-index l.taken) l.tablet.names
