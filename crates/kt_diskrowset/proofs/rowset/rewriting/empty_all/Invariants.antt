use Rattle.std.proofs.Common.{vec_len}
use Rattle.kt_diskrowset.specs.Jobs.{AreEmptied}
use Rattle.kt_diskrowset.proofs.rowset.rewriting.empty_all.Given as goal

abbrev pub invariant-mems : goal.invariant-mems
invariant-mems l = AreEmptied l.initial.mems.items l.mems.items l.initial.pool l.pool

abbrev pub decreases-mems : goal.decreases-mems
decreases-mems l = vec_len l.mems
