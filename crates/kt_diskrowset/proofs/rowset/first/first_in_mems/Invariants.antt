use Rattle.std.proofs.Common.{◌≡◌, take}
use Rattle.kt_diskrowset.specs.First.{first_above}
use Rattle.kt_diskrowset.specs.Mems.{steps_in_mems}
use Rattle.kt_diskrowset.proofs.rowset.first.first_in_mems.Given as goal

abbrev pub invariant-mems : goal.invariant-mems
invariant-mems l = l.found ≡ first_above l.above (steps_in_mems l.pool l.ordinal (take l.mem-index l.mems))
