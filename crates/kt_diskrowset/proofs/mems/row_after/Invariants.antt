use Rattle.std.proofs.Common.{◌≡◌, drop}
use Rattle.kt_history.specs.Stores.{after_steps}
use Rattle.kt_diskrowset.specs.Mems.{steps_in_mems}
use Rattle.kt_diskrowset.proofs.mems.row_after.Given as goal

abbrev pub invariant-mems : goal.invariant-mems
invariant-mems l = after_steps l.t (steps_in_mems l.pool l.ordinal (drop l.mem-index l.mems)) l.row ≡ after_steps l.t (steps_in_mems l.pool l.ordinal l.mems) l.fn.before
