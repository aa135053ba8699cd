use Rattle.std.proofs.Common.{◌≡◌, false, take}
use Rattle.kt_history.specs.Operations.{share_key}
use Rattle.kt_judge.proofs.follow.share_key.Given as goal

abbrev pub invariant-ops : goal.invariant-ops
invariant-ops l = share_key (take l.at l.ops) l.others ≡ false
