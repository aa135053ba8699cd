use Rattle.std.proofs.Common.{◌≡◌, false, take}
use Rattle.kt_records.specs.Rules.{has_key}
use Rattle.kt_records.proofs.front.is_taken.Given as goal

abbrev pub invariant-ops : goal.invariant-ops
invariant-ops l = has_key (take l.at l.ops) l.key ≡ false
