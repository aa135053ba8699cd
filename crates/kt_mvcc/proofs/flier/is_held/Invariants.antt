use Rattle.std.proofs.Common.{◌≡◌, false, take}
use Rattle.std.specs.List.{list_any}
use Rattle.kt_mvcc.specs.Keys.{same_key}
use Rattle.kt_mvcc.proofs.flier.is_held.Given as goal

abbrev pub invariant-held : goal.invariant-held
invariant-held l = list_any (λ other. same_key l.key other) (take l.at l.held) ≡ false
