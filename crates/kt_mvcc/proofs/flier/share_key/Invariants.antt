use Rattle.std.proofs.Common.{◌≡◌, false, take}
use Rattle.std.specs.List.{list_any}
use Rattle.kt_mvcc.specs.Keys.{same_key}
use Rattle.kt_mvcc.proofs.flier.share_key.Given as goal

abbrev pub invariant-keys : goal.invariant-keys
invariant-keys l = list_any (λ key. list_any (λ other. same_key key other) l.held) (take l.at l.keys) ≡ false
