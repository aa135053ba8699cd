use Rattle.std.proofs.Common.{◌≡◌, false, take}
use Rattle.std.specs.List.{list_any}
use Rattle.std.specs.Ordering.{eq_by_cmp}
use Rattle.kt_history.specs.Rows.{key_cmp}
use Rattle.kt_judge.proofs.follow.has_key.Given as goal

abbrev pub invariant-ops : goal.invariant-ops
invariant-ops l = list_any (λ other. eq_by_cmp key_cmp l.key other.key) (take l.at l.ops) ≡ false
