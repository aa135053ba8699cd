use Rattle.std.proofs.Common.{◌≡◌, true, take}
use Rattle.std.specs.List.{All}
use Rattle.kt_policy.specs.Gain.{is_known}
use Rattle.kt_policy.proofs.checking.are_known.Given as goal

abbrev pub invariant-loop-id : goal.invariant-loop-id
invariant-loop-id l = All (λ id. is_known l.list id ≡ true) (take l.id-index l.set)
