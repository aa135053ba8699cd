use Rattle.std.proofs.Common.{◌<◌, take}
use Rattle.std.specs.List.{AllPairs}
use Rattle.kt_policy.proofs.checking.is_rising.Given as goal

abbrev pub invariant-loop-k : goal.invariant-loop-k
invariant-loop-k l = record { rises : AllPairs (λ m n. m < n) (take l.k l.set) }
