use Rattle.std.proofs.Common.{◌≡◌, ◌+◌, drop}
use Rattle.kt_front.specs.Spelling.{shared}
use Rattle.kt_front.proofs.prefix.common_prefix.Given as goal

abbrev pub invariant-loop-i : goal.invariant-loop-i
invariant-loop-i l = shared l.a l.b ≡ l.i + shared (drop l.i l.a) (drop l.i l.b)
