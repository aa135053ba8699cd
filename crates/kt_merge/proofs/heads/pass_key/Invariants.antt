use Rattle.std.proofs.Common.{◌≡◌}
use Rattle.kt_merge.proofs.HeadsTaken.{mixed}
use Rattle.kt_merge.proofs.heads.pass_key.Given as goal

abbrev pub invariant-heads : goal.invariant-heads
invariant-heads l = l.heads.items ≡ mixed l.key l.at l.initial.heads.items
