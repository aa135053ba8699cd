use Rattle.std.proofs.Common.{◌≡◌, ◌-◌, ◌^◌, ◌+◌, min, length, drop}
use Rattle.kt_key.specs.Spelling.{spelling}
use Rattle.kt_key.proofs.length.key_len.Given as goal

abbrev pub invariant-loop-at : goal.invariant-loop-at
invariant-loop-at l = (length l.cells ≡ length l.kinds) × (min (l.total + length (spelling (drop l.at l.kinds) (drop l.at l.cells))) (2 ^ 64 - 1) ≡ min (length (spelling l.kinds l.cells)) (2 ^ 64 - 1))
