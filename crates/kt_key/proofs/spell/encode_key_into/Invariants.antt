use Rattle.std.proofs.Common.{◌≡◌, ◌++◌, length, take, drop}
use Rattle.kt_key.specs.Spelling.{spelling}
use Rattle.kt_key.proofs.spell.encode_key_into.Given as goal

abbrev pub invariant-loop-at : goal.invariant-loop-at
invariant-loop-at l = (length l.cells ≡ length l.kinds) × (l.out ++ spelling (drop l.at l.kinds) (drop l.at l.cells) ≡ l.initial.out ++ spelling l.kinds l.cells) × (take (length l.initial.out) l.out ≡ l.initial.out)
