use Rattle.std.proofs.Common.{◌≡◌, ◌++◌, ◌∷◌, length}
use Rattle.std.specs.List.{flat_map}
use Rattle.kt_base.specs.Literals.{string_byte}
use Rattle.kt_base.proofs.literal.print_string.Given as goal

-- what is printed, and the rest's spelling, are the whole
abbrev pub invariant-loop-rest : goal.invariant-loop-rest
invariant-loop-rest l = l.out ++ flat_map string_byte l.rest ≡ l.fn.out ++ (34 ∷ flat_map string_byte l.bytes)

abbrev pub decreases-loop-rest : goal.decreases-loop-rest
decreases-loop-rest l = length l.rest
