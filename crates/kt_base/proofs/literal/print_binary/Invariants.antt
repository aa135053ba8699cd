use Rattle.std.proofs.Common.{◌≡◌, ◌++◌, take}
use Rattle.std.specs.Prelude.{codes}
use Rattle.std.specs.List.{flat_map}
use Rattle.kt_base.specs.Literals.{hex}
use Rattle.kt_base.proofs.literal.print_binary.Given as goal

abbrev pub invariant-loop-byte : goal.invariant-loop-byte
invariant-loop-byte l = l.out ≡ l.fn.out ++ (codes "x\"" ++ flat_map hex (take l.byte-index l.bytes))
