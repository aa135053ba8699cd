use Rattle.std.proofs.Common.{◌≡◌, ◌++◌, take}
use Rattle.std.specs.List.{flat_map}
use Rattle.kt_lookup.specs.Tail.{joined, key_fields}
use Rattle.kt_lookup.proofs.tails.put_keys.Given as goal

abbrev pub invariant-loop-i : goal.invariant-loop-i
invariant-loop-i l = l.out ≡ l.initial.out ++ joined (flat_map key_fields (take l.i l.index))
