use Rattle.std.proofs.Common.{◌≡◌, ◌++◌, length, map}
use Rattle.kt_column.specs.Nulls.{is_none, null_bytes}
use Rattle.kt_column.proofs.nulls.put_bits.Given as goal

abbrev pub invariant-loop-rest : goal.invariant-loop-rest
invariant-loop-rest l = l.out.items ++ null_bytes (map is_none l.rest) ≡ l.initial.out.items ++ null_bytes (map is_none l.slots)

abbrev pub decreases-loop-rest : goal.decreases-loop-rest
decreases-loop-rest l = length l.rest
