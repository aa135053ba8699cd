use Rattle.std.proofs.Common.{◌≡◌, ◌+◌, ◌-◌, ◌++◌, length}
use Rattle.kt_column.specs.Nulls.{bits_of}
use Rattle.kt_column.proofs.nulls.push_bits.Given as goal

abbrev pub invariant-bits : goal.invariant-bits
invariant-bits l = record {
  bits : l.nulls ++ bits_of (l.n - l.i) l.left ≡ l.initial.nulls ++ bits_of l.n l.byte;
  len : length l.nulls ≡ length l.initial.nulls + l.i;
}
