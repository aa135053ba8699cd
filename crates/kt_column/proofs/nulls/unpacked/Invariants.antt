use Rattle.std.proofs.Common.{◌≡◌, ◌+◌, ◌++◌, length, drop}
use Rattle.kt_column.specs.Nulls.{bits_in}
use Rattle.kt_column.proofs.nulls.unpacked.Given as goal

abbrev pub invariant-bytes : goal.invariant-bytes
invariant-bytes l = record {
  bits : l.nulls ++ bits_in l.left (drop l.byte-index l.bytes) ≡ bits_in l.n l.bytes;
  len : length l.nulls + l.left ≡ l.n;
}
