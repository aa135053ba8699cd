use Rattle.std.proofs.Common.{◌≡◌}
use Rattle.kt_plain.specs.Reading.{ends_in}
use Rattle.kt_plain.proofs.decoding.ends.Given as goal

abbrev pub invariant-ends : goal.invariant-ends
invariant-ends l = l.ends.items ≡ ends_in l.i l.bytes
