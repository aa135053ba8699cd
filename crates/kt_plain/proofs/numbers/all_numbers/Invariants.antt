use Rattle.std.proofs.Common.{◌≡◌}
use Rattle.kt_plain.specs.Widths.{values}
use Rattle.kt_plain.proofs.numbers.all_numbers.Given as goal

abbrev pub invariant-numbers : goal.invariant-numbers
invariant-numbers l = l.numbers.items ≡ values l.width l.i l.bytes
