use Rattle.std.proofs.Common.{◌≡◌, take}
use Rattle.std.specs.List.{flat_map}
use Rattle.kt_plain.specs.declared.widths.NumberWidth.TheVariants.{Bit}
use Rattle.kt_plain.specs.Widths.{number}
use Rattle.kt_plain.proofs.encoding.write_bits.Given as goal

abbrev pub invariant-items : goal.invariant-items
invariant-items l = take l.i l.out ≡ flat_map (number Bit) (take l.i l.values)
