use Rattle.std.proofs.Common.{◌≡◌, take}
use Rattle.std.specs.List.{flat_map}
use Rattle.kt_plain.specs.declared.widths.NumberWidth.TheVariants.{One}
use Rattle.kt_plain.specs.Widths.{number}
use Rattle.kt_plain.proofs.encoding.write_one.Given as goal

abbrev pub invariant-items : goal.invariant-items
invariant-items l = take l.i l.out ≡ flat_map (number One) (take l.i l.values)
