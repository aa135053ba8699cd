use Rattle.std.proofs.Common.{◌≡◌, ◌*◌, take}
use Rattle.std.specs.List.{flat_map}
use Rattle.kt_plain.specs.declared.widths.NumberWidth.TheVariants.{Four}
use Rattle.kt_plain.specs.Widths.{number}
use Rattle.kt_plain.proofs.encoding.write_four.Given as goal

abbrev pub invariant-items : goal.invariant-items
invariant-items l = take (4 * l.i) l.out ≡ flat_map (number Four) (take l.i l.values)
