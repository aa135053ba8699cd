use Rattle.std.proofs.Common.{◌≡◌, ◌*◌, take}
use Rattle.std.specs.List.{flat_map}
use Rattle.kt_plain.specs.declared.widths.NumberWidth.TheVariants.{Two}
use Rattle.kt_plain.specs.Widths.{number}
use Rattle.kt_plain.proofs.encoding.write_two.Given as goal

abbrev pub invariant-items : goal.invariant-items
invariant-items l = take (2 * l.i) l.out ≡ flat_map (number Two) (take l.i l.values)
