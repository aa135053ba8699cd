use Rattle.std.proofs.Common.{◌≡◌, ◌++◌, take}
use Rattle.kt_script.specs.Texts.{words, literals}
use Rattle.kt_script.proofs.output.print_row.Given as goal

abbrev pub invariant-cells : goal.invariant-cells
invariant-cells l = l.out ≡ l.fn.out ++ words (literals l.kinds (take l.at l.row))
