use Rattle.std.proofs.Common.{◌≡◌, ◌++◌, drop}
use Rattle.std.specs.List.{flat_map}
use Rattle.kt_script.specs.Texts.{spaced, literals}
use Rattle.kt_script.proofs.print.print_literals.Given as goal

abbrev pub invariant-loop-cell : goal.invariant-loop-cell
invariant-loop-cell l = l.out ++ flat_map spaced (literals l.left (drop l.cell-index l.cells)) ≡ l.fn.out ++ flat_map spaced (literals l.kinds l.cells)
