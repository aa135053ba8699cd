use Rattle.std.proofs.Common.{◌≡◌, ◌++◌, drop}
use Rattle.std.specs.List.{flat_map}
use Rattle.kt_cells.specs.Borrowed.{cells_in_ref}
use Rattle.kt_script.specs.Texts.{spaced}
use Rattle.kt_script.specs.Print.{cell_words}
use Rattle.kt_script.proofs.print.print_cells.Given as goal

abbrev pub invariant-loop-column : goal.invariant-loop-column
invariant-loop-column l = l.out ++ flat_map spaced (cell_words l.named (drop l.column-index l.columns) (cells_in_ref l.left)) ≡ l.fn.out ++ flat_map spaced (cell_words l.named l.columns (cells_in_ref l.cells))
