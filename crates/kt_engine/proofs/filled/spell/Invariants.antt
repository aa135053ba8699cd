use Rattle.std.proofs.Common.{◌≡◌, ◌++◌, take}
use Rattle.std.specs.List.{flat_map}
use Rattle.kt_cells.specs.Borrowed.{cells_in}
use Rattle.kt_cells.specs.Spelling.{listed_cell}
use Rattle.kt_engine.proofs.filled.spell.Given as goal

abbrev pub invariant-cells : goal.invariant-cells
invariant-cells l = l.bytes.added ≡ l.initial.bytes.added ++ flat_map listed_cell (take l.cell-index (cells_in l.cells))
