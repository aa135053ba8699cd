use Rattle.std.proofs.Common.{◌≡◌, ◌++◌, take}
use Rattle.std.specs.List.{flat_map}
use Rattle.kt_cells.specs.Spelling.{listed_cell}
use Rattle.kt_cells.proofs.writing.put_cells.Given as goal

abbrev pub invariant-cells : goal.invariant-cells
invariant-cells l = (l.out.front ≡ l.initial.out.front) × (l.out.added ≡ l.initial.out.added ++ flat_map listed_cell (take l.listed-index l.cells))
