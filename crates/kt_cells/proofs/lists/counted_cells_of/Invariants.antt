use Rattle.std.proofs.Common.{◌≡◌, ◌-◌, []}
use Rattle.kt_bytes.specs.Reading.{many_at}
use Rattle.kt_cells.specs.Reading.{listed_cell_at}
use Rattle.kt_cells.proofs.lists.counted_cells_of.Given as goal

abbrev pub invariant-cells : goal.invariant-cells
invariant-cells l = many_at (listed_cell_at l.count) (l.count - l.counter) l.cells.items l.rest ≡ many_at (listed_cell_at l.count) l.count [] l.bytes
