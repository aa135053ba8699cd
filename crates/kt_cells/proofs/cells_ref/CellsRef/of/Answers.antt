use Rattle.std.proofs.Common.{rules}
use Rattle.kt_cells.specs.Reading.{cells_from}
use Rattle.kt_cells.proofs.cells_ref.CellsRef.of.Goals as goal

pub returns-in-None : goal.returns-in-None
unfolding cells_from
returns-in-None c = search rules
