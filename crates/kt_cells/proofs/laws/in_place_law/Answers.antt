use Rattle.kt_cells.proofs.InPlace.{whole_behind}
use Rattle.kt_cells.proofs.laws.in_place_law.Goals as goal

pub returns : goal.returns
returns c = whole_behind
