use Rattle.kt_column.specs.Held.{items_of}
use Rattle.kt_column.proofs.Weaving.{counted}
use Rattle.kt_column.proofs.block.Block.len.Goals as goal

pub cell_count-requires-clause-slots : goal.cell_count-requires-clause-slots
cell_count-requires-clause-slots c = counted c.self.inside.form c.self.inside.nulls (items_of c.self.inside.values) _ c.self.invariant.0
