use Rattle.kt_column.proofs.Chosen.{some_stands}
use Rattle.kt_column.proofs.lengths.shortest_encoding.Goals as goal

pub unreachable-requires : goal.unreachable-requires
unreachable-requires c = some_stands c.args.form c.args.items.now c.requires (rw c.in-None.is at c.in-Ok-try_next-3.ensures)
