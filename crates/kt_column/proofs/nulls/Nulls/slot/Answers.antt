use Rattle.kt_column.proofs.NullBits.{slot_value}
use Rattle.kt_column.proofs.nulls.Nulls.slot.Goals as goal

pub returns-in-Some : goal.returns-in-Some
returns-in-Some c = rw c.from.ensures (slot_value c.self.inside.slots.items _ c.args.i c.in-Some.k c.index.result.now c.args.self.now c.self.invariant c.self.view_is c.requires c.index.ensures c.in-Some.is)
