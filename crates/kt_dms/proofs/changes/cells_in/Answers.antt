use Rattle.kt_dms.proofs.Spelling.{not_refused, cells_are}
use Rattle.kt_dms.proofs.changes.cells_in.Goals as goal

pub unreachable-requires : goal.unreachable-requires
unreachable-requires c = not_refused c.args.bytes.now c.in-Err-Left.field-0-0 c.requires (rw c.in-Err-Left.field-0-is at c.in-Err-Left.ensures)

pub returns-in-Ok : goal.returns-in-Ok
returns-in-Ok c = cells_are c.args.bytes.now (c.in-Ok.cells, c.in-Ok.field-0-1.now) c.requires c.in-Ok.ensures
