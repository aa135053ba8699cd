use Rattle.std.proofs.Common.{arith}
use Rattle.kt_history.proofs.Flat.{rows_are}
use Rattle.kt_history.proofs.row_list.RowList.len.Goals as goal

pub returns : goal.returns
returns c = omega (arith, rows_are c.self.inside.ends.items c.self.inside.cells.items c.self.inside.texts c.args.self.now c.self.view_is)
