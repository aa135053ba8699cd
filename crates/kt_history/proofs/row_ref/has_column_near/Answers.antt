use Rattle.std.proofs.Common.{arith, sym}
use Rattle.kt_history.proofs.Covering.{has_at}
use Rattle.kt_history.proofs.row_ref.has_column_near.Goals as goal

pub returns-then-here-id : goal.returns-then-here-id
returns-then-here-id c = sym (has_at c.args.id c.args.place c.args.cells.now _ (omega arith) c.if-here-id.true)
