use Rattle.std.proofs.Common.{sym, ap}
use Rattle.kt_history.specs.declared.operation.RowOp.{RowOp}
use Rattle.kt_history.proofs.Spelled.{len_is}
use Rattle.kt_history.proofs.op_list.OpRef.len.Goals as goal

pub returns : goal.returns
returns c = len_is c.args.self.now c.self.inside.key.now c.self.inside.cells.now c.self.invariant.1 (sym (ap (λ (o : RowOp). o.key) c.self.view_is)) (sym (ap (λ (o : RowOp). o.cells) c.self.view_is))
