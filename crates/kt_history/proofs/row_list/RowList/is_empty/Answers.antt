use Rattle.std.proofs.Common.{ap, ◌∙◌, ◌==◌, arith}
use Rattle.kt_history.proofs.Flat.{rows_are}
use Rattle.kt_history.proofs.row_list.RowList.is_empty.Goals as goal

pub returns : goal.returns
returns c = c.is_empty.ensures ∙ ap (λ n. n == 0) (omega (arith, rows_are c.self.inside.ends.items c.self.inside.cells.items c.self.inside.texts c.args.self.now c.self.view_is))
