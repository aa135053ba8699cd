use Rattle.std.proofs.Common.{sym, ◌∙◌}
use Rattle.kt_cells.specs.Borrowed.{cells_in_ref}
use Rattle.kt_history.proofs.Covering.{all_hidden}
use Rattle.kt_history.proofs.row_ref.has_only.Goals as goal

pub returns-in-Some : goal.returns-in-Some
returns-in-Some c = λ has row. all_hidden c.in-Some.id c.args.cells.now (cells_in_ref c.args.more) row c.in-Some.ensures (sym c.has_column.ensures ∙ has)
