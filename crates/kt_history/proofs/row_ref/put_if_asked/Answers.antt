use Rattle.std.proofs.Common.{sym, ap, ◌∙◌}
use Rattle.std.specs.Ordering.{nat_cmp}
use Rattle.std.specs.FinMap.Entries.{find}
use Rattle.kt_base.specs.Borrowed.{cell_in}
use Rattle.kt_cells.specs.Borrowed.{cells_in}
use Rattle.kt_history.proofs.Asking.{skipped}
use Rattle.kt_history.proofs.row_ref.put_if_asked.Goals as goal

pub returns-then-not-is_among : goal.returns-then-not-is_among
returns-then-not-is_among c = λ row. skipped c.args.ids.now c.args.id (cell_in c.args.cell) (cells_in c.args.cells.now.items) row (sym c.is_among.ensures ∙ c.if-not-is_among.true)

pub returns : goal.returns
returns c = λ row id yes. ap (find nat_cmp id) (c.in_ok-put_unless.ensures row)
