use Rattle.std.proofs.Common.{sym, ap, ◌∙◌}
use Rattle.kt_cells.specs.Borrowed.{cells_in, cells_in_ref}
use Rattle.kt_history.proofs.Covering.{no_cells, laid_on_none}
use Rattle.kt_history.proofs.row_ref.put_read_under.Goals as goal

pub returns-then-is_empty : goal.returns-then-is_empty
returns-then-is_empty c = λ row.
    laid_on_none (cells_in_ref c.args.more) (cells_in c.args.cells.now.items) (cells_in c.put_read.new.cells.items) row
    (no_cells c.as_slice.result.now (cells_in c.args.cells.now.items) (ap cells_in c.as_slice.ensures.value) (sym c.is_empty.ensures ∙ c.if-is_empty.true)) c.in_ok-put_read.ensures

pub returns-then-has_only : goal.returns-then-has_only
returns-then-has_only c = λ row. sym (rw c.deref.ensures.value at (c.has_only.ensures c.if-has_only.true row))
