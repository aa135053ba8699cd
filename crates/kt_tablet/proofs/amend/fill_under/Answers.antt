use Rattle.std.proofs.Common.{◌≡◌, [], sym, ap, ◌∙◌}
use Rattle.kt_cells.specs.Borrowed.{cells_in_ref}
use Rattle.kt_history.specs.Rows.{Row, with_cells}
use Rattle.kt_history.proofs.Covering.{no_cells}
use Rattle.kt_tablet.proofs.amend.fill_under.Goals as goal

pub returns-then-is_empty : goal.returns-then-is_empty
returns-then-is_empty c =
    let none : c.args.row.now ≡ [] = no_cells c.as_slice.result.now c.args.row.now c.as_slice.ensures (sym c.is_empty.ensures ∙ c.if-is_empty.true) in
    c.in_ok-fill_with.ensures ∙ sym (ap (λ (over : Row). with_cells over (with_cells (cells_in_ref c.args.cells) c.args.fill.now)) none)

pub returns : goal.returns
returns c = c.in_ok-lay_over.ensures ∙ c.in_ok-set_under.ensures c.args.fill.now
