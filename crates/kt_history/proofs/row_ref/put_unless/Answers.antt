use Rattle.std.proofs.Common.{ℕ, List, sym, ap, ◌∙◌}
use Rattle.std.specs.List.{list_any}
use Rattle.std.specs.Ordering.{nat_cmp, is_eq}
use Rattle.kt_base.specs.declared.cell_ref.CellRef.{CellRef}
use Rattle.kt_base.specs.Borrowed.{cell_in}
use Rattle.kt_cells.specs.Borrowed.{cells_in}
use Rattle.kt_history.specs.Rows.{with_cells}
use Rattle.kt_history.proofs.Covering.{hidden, shown}
use Rattle.kt_history.proofs.row_ref.put_unless.Goals as goal

pub returns-then-has_column_near : goal.returns-then-has_column_near
returns-then-has_column_near c = λ row.
    sym (hidden c.args.id (cell_in c.args.cell) c.args.cells.now.items row
    (ap (λ (xs : List (ℕ × CellRef)). list_any (λ (x : ℕ × CellRef). is_eq (nat_cmp c.args.id x.0)) xs) (sym c.deref.ensures.value) ∙ sym c.has_column_near.ensures ∙ c.if-has_column_near.true))

pub returns : goal.returns
returns c = λ row.
    ap (λ (xs : List (ℕ × CellRef)). with_cells (cells_in xs) row) c.in_ok-put_ref.ensures
    ∙ shown c.args.id c.args.cell c.args.cells.now.items row
    (ap (λ (xs : List (ℕ × CellRef)). list_any (λ (x : ℕ × CellRef). is_eq (nat_cmp c.args.id x.0)) xs) (sym c.deref.ensures.value) ∙ sym c.has_column_near.ensures ∙ c.if-has_column_near.false)
