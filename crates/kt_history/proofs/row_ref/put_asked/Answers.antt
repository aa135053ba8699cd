use Rattle.std.proofs.Common.{ℕ, List, sym, ap, ◌∙◌}
use Rattle.std.specs.List.{list_all}
use Rattle.kt_base.specs.declared.cell_ref.CellRef.{CellRef}
use Rattle.kt_base.specs.Borrowed.{cell_in}
use Rattle.kt_cells.specs.Borrowed.{cells_in, cells_in_ref}
use Rattle.kt_history.proofs.Covering.{has}
use Rattle.kt_history.proofs.Asking.{asks_one, enough, enough_under}
use Rattle.kt_history.proofs.row_ref.put_asked.Goals as goal

pub cells-preserved : goal.cells-preserved
cells-preserved c =
    asks_one c.args.ids.now (cells_in_ref c.args.more) (cells_in_ref c.cells.rest) (cells_in_ref c.in-Some.others) (cells_in c.args.cells.now.items) (cells_in c.cells.cells.items) (cells_in c.put_if_asked.new.cells.items) (c.in-Some.cell.0, cell_in c.in-Some.cell.1) c.cells.invariant c.in-Some.ensures.some c.in_ok-put_if_asked.ensures

pub returns-then-have_all-clause-under : goal.returns-then-have_all-clause-under
returns-then-have_all-clause-under c = λ row.
    enough_under c.args.ids.now (cells_in_ref c.args.more) (cells_in_ref c.in-Some.others) (cells_in c.args.cells.now.items) c.put_if_asked.new.cells.items
    (asks_one c.args.ids.now (cells_in_ref c.args.more) (cells_in_ref c.cells.rest) (cells_in_ref c.in-Some.others) (cells_in c.args.cells.now.items) (cells_in c.cells.cells.items) (cells_in c.put_if_asked.new.cells.items) (c.in-Some.cell.0, cell_in c.in-Some.cell.1) c.cells.invariant c.in-Some.ensures.some c.in_ok-put_if_asked.ensures)
    (ap (λ (xs : List (ℕ × CellRef)). list_all (λ n. has n xs) c.args.ids.now) (sym c.deref.ensures.value) ∙ c.have_all.ensures c.if-have_all.true) row

pub returns-then-have_all-clause-all : goal.returns-then-have_all-clause-all
returns-then-have_all-clause-all c = λ _ row.
    enough c.args.ids.now (cells_in_ref c.args.more) (cells_in_ref c.in-Some.others) (cells_in c.args.cells.now.items) c.put_if_asked.new.cells.items
    (asks_one c.args.ids.now (cells_in_ref c.args.more) (cells_in_ref c.cells.rest) (cells_in_ref c.in-Some.others) (cells_in c.args.cells.now.items) (cells_in c.cells.cells.items) (cells_in c.put_if_asked.new.cells.items) (c.in-Some.cell.0, cell_in c.in-Some.cell.1) c.cells.invariant c.in-Some.ensures.some c.in_ok-put_if_asked.ensures)
    (ap (λ (xs : List (ℕ × CellRef)). list_all (λ n. has n xs) c.args.ids.now) (sym c.deref.ensures.value) ∙ c.have_all.ensures c.if-have_all.true) row
