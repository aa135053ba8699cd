use Rattle.std.proofs.Common.{◌≡◌, ℕ, ◌∷◌, ◌+◌, drop, sym, ap, ◌∙◌, arith, subst}
use Rattle.std.proofs.lemmas.List.{drop_all, drop_more}
use Rattle.std.specs.Ordering.{nat_cmp}
use Rattle.std.specs.FinMap.Entries.{put}
use Rattle.kt_base.specs.declared.cell.Cell.{Cell}
use Rattle.kt_cells.specs.Borrowed.{cells_in}
use Rattle.kt_history.specs.Rows.{Row, with_cells, AgreeIn}
use Rattle.kt_history.proofs.Asking.{asks_one, asks_all, asks_last}
use Rattle.kt_history.proofs.row_ref.put_asked_last.Goals as goal

pub cells-preserved : goal.cells-preserved
cells-preserved c =
    let own = c.own-item.result in
    let parts : drop c.cells.own-index c.args.more.now ≡ own ∷ drop (c.cells.own-index + 1) c.args.more.now =
    drop_more c.args.more.now c.cells.own-index own c.cells-test.true ∙ ap (λ (x : ℕ × Cell). x ∷ drop (c.cells.own-index + 1) c.args.more.now) (sym c.own-item.is) in
    asks_one c.args.ids.now c.args.more.now (drop c.cells.own-index c.args.more.now) (drop (c.cells.own-index + 1) c.args.more.now) (cells_in c.args.cells.now.items) (cells_in c.cells.cells.items) (cells_in c.put_if_asked.new.cells.items) own c.cells.invariant parts
    (subst (λ (x : Cell). (row : Row) → AgreeIn c.args.ids.now (with_cells (cells_in c.put_if_asked.new.cells.items) row) (with_cells (cells_in c.cells.cells.items) (put nat_cmp own.0 x row))) c.of.ensures c.in_ok-put_if_asked.ensures)

pub returns : goal.returns
returns c =
    asks_last c.args.ids.now c.args.more.now (cells_in c.args.cells.now.items) (cells_in c.cells.cells.items)
    (asks_all c.args.ids.now c.args.more.now (drop c.cells.own-index c.args.more.now) (cells_in c.args.cells.now.items) (cells_in c.cells.cells.items) c.cells.invariant (drop_all c.cells.own-index c.args.more.now (omega arith)))
