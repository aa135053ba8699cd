use Rattle.std.proofs.Common.{◌≡◌, ◌∷◌, [], ◌++◌, sym, ap, ◌∙◌}
use Rattle.kt_history.specs.Rows.{Row, with_cells}
use Rattle.kt_judge.proofs.Made.{with_cells-push}
use Rattle.kt_judge.proofs.writes.with_cells.Goals as goal

pub cells-preserved : goal.cells-preserved
cells-preserved c =
    let items = c.in-Some.ensures.items in
    let popped : c.cells.left.items ≡ c.pop.new.self.items ++ (c.in-Some.id, c.in-Some.cell) ∷ [] = cc in
    rw c.in_ok-put_cell.ensures (sym (with_cells-push c.pop.new.self.items c.cells.new.items (c.in-Some.id, c.in-Some.cell)) ∙ ap (λ (l : Row). with_cells l c.cells.new.items) (sym popped) ∙ c.cells.invariant)
