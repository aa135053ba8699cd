use Rattle.std.proofs.Common.{◌≡◌, ◌++◌, ◌∷◌, [], Some, arith, ap, ◌∙◌}
use Rattle.kt_base.specs.declared.cell.Cell.{Cell}
use Rattle.kt_cells.specs.Borrowed.{cells_in_ref}
use Rattle.kt_tablet.proofs.Merged.{waits, fills_own, fills_set}
use Rattle.kt_tablet.proofs.amend.fill_rising.Goals as goal

pub fill-preserved-then-cell-own : goal.fill-preserved-then-cell-own
fill-preserved-then-cell-own c =
    let after = c.split_first-next-then-cell-own.result in
    let here : c.fill.next ≡ Some (c.in-Some.cell, c.in-Some.others) = c.in-Some.is in
    rw c.from-id.ensures (fills_set c.args.fill.now c.args.cells c.fill.own-index c.fill.next c.fill.row c.push.new.self c.fill.least c.own-item.result c.fill.invariant c.fill-test.true c.own-item.is (omega (arith, c.from-id.ensures, c.if-id-least.false))
    c.in-Some.cell c.in-Some.others after here c.if-cell-own.true (waits (cells_in_ref c.in-Some.others) after c.split_first-next-then-cell-own.ensures.none c.split_first-next-then-cell-own.ensures.some) c.in_ok-push.ensures)

pub fill-preserved : goal.fill-preserved
fill-preserved c =
    rw c.from-id.ensures (fills_own c.args.fill.now c.args.cells c.fill.own-index c.fill.next c.fill.row c.push-in-fill.new.self c.fill.least c.own-item.result c.fill.invariant c.fill-test.true c.own-item.is (omega (arith, c.from-id.ensures, c.if-id-least.false))
    (c.in_ok-push-2.ensures ∙ ap (λ (x : Cell). c.fill.row ++ (c.own-item.result.0, x) ∷ []) c.of.ensures))
