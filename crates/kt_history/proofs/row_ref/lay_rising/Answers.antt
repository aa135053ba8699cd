use Rattle.std.proofs.Common.{◌≡◌, ◌++◌, ◌∷◌, [], drop, length, arith, refl, ap, ◌∙◌}
use Rattle.std.proofs.lemmas.Bool.Decides.{nat_tests}
use Rattle.std.proofs.lemmas.List.{take_all}
use Rattle.kt_base.specs.declared.cell.Cell.{Cell}
use Rattle.kt_cells.specs.Borrowed.{cells_in}
use Rattle.kt_history.proofs.Borrowed.{append_in}
use Rattle.kt_history.proofs.Filled.{fills_from, fills_over, fills_with_own, filled_all}
use Rattle.kt_history.proofs.row_ref.lay_rising.Goals as goal

pub cells-init : goal.cells-init
cells-init c = record { bound = omega arith; fills = fills_from c.args.cells.now (cells_in c.args.over.now) (cells_in c.args.over.now) (cells_in c.clear.new.self.items) refl (ap cells_in c.clear.ensures.items) }

pub cells-preserved-then-first-own : goal.cells-preserved-then-first-own
cells-preserved-then-first-own c = record {
  bound = omega (arith, c.if-at-over.true);
  fills = rw c.from-id.ensures (fills_over c.args.cells.now c.args.over.now c.cells.at c.cells.own-index c.cells.into.items c.push.new.self.items c.cells.least c.own-item.result _ c.cells.invariant.fills c.cells-test.true c.own-item.is (omega (arith, c.from-id.ensures, c.if-id-least.false))
      c.if-at-over.true c.if-first-own.true c.in_ok-push.ensures.items);
}

pub cells-preserved : goal.cells-preserved
cells-preserved c = record {
  bound = c.cells.invariant.bound;
  fills = rw c.from-id.ensures (fills_with_own c.args.cells.now (cells_in c.args.over.now) (cells_in (drop c.cells.at c.args.over.now)) c.cells.own-index (cells_in c.cells.into.items) (cells_in c.push-in-cells.new.self.items) c.cells.least c.own-item.result c.cells.invariant.fills c.cells-test.true c.own-item.is (omega (arith, c.from-id.ensures, c.if-id-least.false))
      (ap cells_in c.in_ok-push-2.ensures.items ∙ append_in c.cells.into.items ((c.own-item.result.0, c.of.result) ∷ []) ∙ ap (λ (x : Cell). cells_in c.cells.into.items ++ (c.own-item.result.0, x) ∷ []) c.of.ensures));
}

pub returns : goal.returns
returns c = λ all.
    let whole : c.cells.at ≡ length c.args.over.now = grind (arith, nat_tests, all) in
    filled_all c.args.cells.now c.args.over.now c.cells.at c.cells.own-index (cells_in c.cells.into.items) c.cells.least c.cells.invariant.fills (take_all c.cells.own-index c.args.cells.now (omega arith)) (omega (arith, whole))
