use Rattle.std.proofs.Common.{◌+◌, ℕ, drop, sym, subst, arith}
use Rattle.std.proofs.lemmas.Bool.{OnTrue_at, OnFalse_at}
use Rattle.kt_merge.proofs.FitFiles.{RiseFrom, cells_on, cells_back, cells_stop, cells_over, cells_not}
use Rattle.kt_merge.proofs.fitting.cells_fit.Goals as goal

pub returns-then-cells-clause-no : goal.returns-then-cells-clause-no
returns-then-cells-clause-no c = λ fit. omega (arith, fit.count)

pub returns-then-not-may_stand-clause-no : goal.returns-then-not-may_stand-clause-no
returns-then-not-may_stand-clause-no c =
    cells_not c.args.cells.now
    (cells_stop c.args.cells.now c.cells.cell-index c.cell-item.result c.cells.least c.cells-test.true c.cell-item.is (RiseFrom 0 c.args.cells.now) c.cells.invariant.back (λ up fits. OnFalse_at c.if-not-may_stand.true c.may_stand.ensures.no (up, fits)))

pub cells-preserved : goal.cells-preserved
cells-preserved c =
    let here = OnTrue_at c.if-not-may_stand.false c.may_stand.ensures.yes in
    let xs = c.args.cells.now in
    let i = c.cells.cell-index in
    let x = c.cell-item.result in
    record {
      on = subst (λ (n : ℕ). RiseFrom (n + 1) (drop (i + 1) xs) → RiseFrom 0 xs) (sym c.wide-least.ensures.same) (cells_on xs i x c.cells.least c.cells-test.true c.cell-item.is (RiseFrom 0 xs) here.0 c.wide-least.ensures.range here.1 c.cells.invariant.on);
      back = subst (λ (n : ℕ). RiseFrom 0 xs → RiseFrom (n + 1) (drop (i + 1) xs)) (sym c.wide-least.ensures.same) (cells_back xs i x c.cells.least c.cells-test.true c.cell-item.is (RiseFrom 0 xs) c.cells.invariant.back);
    }

pub returns-clause-yes : goal.returns-clause-yes
returns-clause-yes c = cells_over c.args.cells.now c.cells.cell-index c.cells.least c.cells-test.false (omega arith) c.cells.invariant.on
