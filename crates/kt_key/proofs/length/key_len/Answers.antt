use Rattle.std.proofs.Common.{arith, ap, length, length-append, ◌≡◌, ◌≢◌, ◌-◌, sym, ◌∙◌}
use Rattle.std.proofs.lemmas.Bool.{eqb-false}
use Rattle.kt_base.specs.declared.cell.Kind.TheVariants.{Bool}
use Rattle.kt_key.proofs.Steps.{spelling-inner, spelling-last, is_key-long}
use Rattle.kt_key.proofs.length.key_len.Goals as goal

pub loop-at-init : goal.loop-at-init
loop-at-init c = (is_key-long c.args.kinds.now c.args.cells.now c.requires, omega arith)

pub loop-at-preserved : goal.loop-at-preserved
loop-at-preserved c =
    let e = spelling-inner c.args.kinds.now c.args.cells.now c.loop-at.at Bool c.index-cells-at.result c.loop-at.invariant.0 c.index-cells-at.is (omega arith) in
    (c.loop-at.invariant.0, omega (arith, simp length-append at (ap length e)))

pub returns : goal.returns
returns c =
    let some : length c.args.kinds.now ≢ 0 = eqb-false _ _ (sym c.is_empty.ensures ∙ c.if-is_empty.false) in
    let last : c.loop-at.at ≡ length c.args.kinds.now - 1 = omega arith in
    let e = spelling-last c.args.kinds.now c.args.cells.now c.loop-at.at Bool c.index-cells-last.result c.loop-at.invariant.0 (rw last c.index-cells-last.is) (omega arith) in
    omega (arith, rw last at (ap length e), rw last at c.loop-at.invariant.1)
