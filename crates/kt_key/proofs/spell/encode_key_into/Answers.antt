use Rattle.std.proofs.Common.{◌≡◌, ◌≢◌, ◌-◌, ◌++◌, length, sym, ap, ◌∙◌, refl, arith, append_assoc}
use Rattle.std.proofs.lemmas.Bool.{eqb-false}
use Rattle.std.proofs.Math.Seq.{take-length}
use Rattle.kt_base.specs.declared.cell.Kind.TheVariants.{Bool}
use Rattle.kt_key.proofs.Steps.{spelling-inner, spelling-last, is_key-long, is_key-at}
use Rattle.kt_key.proofs.Escapes.{still_front, on_ok}
use Rattle.kt_key.proofs.spell.encode_key_into.Goals as goal

pub loop-at-init : goal.loop-at-init
loop-at-init c = (is_key-long c.args.kinds.now c.args.cells.now c.requires, refl, take-length c.args.out.now)

pub push_inner-requires : goal.push_inner-requires
push_inner-requires c = is_key-at c.args.kinds.now c.args.cells.now c.loop-at.at c.index-cells-at.result c.requires c.index-cells-at.is (omega arith)

pub loop-at-preserved : goal.loop-at-preserved
loop-at-preserved c =
    let e = spelling-inner c.args.kinds.now c.args.cells.now c.loop-at.at Bool c.index-cells-at.result c.loop-at.invariant.0 c.index-cells-at.is (omega arith) in
    let front = still_front c.args.out.now c.loop-at.out _ c.loop-at.invariant.2 in
    (c.loop-at.invariant.0, rw c.in_ok-push_inner.ensures.ok (append_assoc c.loop-at.out _ _ ∙ ap (λ ys. c.loop-at.out ++ ys) (sym e) ∙ c.loop-at.invariant.1), rw c.in_ok-push_inner.ensures.ok front)

pub push_last-requires : goal.push_last-requires
push_last-requires c =
    let some : length c.args.kinds.now ≢ 0 = eqb-false _ _ (sym c.is_empty.ensures ∙ c.if-is_empty.false) in
    is_key-at c.args.kinds.now c.args.cells.now (length c.args.kinds.now - 1) c.index-cells-last.result c.requires c.index-cells-last.is (omega arith)

pub returns-clause-ok : goal.returns-clause-ok
returns-clause-ok c =
    let some : length c.args.kinds.now ≢ 0 = eqb-false _ _ (sym c.is_empty.ensures ∙ c.if-is_empty.false) in
    let last : c.loop-at.at ≡ length c.args.kinds.now - 1 = omega arith in
    let e = spelling-last c.args.kinds.now c.args.cells.now (length c.args.kinds.now - 1) Bool c.index-cells-last.result c.loop-at.invariant.0 c.index-cells-last.is (omega arith) in
    on_ok c.push_last.result c.push_last.ensures.ok (λ put. put ∙ ap (λ ys. c.loop-at.out ++ ys) (sym e) ∙ rw last at c.loop-at.invariant.1)
