use Rattle.std.proofs.Common.{List, length, sym, ap, subst, arith}
use Rattle.std.specs.List.{AllByRecursion}
use Rattle.kt_baseset.specs.declared.schema.ColumnShape.{ColumnShape}
use Rattle.kt_baseset.specs.Rows.{keys_in}
use Rattle.kt_merge.specs.Major.{IsHeld, IsOldDelete}
use Rattle.kt_merge.specs.Told.{Grown}
use Rattle.kt_merge.proofs.FoldedFiles.{redos_more, redos_room, folded_more}
use Rattle.kt_merge.proofs.folding.major.Goals as goal

pub ordinals-init : goal.ordinals-init
ordinals-init c =
    let none = c.new-out.ensures.none in
    record {
      grown = (c.new-out.ensures.grows c.args.base.now.schema).grown;
      front = ap keys_in none.0;
      rows = λ n d lt e held. absurd (omega (arith, lt));
      few = (let e = ap length none.1 in omega (arith, e));
      deletes = subst (AllByRecursion (IsOldDelete c.args.redo.now)) (sym none.2) tt;
    }

pub fold_at-requires-clause-inside : goal.fold_at-requires-clause-inside
fold_at-requires-clause-inside c = omega (arith, c.ordinals-test.true, c.rows-ordinal-end.ensures.count)

pub fold_at-requires-clause-grown : goal.fold_at-requires-clause-grown
fold_at-requires-clause-grown c = subst (λ (cs : List ColumnShape). Grown cs c.ordinals.out) (sym c.in_ok-columns.ensures) c.ordinals.invariant.grown

pub ordinals-preserved : goal.ordinals-preserved
ordinals-preserved c = record {
  grown = subst (λ (cs : List ColumnShape). Grown cs c.fold_at.new.out) c.in_ok-columns.ensures c.in_ok-fold_at.ensures.grown;
  front = c.in_ok-fold_at.ensures.front;
  rows = folded_more c.ordinals.ordinal c.args.mark c.args.base.now c.args.redo.now c.ordinals.out c.fold_at.new.out c.ordinals.invariant.rows c.in_ok-fold_at.ensures.same
      (λ d e held. c.in_ok-fold_at.ensures.folded d e (subst (λ (cs : List ColumnShape). IsHeld cs d) (sym c.in_ok-columns.ensures) held) (redos_room c.ordinals.ordinal c.args.redo.now (length c.ordinals.out.undos.items) c.ordinals.invariant.few c.requires.few));
  few = (let more = redos_more c.ordinals.ordinal c.args.redo.now in omega (arith, more, c.in_ok-fold_at.ensures.few, c.ordinals.invariant.few));
  deletes = c.in_ok-fold_at.ensures.deletes c.ordinals.invariant.deletes;
}
