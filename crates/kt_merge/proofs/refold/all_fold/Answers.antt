use Rattle.std.proofs.Common.{ℕ, List, subst, arith}
use Rattle.std.proofs.lemmas.Bool.{OnTrue_at}
use Rattle.kt_baseset.specs.declared.schema.ColumnShape.{ColumnShape}
use Rattle.kt_baseset.specs.Tables.{cells_in}
use Rattle.kt_rowfiles.specs.Files.{records_in}
use Rattle.kt_diskrowset.specs.Files.{lists_of}
use Rattle.kt_merge.specs.Major.{redos_at}
use Rattle.kt_merge.specs.Rewriting.{Folds}
use Rattle.kt_merge.proofs.InTurn.{each_below}
use Rattle.kt_merge.proofs.refold.all_fold.Goals as goal

pub row_folds-requires : goal.row_folds-requires
row_folds-requires c = omega (arith, c.rows-test.true, c.rows-ordinal-end.ensures.count)

pub rows-preserved : goal.rows-preserved
rows-preserved c =
    let base = c.args.base.now in
    let here = subst (λ (cs : List ColumnShape). Folds cs (records_in c.rows.ordinal (lists_of c.args.undo.now)) (redos_at c.rows.ordinal c.args.redo.now) (cells_in base.rows c.rows.ordinal)) c.in_ok-columns.ensures (OnTrue_at c.if-not-folds.false c.in_ok-folds.ensures) in
    each_below (λ (n : ℕ). Folds base.schema (records_in n (lists_of c.args.undo.now)) (redos_at n c.args.redo.now) (cells_in base.rows n)) c.rows.ordinal c.rows.invariant here

pub returns : goal.returns
returns c = λ n low. c.rows.invariant n (omega (arith, low, c.rows-test.false, c.rows-ordinal-end.ensures.count))
