use Rattle.std.proofs.Common.{[], ◌∷◌, take, sym, subst}
use Rattle.std.proofs.lemmas.Bool.{OnTrue_at}
use Rattle.kt_cells.specs.Rules.{EachAfter}
use Rattle.kt_deltafile.specs.declared.file.Way.TheVariants.{Redo}
use Rattle.kt_deltafile.specs.Rules.{Follows}
use Rattle.kt_merge.proofs.Copying.{take_more_of}
use Rattle.kt_merge.proofs.FilesMore.{each_append}
use Rattle.kt_merge.proofs.rewrite.are_redos.Goals as goal

pub records-preserved : goal.records-preserved
records-preserved c =
    let xs = c.args.records.now in
    let i = c.records.at in
    let x = c.index-records-at.result in
    subst (EachAfter (Follows Redo c.args.rows) []) (sym (take_more_of xs i x c.records-test.true c.index-records-at.is))
    (each_append (Follows Redo c.args.rows) [] (take i xs) (x ∷ []) c.records.invariant (OnTrue_at c.if-not-may_stand.false c.may_stand.ensures, tt))
