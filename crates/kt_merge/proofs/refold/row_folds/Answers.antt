use Rattle.std.proofs.Common.{◌∙◌, List, ap, subst}
use Rattle.std.specs.Bool.{OnTrue}
use Rattle.std.proofs.lemmas.Result.{IfOk-weaker}
use Rattle.kt_history.specs.Stores.{Steps}
use Rattle.kt_baseset.specs.Tables.{cells_in}
use Rattle.kt_rowfiles.specs.Files.{records_in}
use Rattle.kt_rowfiles.specs.Reading.{steps_in}
use Rattle.kt_diskrowset.specs.declared.files.FileHeld.{FileHeld}
use Rattle.kt_diskrowset.specs.Files.{lists_of}
use Rattle.kt_merge.specs.Major.{redos_at}
use Rattle.kt_merge.specs.Rewriting.{Folds}
use Rattle.kt_merge.proofs.FoldedFiles.{redos_are}
use Rattle.kt_merge.proofs.refold.row_folds.Goals as goal

pub returns : goal.returns
returns c =
    let n = c.args.ordinal in
    let row = cells_in c.args.base.now.rows n in
    let are = ap steps_in c.deref.ensures.value ∙ redos_are c.clear.new.self.items c.push_redos.new.steps.items (redos_at n c.args.redo.now) c.clear.ensures.items c.in_ok-push_redos.ensures in
    IfOk-weaker c.folds.result _ _
    (λ b told. subst (λ (s : Steps). OnTrue b (Folds c.args.columns.now (records_in n (lists_of c.args.undo.now)) s row)) are
    (subst (λ (fs : List FileHeld). OnTrue b (Folds c.args.columns.now (records_in n (lists_of fs)) (steps_in c.deref.result.now) row)) c.as_slice.ensures told))
    c.folds.ensures
