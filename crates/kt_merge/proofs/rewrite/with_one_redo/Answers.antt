use Rattle.std.proofs.Common.{◌∙◌, ◌++◌, ◌∷◌, [], List, refl, sym, ap, subst, arith}
use Rattle.kt_history.specs.declared.changes.Delta.{Delta}
use Rattle.kt_deltafile.specs.File.{FileView}
use Rattle.kt_rowfiles.specs.Files.{records_in, rising}
use Rattle.kt_diskrowset.specs.declared.data.RowSetData.{RowSetData}
use Rattle.kt_diskrowset.specs.declared.files.FileHeld.{FileHeld}
use Rattle.kt_diskrowset.specs.Files.{lists_of, as_files}
use Rattle.kt_merge.specs.Rewriting.{IsOneFile}
use Rattle.kt_merge.proofs.Retold.{redos_rewritten, one_alone}
use Rattle.kt_merge.proofs.rewrite.with_one_redo.Goals as goal

pub returns-clause-same : goal.returns-clause-same
returns-clause-same c =
    let d = c.args.rowset in
    let e : RowSetData = record { number = d.number; base = d.base; undo = d.undo; redo = c.of.result; fresh = d.fresh } in
    let files = c.of.ensures ∙ c.in_ok-push.ensures.items ∙ ap (λ (l : List FileHeld). l ++ c.in_ok-file.file ∷ []) c.new-files.ensures.items in
    let lists = ap lists_of files ∙ ap (λ (f : FileView). f.list ∷ []) c.in_ok-file.ensures.deltas in
    redos_rewritten d e refl refl refl (λ n. ap (λ (ls : List (List Delta)). rising (records_in n ls)) lists ∙ one_alone n c.in_ok-merged.merged.list (records_in n (lists_of d.redo)) (c.in_ok-merged.ensures.rows n)) refl c.requires.none (λ h. h)

pub returns-clause-files : goal.returns-clause-files
returns-clause-files c =
    let files = c.of.ensures ∙ c.in_ok-push.ensures.items ∙ ap (λ (l : List FileHeld). l ++ c.in_ok-file.file ∷ []) c.new-files.ensures.items in
    record {
      base = refl;
      undos = refl;
      redos = subst (λ (l : List FileHeld). IsOneFile (as_files l)) (sym files) (record { few = omega arith; unwritten = (c.in_ok-file.ensures.number, tt) });
    }
