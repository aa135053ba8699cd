use Rattle.std.proofs.Common.{◌≡◌, ◌∙◌, ℕ, List, Some, sym, ap, subst}
use Rattle.std.proofs.lemmas.Bool.{OnTrue_at}
use Rattle.std.proofs.lemmas.Result.{IfOk-weaker}
use Rattle.kt_history.specs.declared.changes.Delta.{Delta}
use Rattle.kt_history.specs.Rows.{Row}
use Rattle.kt_deltafile.specs.declared.file.Way.TheVariants.{Redo}
use Rattle.kt_deltafile.specs.File.{FileView}
use Rattle.kt_deltafile.specs.Rules.{FileFits}
use Rattle.kt_diskrowset.specs.declared.files.FileHeld.{FileHeld}
use Rattle.kt_diskrowset.specs.Rows.{rows_of}
use Rattle.kt_rowfiles.specs.Files.{row_under, records_for}
use Rattle.kt_histlaws.specs.Fitting.{steps_above}
use Rattle.kt_merge.specs.Changes.{steps_of}
use Rattle.kt_merge.proofs.LatePlaced.{placed_told}
use Rattle.kt_merge.proofs.Retold.{file_anywhere}
use Rattle.kt_merge.proofs.placing.file_of.Goals as goal

pub of-requires-2 : goal.of-requires-2
of-requires-2 c =
    subst (FileFits Redo 4294967296) (c.deref.ensures.value ∙ sym c.of.ensures) (file_anywhere c.rows.result c.deref.result.now (OnTrue_at c.if-not-are_redos.false c.are_redos.ensures))

pub returns : goal.returns
returns c =
    IfOk-weaker c.new_file.result (λ (file : FileHeld). file.deltas.value ≡ c.of-2.result)
    (λ (file : FileHeld). (q : List ℕ) (found : ℕ × Row) → row_under q 0 (rows_of c.args.output.now.set.value.rows) ≡ Some found → records_for found.0 file.deltas.value.list ≡ steps_above c.args.bound (steps_of q c.args.changes.now))
    (λ file e q found there.
    ap (λ (v : FileView). records_for found.0 v.list) e ∙ ap (λ (l : List Delta). records_for found.0 l) (c.of-2.ensures.list ∙ c.of.ensures ∙ c.in_ok-list.ensures)
    ∙ placed_told c.args.bound c.args.output.now.set.value.rows q found there c.args.changes.now)
    c.new_file.ensures.deltas
