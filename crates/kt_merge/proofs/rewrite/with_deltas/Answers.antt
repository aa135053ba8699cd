use Rattle.std.proofs.Common.{◌∙◌, ◌++◌, ◌∷◌, [], List, refl, sym, ap, subst, arith}
use Rattle.std.proofs.lemmas.List.{append-nil}
use Rattle.std.proofs.lemmas.Bool.{OnTrue_at}
use Rattle.kt_history.specs.declared.changes.Delta.{Delta}
use Rattle.kt_deltafile.specs.declared.file.Way.TheVariants.{Redo}
use Rattle.kt_deltafile.specs.File.{FileView}
use Rattle.kt_deltafile.specs.Rules.{FileFits}
use Rattle.kt_diskrowset.specs.declared.data.RowSetData.{RowSetData}
use Rattle.kt_diskrowset.specs.declared.files.FileHeld.{FileHeld}
use Rattle.kt_diskrowset.specs.Files.{lists_of, as_file, as_files}
use Rattle.kt_merge.specs.Rewriting.{AreAbove}
use Rattle.kt_merge.proofs.Retold.{deltas_rewritten, file_anywhere}
use Rattle.kt_merge.proofs.rewrite.with_deltas.Goals as goal

pub of-requires : goal.of-requires
of-requires c = subst (FileFits Redo 4294967296) c.as_slice-records.ensures (file_anywhere c.rows.result c.as_slice-records.result.now (OnTrue_at c.if-not-are_redos.false c.are_redos.ensures))

pub returns-clause-same : goal.returns-clause-same
returns-clause-same c =
    let d = c.args.rowset in
    let e : RowSetData = record { number = d.number; base = d.base; undo = d.undo; redo = c.in_ok-redo.redo; fresh = c.of-2.result } in
    let fits = subst (FileFits Redo c.rows.result) c.as_slice-records.ensures (OnTrue_at c.if-not-are_redos.false c.are_redos.ensures) in
    let above = subst (λ (fs : List FileHeld). AreAbove fs d.fresh) c.as_slice.ensures (subst (AreAbove c.as_slice.result.now) c.as_slice-records.ensures (OnTrue_at c.if-not-are_above.false c.are_above.ensures)) in
    let redo = c.in_ok-redo.ensures.lists ∙ ap (λ (l : List Delta). lists_of d.redo ++ l ∷ []) (ap (λ (f : FileView). f.list) c.in_ok-file.ensures.deltas ∙ c.of.ensures.list) in
    deltas_rewritten d e c.rows.result refl refl refl redo (c.of-2.ensures ∙ c.new.ensures.items) fits above (λ h. h)

-- without a change they stay as they are
pub returns-then-is_empty-clause-files : goal.returns-then-is_empty-clause-files
returns-then-is_empty-clause-files c = record { base = refl; undos = refl; redos = record { more = []; are = sym (append-nil (as_files c.args.rowset.redo)); few = omega arith; unwritten = tt } }

pub returns-clause-files : goal.returns-clause-files
returns-clause-files c = record {
  base = refl;
  undos = refl;
  redos = record { more = as_file c.in_ok-file.file ∷ []; are = c.in_ok-redo.ensures.files; few = omega arith; unwritten = (c.in_ok-file.ensures.number, tt) };
}
