use Rattle.std.proofs.Common.{◌≡◌, ◌^◌, ◌∙◌, ◌++◌, ◌∷◌, [], List, length, refl, sym, ap, subst}
use Rattle.std.proofs.lemmas.Bool.{OnTrue_at, eqb-true}
use Rattle.std.proofs.lemmas.List.{nil_from_length}
use Rattle.kt_history.specs.declared.changes.Delta.{Delta}
use Rattle.kt_deltafile.specs.declared.file.Way.{Way}
use Rattle.kt_deltafile.specs.File.{FileView}
use Rattle.kt_deltafile.specs.Rules.{FileFits}
use Rattle.kt_diskrowset.specs.declared.data.RowSetData.{RowSetData}
use Rattle.kt_diskrowset.specs.declared.files.FileHeld.{FileHeld}
use Rattle.kt_diskrowset.specs.Data.{store_in}
use Rattle.kt_diskrowset.specs.Files.{lists_of}
use Rattle.kt_merge.specs.Rewriting.{AreAbove}
use Rattle.kt_merge.proofs.Retold.{deltas_rewritten}
use Rattle.kt_merge.proofs.late.with_redo.Goals as goal

pub returns-then-is_empty-clause-same : goal.returns-then-is_empty-clause-same
returns-then-is_empty-clause-same c =
    let d = c.args.rowset in
    let empty : c.args.file.list ≡ [] = sym (c.as_slice-records.ensures ∙ c.list.ensures.list) ∙ nil_from_length c.as_slice-records.result.now (eqb-true (length c.as_slice-records.result.now) 0 (sym c.is_empty.ensures ∙ c.if-is_empty.true)) in
    record {
      number = refl;
      store = ap (λ (l : List Delta). store_in (record d { fresh = l })) (c.requires.none ∙ sym empty);
      fresh = c.requires.none;
      lead = λ h. h;
    }

pub returns-clause-same : goal.returns-clause-same
returns-clause-same c =
    let old : RowSetData = record c.args.rowset { fresh = c.args.file.list } in
    let new : RowSetData = record c.args.rowset { redo = c.in_ok-redo.redo } in
    let fits = subst (λ (w : Way). FileFits w (2 ^ 32) c.args.file.list) c.requires.redo c.list.ensures.form in
    let records = c.as_slice-records.ensures ∙ c.list.ensures.list in
    let above = subst (λ (fs : List FileHeld). AreAbove fs old.fresh) c.as_slice.ensures (subst (AreAbove c.as_slice.result.now) records (OnTrue_at c.if-not-are_above.false c.are_above.ensures)) in
    let redo = c.in_ok-redo.ensures.lists ∙ ap (λ (l : List Delta). lists_of old.redo ++ l ∷ []) (ap (λ (v : FileView). v.list) c.in_ok-new_file.ensures.deltas) in
    deltas_rewritten old new (2 ^ 32) refl refl refl redo c.requires.none fits above (λ h. h)
