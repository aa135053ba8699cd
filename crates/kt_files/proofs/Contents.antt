-- What a rowset's files tell, in two forms.
use Rattle.std.proofs.Common.{◌≡◌, List, [], ◌∷◌, map, refl, ap, ◌∙◌}
use Rattle.kt_history.specs.declared.changes.Delta.{Delta}
use Rattle.kt_rowfiles.specs.Files.{DiskRowset}
use Rattle.kt_diskrowset.specs.declared.files.FileHeld.{FileHeld}
use Rattle.kt_diskrowset.specs.Files.{as_files, lists_of}
use Rattle.kt_diskrowset.specs.Rows.{rows_of}
use Rattle.kt_files.specs.Content.{records_of}
use Rattle.kt_files.specs.Laws.{rowsets_tell_their_files}

lists_same : (files : List FileHeld) → map records_of (as_files files) ≡ lists_of files
lists_same [] = refl
lists_same (f ∷ files) = ap (λ (l : List (List Delta)). f.deltas.value.list ∷ l) (lists_same files)

pub tell_their_files : rowsets_tell_their_files
tell_their_files r d =
    let whole : List (List Delta) → List (List Delta) → DiskRowset = λ undos redos. record { rowset = d.number; last_dms = r.last_dms; base = rows_of d.base.set.value.rows; undos = undos; redos = redos } in
    ap (λ (l : List (List Delta)). whole l (map records_of (as_files d.redo))) (lists_same d.undo) ∙ ap (λ (l : List (List Delta)). whole (lists_of d.undo) l) (lists_same d.redo)
