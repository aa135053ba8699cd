-- Disk rowsets whose files are written are those that were merged, under other numbers.
use Rattle.std.proofs.Common.{◌≡◌, ℕ, suc, ◌^◌, Bool, ◌&&◌, List, [], ◌∷◌, map, Some, refl, sym, ap, ◌∙◌, subst}
use Rattle.kt_history.specs.declared.changes.Delta.{Delta}
use Rattle.kt_history.specs.Rows.{Rows}
use Rattle.kt_history.specs.Stores.{Hist}
use Rattle.kt_rowfiles.specs.Files.{DiskRowset, records_in, falling, hist_in_files}
use Rattle.kt_rowfiles.specs.Fitting.{steps_fit, rows_fit}
use Rattle.kt_content.specs.Rules.{Rules, RowsetPasses}
use Rattle.kt_diskrowset.specs.declared.files.FileHeld.{FileHeld}
use Rattle.kt_diskrowset.specs.declared.data.RowSetData.{RowSetData}
use Rattle.kt_diskrowset.specs.Data.{files_in, held_in}
use Rattle.kt_diskrowset.specs.Files.{as_files, lists_of}
use Rattle.kt_files.specs.Content.{records_of, rowset_in, rowsets_in}
use Rattle.kt_outputs.specs.Outputs.{meta_in}
use Rattle.kt_joblaws.specs.Written.{written_rowsets_are_the_same, written_rowsets_pass, named_rowsets_tell}

pub same_hists : written_rowsets_are_the_same
same_hists number [] [] q w = refl
same_hists number [] (d ∷ done) q w = absurd w
same_hists number (r ∷ outputs) [] q w = absurd w
same_hists number (r ∷ outputs) (d ∷ done) q w =
    ap (λ (h : Hist). h ∷ map (hist_in_files q) (map files_in done)) (ap (hist_in_files q) w.0) ∙ ap (λ (l : List Hist). hist_in_files q (files_in r) ∷ l) (same_hists (suc number) outputs done q w.2)

fit_still : (x : DiskRowset) (number n : ℕ) (rows : Rows) → rows_fit (record x { rowset = number }) n rows ≡ rows_fit x n rows
fit_still x number n [] = refl
fit_still x number n (r ∷ rows) = ap (λ (b : Bool). steps_fit (2 ^ 64) (falling (records_in n x.undos)) (Some r.1) && b) (fit_still x number (suc n) rows)

one_passes : (rules : Rules) (x : DiskRowset) (number : ℕ) → RowsetPasses rules x → RowsetPasses rules (record x { rowset = number })
one_passes rules x number p = record { base = p.base; undos = p.undos; redos = p.redos; fits = fit_still x number 0 x.base ∙ p.fits }

pub still_pass : written_rowsets_pass
still_pass rules number [] [] w p = tt
still_pass rules number [] (d ∷ done) w p = absurd w
still_pass rules number (r ∷ outputs) [] w p = absurd w
still_pass rules number (r ∷ outputs) (d ∷ done) w p = (subst (RowsetPasses rules) (sym w.0) (one_passes rules (files_in r) number p.0), still_pass rules (suc number) outputs done w.2 p.1)

lists_are : (files : List FileHeld) → map records_of (as_files files) ≡ lists_of files
lists_are [] = refl
lists_are (f ∷ files) = ap (λ (l : List (List Delta)). f.deltas.value.list ∷ l) (lists_are files)

one_tells : (d : RowSetData) → rowset_in (meta_in 0 d) (held_in d) ≡ files_in d
one_tells d = λ k. record (files_in d) { undos = lists_are d.undo k; redos = lists_are d.redo k }

pub they_tell_so : named_rowsets_tell
they_tell_so [] = refl
they_tell_so (d ∷ done) = ap (λ (x : DiskRowset). x ∷ rowsets_in (map (meta_in 0) done) (map held_in done)) (one_tells d) ∙ ap (λ (l : List DiskRowset). files_in d ∷ l) (they_tell_so done)
