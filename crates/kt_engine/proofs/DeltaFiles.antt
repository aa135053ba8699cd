-- A disk rowset that was written, as the superblock of its job names it: in the place of the one of its number.
use Rattle.std.proofs.Common.{◌≡◌, ◌^◌, ℕ, suc, Bool, true, false, List, [], ◌∷◌, map, length, Option, Some, None, refl, sym, ap, ◌∙◌, subst, cond}
use Rattle.std.specs.Prelude.{◌==◌, ◌&&◌}
use Rattle.std.proofs.lemmas.List.{length-map}
use Rattle.kt_disk.specs.Disk.{Files}
use Rattle.kt_history.specs.declared.changes.Delta.{Delta}
use Rattle.kt_history.specs.Rows.{Row, Rows}
use Rattle.kt_history.specs.Stores.{hist_in}
use Rattle.kt_history.specs.Views.{AreRising}
use Rattle.kt_baseset.specs.declared.rows.KeyedRow.{KeyedRow}
use Rattle.kt_baseset.specs.Rows.{keys_in}
use Rattle.kt_deltafile.specs.declared.file.Way.{Way}
use Rattle.kt_deltafile.specs.File.{FileView}
use Rattle.kt_rowfiles.specs.Files.{DiskRowset, hist_in_files, row_under, row_with, records_for, records_in, falling}
use Rattle.kt_rowfiles.specs.Fitting.{undos_fit, rows_fit, steps_fit}
use Rattle.kt_super.specs.declared.meta.FileRef.{FileRef}
use Rattle.kt_super.specs.declared.meta.MetaRowset.{MetaRowset}
use Rattle.kt_diskrowset.specs.declared.data.RowSetData.{RowSetData}
use Rattle.kt_diskrowset.specs.declared.files.FileHeld.{FileHeld}
use Rattle.kt_diskrowset.specs.Data.{held_in, files_in, store_in}
use Rattle.kt_diskrowset.specs.Files.{lists_of, as_files}
use Rattle.kt_diskrowset.specs.Rows.{rows_of, store_with}
use Rattle.kt_diskrowset.specs.Rowset.{HeldFiles}
use Rattle.kt_files.specs.Content.{records_of, rowset_in, rowsets_in}
use Rattle.kt_files.specs.Reading.{HoldsRowset, HoldEach, HoldAll}
use Rattle.kt_outputs.specs.InPlace.{in_place}
use Rattle.kt_outputs.specs.Outputs.{meta_in}
use Rattle.kt_content.specs.DeltaFlushes.{replaced}
use Rattle.kt_joblaws.specs.DeltaJobs.{keys_under, AreFit}
use Rattle.kt_engine.proofs.Flushed.{bare_is}

-- ---- among the rowsets of a superblock

-- what their files hold then
abbrev pub held_in_place : MetaRowset → HeldFiles → List MetaRowset → List HeldFiles → List HeldFiles
held_in_place m h [] hs = hs
held_in_place m h (r ∷ rs) [] = []
held_in_place m h (r ∷ rs) (g ∷ hs) = cond (r.rowset == m.rowset) h g ∷ held_in_place m h rs hs

pub hold_in_place : (files : Files) (m : MetaRowset) (h : HeldFiles) (rs : List MetaRowset) (hs : List HeldFiles) → HoldsRowset files m h → HoldAll files rs hs → HoldAll files (in_place m rs) (held_in_place m h rs hs)
hold_in_place files m h [] [] own all = tt
hold_in_place files m h [] (g ∷ hs) own all = absurd all
hold_in_place files m h (r ∷ rs) [] own all = absurd all
hold_in_place files m h (r ∷ rs) (g ∷ hs) own all = (either (r.rowset == m.rowset), hold_in_place files m h rs hs own all.1)
  where
    either : (b : Bool) → HoldsRowset files (cond b m r) (cond b h g)
    either true = own
    either false = all.0

pub rowsets_in_place : (files : Files) (m : MetaRowset) (h : HeldFiles) (rs : List MetaRowset) (hs : List HeldFiles) → h.number ≡ m.rowset → HoldAll files rs hs
    → rowsets_in (in_place m rs) (held_in_place m h rs hs) ≡ replaced h.number (rowset_in m h) (rowsets_in rs hs)
rowsets_in_place files m h [] [] same all = refl
rowsets_in_place files m h [] (g ∷ hs) same all = absurd all
rowsets_in_place files m h (r ∷ rs) [] same all = absurd all
rowsets_in_place files m h (r ∷ rs) (g ∷ hs) same all =
    let test : (r.rowset == m.rowset) ≡ (g.number == h.number) = ap (λ (k : ℕ). k == m.rowset) (sym all.0.number) ∙ ap (λ (k : ℕ). g.number == k) (sym same) in
    either (r.rowset == m.rowset)
    ∙ ap (λ (b : Bool). cond b (rowset_in m h) (rowset_in r g) ∷ rowsets_in (in_place m rs) (held_in_place m h rs hs)) test
    ∙ ap (λ (l : List DiskRowset). cond (g.number == h.number) (rowset_in m h) (rowset_in r g) ∷ l) (rowsets_in_place files m h rs hs same all.1)
  where
    either : (b : Bool) → rowset_in (cond b m r) (cond b h g) ∷ rowsets_in (in_place m rs) (held_in_place m h rs hs) ≡ cond b (rowset_in m h) (rowset_in r g) ∷ rowsets_in (in_place m rs) (held_in_place m h rs hs)
    either true = refl
    either false = refl

-- ---- what it tells

lists_same : (files : List FileHeld) → map records_of (as_files files) ≡ lists_of files
lists_same [] = refl
lists_same (f ∷ files) = ap (λ (l : List (List Delta)). f.deltas.value.list ∷ l) (lists_same files)

-- with the last DeltaMemStore that its files hold
abbrev pub told_with : ℕ → RowSetData → DiskRowset
told_with dms d = record (files_in d) { last_dms = dms }

pub tells_it : (dms : ℕ) (d : RowSetData) → rowset_in (meta_in dms d) (held_in d) ≡ told_with dms d
tells_it dms d =
    ap (λ (l : List (List Delta)). let x : DiskRowset = record { rowset = d.number; last_dms = dms; base = rows_of d.base.set.value.rows; undos = l; redos = map records_of (as_files d.redo) } in x) (lists_same d.undo)
    ∙ ap (λ (l : List (List Delta)). let x : DiskRowset = record { rowset = d.number; last_dms = dms; base = rows_of d.base.set.value.rows; undos = lists_of d.undo; redos = l } in x) (lists_same d.redo)

with_same : (dms : ℕ) (d : DiskRowset) (o : Option (ℕ × Row)) → row_with (record d { last_dms = dms }) o ≡ row_with d o
with_same dms d None = refl
with_same dms d (Some found) = refl

-- where it has no change in memory, of each key that is what its store has
pub hist_told : (q : List ℕ) (dms : ℕ) (d : RowSetData) → d.fresh ≡ [] → hist_in q (store_in d) ≡ hist_in_files q (told_with dms d)
hist_told q dms d none =
    ap (λ (l : List Delta). hist_in q (store_with (files_in d) (λ n. records_for n l))) none ∙ bare_is q (files_in d) ∙ sym (with_same dms (files_in d) (row_under q 0 (files_in d).base))

fit_same : (dms : ℕ) (d : DiskRowset) (n : ℕ) (rows : Rows) → rows_fit (record d { last_dms = dms }) n rows ≡ rows_fit d n rows
fit_same dms d n [] = refl
fit_same dms d n (r ∷ rows) = ap (λ (b : Bool). steps_fit (2 ^ 64) (falling (records_in n d.undos)) (Some r.1) && b) (fit_same dms d (suc n) rows)

pub told_fits : (dms : ℕ) (d : RowSetData) → undos_fit (files_in d) ≡ true → undos_fit (told_with dms d) ≡ true
told_fits dms d fit = fit_same dms (files_in d) 0 (files_in d).base ∙ fit

keys_same : (rows : List KeyedRow) → keys_under (rows_of rows) ≡ keys_in rows
keys_same [] = refl
keys_same (r ∷ rows) = ap (λ (l : List (List ℕ)). r.key ∷ l) (keys_same rows)

pub told_rises : (dms : ℕ) (d : RowSetData) → AreRising (keys_in d.base.set.value.rows) → AreRising (keys_under (told_with dms d).base)
told_rises dms d rise = subst AreRising (sym (keys_same d.base.set.value.rows)) rise

fit_each : (files : Files) (way : Way) (rows : ℕ) (fs : List FileRef) (hs : List (ℕ × ℕ × FileView)) → HoldEach files way rows fs hs → AreFit way rows (map records_of hs)
fit_each files way rows [] [] h = tt
fit_each files way rows [] (g ∷ hs) h = absurd h
fit_each files way rows (f ∷ fs) [] h = absurd h
fit_each files way rows (f ∷ fs) (g ∷ hs) h = (h.0.fits, fit_each files way rows fs hs h.1)

pub told_fit : (files : Files) (way : Way) (fs : List FileRef) (d : RowSetData) (held : List FileHeld) → HoldEach files way (length d.base.set.value.rows) fs (as_files held) → AreFit way (length (rows_of d.base.set.value.rows)) (lists_of held)
told_fit files way fs d held h =
    subst (λ (n : ℕ). AreFit way n (lists_of held)) (sym (length-map d.base.set.value.rows (λ (r : KeyedRow). (r.key, r.cells))))
    (subst (AreFit way (length d.base.set.value.rows)) (lists_same held) (fit_each files way (length d.base.set.value.rows) fs (as_files held) h))
