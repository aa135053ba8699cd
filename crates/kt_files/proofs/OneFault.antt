-- Files that hold what a superblock says have no first fault.
use Rattle.std.proofs.Common.{◌≡◌, ℕ, Bool, true, false, List, [], ◌∷◌, ◌++◌, length, Result, Ok, Err, refl, sym, ap, ◌∙◌, subst, arith}
use Rattle.kt_disk.specs.Disk.{Files}
use Rattle.kt_super.specs.declared.meta.FileRef.{FileRef}
use Rattle.kt_super.specs.declared.meta.MetaRowset.{MetaRowset}
use Rattle.kt_baseset.specs.Tables.{BaseValue}
use Rattle.kt_history.specs.declared.changes.Delta.{Delta}
use Rattle.kt_bytes.proofs.Numbers.{IsBytes}
use Rattle.kt_baseset.proofs.OnePlace.{none_refused}
use Rattle.kt_deltafile.specs.declared.file.Way.{Way}
use Rattle.kt_deltafile.specs.declared.file.Way.TheVariants.{Redo, Undo}
use Rattle.kt_deltafile.specs.Rules.{FileFits}
use Rattle.kt_deltafile.specs.Spelling.{spelling}
use Rattle.kt_deltafile.specs.Reading.{file_at, whole_at, file_of}
use Rattle.kt_bytes.specs.Places.{IsFault}
use Rattle.kt_bytes.proofs.Whole.{told_place}
use Rattle.kt_deltafile.specs.Fields.{file_fields, Spelled}
use Rattle.kt_deltafile.proofs.Parts.{BodyFits, file_part}
use Rattle.kt_deltafile.proofs.Files.{file_again}
use Rattle.kt_deltafile.specs.File.{FileView}
use Rattle.kt_diskrowset.specs.Rowset.{HeldFiles}
use Rattle.kt_files.specs.Bytes.{IsFileFault, bytes_of}
use Rattle.kt_files.specs.Reading.{HoldsBase, HoldsDeltas, HoldEach, HoldsRowset, HoldAll, IsNoBase, IsNoDeltas, leads, other_way, IsListFault, IsRowsetFault, IsFirstFault}
use Rattle.kt_files.specs.Reading.IsRowsetFault.{in_base, in_undo, in_redo}
use Rattle.kt_files.specs.Reading.IsNoDeltas.{turned, no_file}
use Rattle.kt_files.specs.Bytes.IsFileFault.{short, inside}
use Rattle.kt_files.proofs.OneHolding.{base_one}

-- a delta file does not begin as one of the other way
leads_own : (way : Way) (list : List Delta) → leads (other_way way) (spelling way list) ≡ false
leads_own Redo list = refl
leads_own Undo list = refl

turned_not : (b : Bool) → b ≡ true → b ≡ false → ⊥
turned_not b h g = cc

not_both : {A : Type 0} (r : Result A ℕ) (a : A) (offset : ℕ) → r ≡ Ok a → r ≡ Err offset → ⊥
not_both r a offset p q = cc

-- the first fault of a delta file is told
fault_told : (rows : ℕ) (bytes : List ℕ) (offset : ℕ) → IsBytes bytes → IsFault (Spelled rows) bytes offset → file_of rows bytes ≡ Err offset
unfolding whole_at
fault_told rows bytes offset fits f = told_place (file_at rows) file_fields (BodyFits rows) (file_part rows) bytes offset fits f

-- what is read of files whose bytes are bytes
module _ (files : Files) (are : (f : FileRef) → IsBytes (bytes_of files f)) where
  whole_base : (f : FileRef) (held : ℕ × ℕ × BaseValue) (offset : ℕ) → HoldsBase files f held → IsNoBase (bytes_of files f) offset → ⊥
  whole_base f held offset h bad = none_refused (bytes_of files f) bad.left held.2.schema held.2.rows (are f) bad.fault h.spelled

  again : (way : Way) (rows : ℕ) (f : FileRef) (held : ℕ × ℕ × FileView) → HoldsDeltas files way rows f held → file_of rows (bytes_of files f) ≡ Ok held.2
  again way rows f held h = ap (file_of rows) (h.spelled ∙ ap (λ w. spelling w held.2.list) (sym h.way_is)) ∙ file_again rows held.2 (subst (λ w. FileFits w rows held.2.list) (sym h.way_is) h.fits)

  whole_deltas : (way : Way) (rows : ℕ) (f : FileRef) (held : ℕ × ℕ × FileView) (offset : ℕ) → HoldsDeltas files way rows f held → IsNoDeltas way rows (bytes_of files f) offset → ⊥
  whole_deltas way rows f held offset h (turned leads_it at) = turned_not (leads (other_way way) (bytes_of files f)) leads_it (ap (leads (other_way way)) h.spelled ∙ leads_own way held.2.list)
  whole_deltas way rows f held offset h (no_file leads_not fault) = not_both (file_of rows (bytes_of files f)) held.2 offset (again way rows f held h) (fault_told rows (bytes_of files f) offset (are f) fault)

  base_stands : (f : FileRef) (held : ℕ × ℕ × BaseValue) (offset : ℕ) → HoldsBase files f held → IsFileFault files f IsNoBase offset → ⊥
  base_stands f held offset h (short end) = absurd (omega (arith, h.there, end.short))
  base_stands f held offset h (inside there fault) = whole_base f held offset h fault

  deltas_stand : (way : Way) (rows : ℕ) (f : FileRef) (held : ℕ × ℕ × FileView) (offset : ℕ) → HoldsDeltas files way rows f held → IsFileFault files f (IsNoDeltas way rows) offset → ⊥
  deltas_stand way rows f held offset h (short end) = absurd (omega (arith, h.there, end.short))
  deltas_stand way rows f held offset h (inside there fault) = whole_deltas way rows f held offset h fault

  -- what some files hold, each holds
  file_among : (way : Way) (rows : ℕ) (front : List FileRef) (next : FileRef) (behind : List FileRef) (held : List (ℕ × ℕ × FileView)) → HoldEach files way rows (front ++ next ∷ behind) held
      → (h : ℕ × ℕ × FileView) × HoldsDeltas files way rows next h
  file_among way rows [] next behind [] all = absurd all
  file_among way rows [] next behind (h ∷ held) all = (h, all.0)
  file_among way rows (f ∷ front) next behind [] all = absurd all
  file_among way rows (f ∷ front) next behind (h ∷ held) all = file_among way rows front next behind held all.1

  list_stands : (way : Way) (rows : ℕ) (list : List FileRef) (held : List (ℕ × ℕ × FileView)) (file offset : ℕ) → HoldEach files way rows list held → IsListFault files way rows list file offset → ⊥
  list_stands way rows list held file offset all at =
      let one = file_among way rows at.front at.next at.behind held (subst (λ (fs : List FileRef). HoldEach files way rows fs held) at.parts all) in
      deltas_stand way rows at.next one.0 offset one.1 at.fault

  rowset_stands : (r : MetaRowset) (held : HeldFiles) (file offset : ℕ) → HoldsRowset files r held → IsRowsetFault files r file offset → ⊥
  rowset_stands r held file offset h (in_base is fault) = base_stands r.base held.base offset h.base fault
  rowset_stands r held file offset h (in_undo other base fault) =
      let same = base_one files r.base other held.base base h.base in
      list_stands Undo (length held.base.2.rows) r.undo held.undos file offset h.undos (subst (λ (b : ℕ × ℕ × BaseValue). IsListFault files Undo (length b.2.rows) r.undo file offset) same fault)
  rowset_stands r held file offset h (in_redo other base undos stand fault) =
      let same = base_one files r.base other held.base base h.base in
      list_stands Redo (length held.base.2.rows) r.redo held.redos file offset h.redos (subst (λ (b : ℕ × ℕ × BaseValue). IsListFault files Redo (length b.2.rows) r.redo file offset) same fault)

  rowset_among : (front : List MetaRowset) (next : MetaRowset) (behind : List MetaRowset) (held : List HeldFiles) → HoldAll files (front ++ next ∷ behind) held → (h : HeldFiles) × HoldsRowset files next h
  rowset_among [] next behind [] all = absurd all
  rowset_among [] next behind (h ∷ held) all = (h, all.0)
  rowset_among (r ∷ front) next behind [] all = absurd all
  rowset_among (r ∷ front) next behind (h ∷ held) all = rowset_among front next behind held all.1

  pub none_at_fault : (rowsets : List MetaRowset) (held : List HeldFiles) (file offset : ℕ) → HoldAll files rowsets held → IsFirstFault files rowsets file offset → ⊥
  none_at_fault rowsets held file offset all at =
      let one = rowset_among at.front at.next at.behind held (subst (λ (rs : List MetaRowset). HoldAll files rs held) at.parts all) in
      rowset_stands at.next one.0 file offset one.1 at.fault
