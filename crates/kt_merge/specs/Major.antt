-- REDO records that are folded into the base rows.
use Rattle.std.specs.Prelude.{◌≡◌, ◌≤◌, ◌<◌, ◌^◌, ◌+◌, ℕ, zero, suc, List, [], ◌∷◌, ◌++◌, length, Option, Some, None, IfSome}
use Rattle.std.specs.List.{AllByRecursion, Contains}
use Rattle.kt_history.specs.declared.change.Change.TheVariants.{Del}
use Rattle.kt_history.specs.declared.changes.Delta.{Delta}
use Rattle.kt_history.specs.Rows.{Row, Rows}
use Rattle.kt_history.specs.Stores.{Steps, Under}
use Rattle.kt_histlaws.specs.Disks.{DiskRow}
use Rattle.kt_histlaws.specs.Fitting.{Rises}
use Rattle.kt_baseset.specs.declared.schema.ColumnShape.{ColumnShape}
use Rattle.kt_baseset.specs.Rows.{RowFits, keys_in}
use Rattle.kt_baseset.specs.Tables.{BaseValue, cells_in}
use Rattle.kt_deltafile.specs.File.{FileView}
use Rattle.kt_rowfiles.specs.Files.{DiskRowset, records_for, records_in, rising, hist_in_files}
use Rattle.kt_rowfiles.specs.Flushing.{AllUndone}
use Rattle.kt_diskrowset.specs.declared.files.FileHeld.{FileHeld}
use Rattle.kt_diskrowset.specs.Files.{lists_of}
use Rattle.kt_merge.specs.Folding.{row_folded}
use Rattle.kt_merge.specs.Minor.{held_records}
use Rattle.kt_merge.specs.OneKey.{UndosFitFile}
use Rattle.kt_merge.specs.declared.folding.Folded.{Folded}
use Rattle.kt_merge.specs.declared.output.Growing.{Growing}

-- the records of a file, if there is one
abbrev pub records_of : Option FileView → List Delta
records_of None = []
records_of (Some file) = file.list

-- a row of the new files
abbrev pub row_at : ℕ → Folded → DiskRow
row_at n f = record { base = cells_in f.base.rows n; undos = records_for n (records_of f.undo); redos = records_for n (records_of f.redo) }

-- the REDO records of a row in files
abbrev pub redos_at : ℕ → List FileHeld → Steps
redos_at n files = rising (records_in n (lists_of files))

-- timestamps fall, below 2^64
abbrev pub Falls : ℕ → Steps → Type 0
Falls top [] = Unit {0}
Falls top (u ∷ undos) = (u.0 < top) × Falls u.0 undos

-- files can hold a row with its records
pub record IsHeld (columns : List ColumnShape) (d : DiskRow) : Type 0 where
  pub cells : RowFits columns d.base
  pub fit : UndosFitFile d.undos
  pub fall : Falls (2 ^ 64) d.undos

-- a delete that is a record of these files
abbrev pub IsOldDelete : List FileHeld → Delta → Type 0
IsOldDelete redo d = (d.change ≡ Del) × Contains (held_records redo) d

-- The same keys and columns; a file is there where it has a record, and REDO records are deletes of the old files
pub record IsFolded (base : BaseValue) (files : List FileHeld) (f : Folded) : Type 0 where
  pub keys : keys_in f.base.rows ≡ keys_in base.rows
  pub columns : f.base.schema ≡ base.schema
  pub undo : IfSome f.undo (λ file. 0 < length file.list)
  pub redo : IfSome f.redo (λ file. 0 < length file.list)
  pub deletes : AllByRecursion (IsOldDelete files) (records_of f.redo)

-- each row whose records fold to one that files can hold is that one
abbrev pub AreFolded : ℕ → BaseValue → List FileHeld → Folded → Type 0
AreFolded mark base redo f = (n : ℕ) (d : DiskRow) → n < length base.rows → row_folded mark (cells_in base.rows n) (redos_at n redo) ≡ Some d → IsHeld base.schema d → row_at n f ≡ d

-- ---- on the way

-- a row of those that are written so far
abbrev pub row_so_far : ℕ → Growing → DiskRow
row_so_far n g = record { base = cells_in g.rows.items n; undos = records_for n g.undos.items; redos = records_for n g.redos.items }

-- each of the first rows whose records fold to one that files can hold is that one
abbrev pub AreFoldedTo : ℕ → ℕ → BaseValue → List FileHeld → Growing → Type 0
AreFoldedTo k mark base redo g = (n : ℕ) (d : DiskRow) → n < k → row_folded mark (cells_in base.rows n) (redos_at n redo) ≡ Some d → IsHeld base.schema d → row_so_far n g ≡ d

-- how many REDO records so many rows have, from n on
abbrev pub redos_from : ℕ → ℕ → List FileHeld → ℕ
redos_from n zero files = 0
redos_from n (suc k) files = length (redos_at n files) + redos_from (suc n) k files

-- ---- what folded files tell

-- no timestamp is below one
abbrev pub AllFrom : ℕ → Steps → Type 0
AllFrom low [] = Unit {0}
AllFrom low (c ∷ steps) = (low ≤ c.0) × AllFrom low steps

-- A row with its REDO records folded in: its older UNDO records lie below these, which rise above the mark and can be undone
pub record FoldsRow (mark : ℕ) (older redos : Steps) (old new : Row) (undos deletes : Steps) : Type 0 where
  pub low : ℕ
  pub under : Under low older
  pub from_ : AllFrom low redos
  pub rises : Rises mark redos
  pub undone : AllUndone redos (Some old)
  pub is : row_folded mark old redos ≡ Some (record { base = new; undos = undos; redos = deletes })

-- and each row, counted from n, of which the new UNDO and REDO records are these
abbrev pub FoldsEach : ℕ → DiskRowset → List Delta → List Delta → ℕ → Rows → Rows → Type 0
FoldsEach mark d undo redo n [] [] = Unit {0}
FoldsEach mark d undo redo n [] (s ∷ news) = ⊥
FoldsEach mark d undo redo n (r ∷ rows) [] = ⊥
FoldsEach mark d undo redo n (r ∷ rows) (s ∷ news) = (r.0 ≡ s.0) × FoldsRow mark (records_in n d.undos) (rising (records_in n d.redos)) r.1 s.1 (records_for n undo) (records_for n redo) × FoldsEach mark d undo redo (suc n) rows news

-- the rowset with the new base file, the new UNDO file beside the older ones, and the REDO file of deletes in place of all
abbrev pub with_folded : DiskRowset → Rows → List Delta → List Delta → DiskRowset
with_folded d base undo redo = record d { base = base; undos = d.undos ++ undo ∷ []; redos = redo ∷ [] }

-- tells the same history of each key
abbrev pub a_folded_rowset_tells_the_same : Type 0
a_folded_rowset_tells_the_same = (mark : ℕ) (d : DiskRowset) (base : Rows) (undo redo : List Delta) → FoldsEach mark d undo redo 0 d.base base
    → (q : List ℕ) → hist_in_files q (with_folded d base undo redo) ≡ hist_in_files q d
