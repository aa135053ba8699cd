-- A disk rowset whose files are written anew.
use Rattle.std.specs.Prelude.{◌≡◌, ◌<◌, ◌≤◌, ℕ, List, [], ◌∷◌, ◌++◌, length, Some}
use Rattle.std.specs.List.{AllByRecursion}
use Rattle.kt_history.specs.declared.change.Change.TheVariants.{Del}
use Rattle.kt_history.specs.declared.changes.Delta.{Delta}
use Rattle.kt_history.specs.Rows.{Row}
use Rattle.kt_history.specs.Stores.{Steps, Under, hist_in}
use Rattle.kt_histlaws.specs.Disks.{DiskRow}
use Rattle.kt_histlaws.specs.Fitting.{Rises}
use Rattle.kt_baseset.specs.declared.schema.ColumnShape.{ColumnShape}
use Rattle.kt_baseset.specs.Rows.{keys_in}
use Rattle.kt_baseset.specs.Tables.{BaseValue, cells_in}
use Rattle.kt_rowfiles.specs.Flushing.{AllUndone, InOrderAt}
use Rattle.kt_rowfiles.specs.Files.{DiskRowset, records_in}
use Rattle.kt_diskrowset.specs.declared.data.RowSetData.{RowSetData}
use Rattle.kt_diskrowset.specs.declared.files.FileHeld.{FileHeld}
use Rattle.kt_diskrowset.specs.Data.{files_in, store_in}
use Rattle.kt_diskrowset.specs.Files.{lists_of}
use Rattle.kt_diskrowset.specs.Rows.{UndosLeadBack}
use Rattle.kt_diskrowset.specs.Rowset.{HeldFiles}
use Rattle.kt_deltafile.specs.File.{FileView}
use Rattle.kt_merge.specs.Folding.{row_folded}
use Rattle.kt_merge.specs.Major.{redos_at, row_at, IsHeld}
use Rattle.kt_merge.specs.declared.folding.Folded.{Folded}

-- It has no change in memory, and tells exactly the same
pub record IsRewritten (old new : RowSetData) : Type 0 where
  pub number : new.number ≡ old.number
  pub store : store_in new ≡ store_in old
  pub fresh : new.fresh ≡ []
  pub lead : UndosLeadBack (files_in old) → UndosLeadBack (files_in new)

-- it has at most one REDO file
abbrev pub HasAtMostOneRedo : DiskRowset → Type 0
HasAtMostOneRedo d = length d.redos ≤ 1

-- records are deletes only
abbrev pub AreDeletes : List Delta → Type 0
AreDeletes records = AllByRecursion (λ (d : Delta). d.change ≡ Del) records

-- it has at most one REDO file, with deletes only
pub record HasDeletesOnly (d : DiskRowset) : Type 0 where
  pub one : HasAtMostOneRedo d
  pub deletes : AllByRecursion AreDeletes d.redos

-- the changes of each key stand in the order of their times, wherever a mark is drawn
abbrev pub TellsInOrder : RowSetData → Type 0
TellsInOrder d = (q : List ℕ) (j : ℕ) → InOrderAt j (hist_in q (store_in d)).steps

-- ---- what is left of its files. Those that are not written yet have the number 0

abbrev pub AreUnwritten : List (ℕ × ℕ × FileView) → Type 0
AreUnwritten files = AllByRecursion (λ (f : ℕ × ℕ × FileView). f.0 ≡ 0) files

-- files stay, and one more at most comes behind
pub record AddsFile (old new : List (ℕ × ℕ × FileView)) : Type 0 where
  pub more : List (ℕ × ℕ × FileView)
  pub are : new ≡ old ++ more
  pub few : length more ≤ 1
  pub unwritten : AreUnwritten more

-- one file at most has come in the place of all
pub record IsOneFile (new : List (ℕ × ℕ × FileView)) : Type 0 where
  pub few : length new ≤ 1
  pub unwritten : AreUnwritten new

-- changes in memory are a REDO file
pub record AddsRedo (old new : HeldFiles) : Type 0 where
  pub base : new.base ≡ old.base
  pub undos : new.undos ≡ old.undos
  pub redos : AddsFile old.redos new.redos

-- the REDO files are one
pub record MergesRedos (old new : HeldFiles) : Type 0 where
  pub base : new.base ≡ old.base
  pub undos : new.undos ≡ old.undos
  pub redos : IsOneFile new.redos

-- they are folded into the base file
pub record FoldsRedos (old new : HeldFiles) : Type 0 where
  pub base : new.base.0 ≡ 0
  pub undos : AddsFile old.undos new.undos
  pub redos : IsOneFile new.redos

-- each of these records lies above those of its row in files
abbrev pub AreAbove : List FileHeld → List Delta → Type 0
AreAbove files records = AllByRecursion (λ (d : Delta). Under d.ts (records_in d.ordinal (lists_of files))) records

-- ---- folding

-- changes lie below the first of others, if these have one
abbrev pub LieBelow : Steps → Steps → Type 0
LieBelow older [] = Unit {0}
LieBelow older (c ∷ redos) = Under c.0 older

-- changes fold into a row, to one that files can hold
pub record FoldsTo (columns : List ColumnShape) (base : Row) (redos : Steps) : Type 0 where
  pub row : DiskRow
  pub is : row_folded 0 base redos ≡ Some row
  pub held : IsHeld columns row

-- and their row tells the same then: they rise, each can be undone, and the older ones lie below
pub record Folds (columns : List ColumnShape) (older redos : Steps) (base : Row) : Type 0 where
  pub to : FoldsTo columns base redos
  pub rises : Rises 0 redos
  pub undone : AllUndone redos (Some base)
  pub below : LieBelow older redos

-- those of each row do
abbrev pub AllFold : BaseValue → List FileHeld → List FileHeld → Type 0
AllFold base undo redo = (n : ℕ) → n < length base.rows → Folds base.schema (records_in n (lists_of undo)) (redos_at n redo) (cells_in base.rows n)

-- each row is folded, and has its key
pub record IsFoldedWhole (base : BaseValue) (undo redo : List FileHeld) (f : Folded) : Type 0 where
  pub keys : keys_in f.base.rows ≡ keys_in base.rows
  pub fold : AllFold base undo redo
  pub rows : (n : ℕ) (low : n < length base.rows) → row_at n f ≡ (fold n low).to.row
