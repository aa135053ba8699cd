-- What is written of new disk rowsets.
use Rattle.std.specs.Prelude.{◌≡◌, ◌≤◌, ◌<◌, ◌⊎◌, ℕ, suc, List, [], ◌∷◌, ◌++◌, map, length}
use Rattle.std.specs.List.{AllByRecursion, flat_map}
use Rattle.kt_disk.specs.Disk.{Files, LeavesOnly}
use Rattle.kt_super.specs.declared.meta.FileRef.{FileRef}
use Rattle.kt_super.specs.declared.meta.MetaRowset.{MetaRowset}
use Rattle.kt_deltafile.specs.declared.file.Way.{Way}
use Rattle.kt_deltafile.specs.declared.file.Way.TheVariants.{Redo, Undo}
use Rattle.kt_deltafile.specs.Rules.{FileFits}
use Rattle.kt_diskrowset.specs.declared.base.BaseHeld.{BaseHeld}
use Rattle.kt_diskrowset.specs.declared.files.FileHeld.{FileHeld}
use Rattle.kt_diskrowset.specs.declared.data.RowSetData.{RowSetData}
use Rattle.kt_diskrowset.specs.Data.{files_in}

-- ---- as a superblock names them

abbrev pub base_ref : BaseHeld → FileRef
base_ref b = record { file = b.file; len = b.len }

abbrev pub delta_ref : FileHeld → FileRef
delta_ref f = record { file = f.file; len = f.len }

-- a disk rowset whose files hold all DeltaMemStores up to a number
abbrev pub meta_in : ℕ → RowSetData → MetaRowset
meta_in last_dms d = record { rowset = d.number; last_dms = last_dms; base = base_ref d.base; undo = map delta_ref d.undo; redo = map delta_ref d.redo }

-- ---- the numbers of files

abbrev pub delta_numbers : List FileHeld → List ℕ
delta_numbers files = map (λ (f : FileHeld). f.file) files

-- of a disk rowset: its base file, its UNDO files and its REDO files
abbrev pub file_numbers : RowSetData → List ℕ
file_numbers d = d.base.file ∷ delta_numbers d.undo ++ delta_numbers d.redo

abbrev pub all_file_numbers : List RowSetData → List ℕ
all_file_numbers rowsets = flat_map file_numbers rowsets

-- each number from one up to another, in turn
abbrev pub CountUp : ℕ → ℕ → List ℕ → Type 0
CountUp first next [] = next ≡ first
CountUp first next (n ∷ numbers) = (n ≡ first) × CountUp (suc first) next numbers

-- ---- what a delta file is to have: the way that it is named for, and records of so many rows

pub record IsOfWay (way : Way) (rows : ℕ) (f : FileHeld) : Type 0 where
  pub way_is : f.deltas.value.way ≡ way
  pub fits : FileFits way rows f.deltas.value.list

abbrev pub AreOfWay : Way → ℕ → List FileHeld → Type 0
AreOfWay way rows files = AllByRecursion (λ (f : FileHeld). IsOfWay way rows f) files

-- the records of a disk rowset are of its rows
pub record IsWhole (d : RowSetData) : Type 0 where
  pub undo : AreOfWay Undo (length d.base.set.value.rows) d.undo
  pub redo : AreOfWay Redo (length d.base.set.value.rows) d.redo

abbrev pub AreWhole : List RowSetData → Type 0
AreWhole rowsets = AllByRecursion (λ (d : RowSetData). IsWhole d) rowsets

-- ---- the disk

-- the files from one number up to another are the same
abbrev pub AreThere : ℕ → ℕ → Files → Files → Type 0
AreThere first next files others = (n : ℕ) → first ≤ n → n < next → others n ≡ files n

-- all files but those of these numbers are as an image of the disk has them
pub record ButNumbers {D : Type 0} (now : D → ℕ) (leaves : D → ℕ → Files → Type 0) (disk : D) (first next : ℕ) (c : Files) : Type 0 where
  pub image : Files
  pub was_left : leaves disk (now disk) image
  pub others : (n : ℕ) → (n < first) ⊎ (next ≤ n) → c n ≡ image n

-- No file has changed but those of these numbers, as the disk reads and in what a crash leaves at any moment
pub record HasLeft {D : Type 0} (seen : D → Files) (now : D → ℕ) (leaves : D → ℕ → Files → Type 0) (first next : ℕ) (old new : D) : Type 0 where
  pub reads : (n : ℕ) → (n < first) ⊎ (next ≤ n) → seen new n ≡ seen old n
  pub any_moment : LeavesOnly now leaves (ButNumbers now leaves old first next) old new

-- a crash leaves the files of these numbers as the disk reads
abbrev pub AreStable : {D : Type 0} → (D → Files) → (D → ℕ) → (D → ℕ → Files → Type 0) → ℕ → ℕ → D → Type 0
AreStable seen now leaves first next disk = (c : Files) → leaves disk (now disk) c → AreThere first next (seen disk) c

-- ---- disk rowsets

-- each has the rows and the records of one of the others, under the next number, and no change in memory
abbrev pub AreWritten : ℕ → List RowSetData → List RowSetData → Type 0
AreWritten number [] [] = Unit {0}
AreWritten number [] (d ∷ ds) = ⊥
AreWritten number (r ∷ rs) [] = ⊥
AreWritten number (r ∷ rs) (d ∷ ds) = (files_in d ≡ record (files_in r) { rowset = number }) × (d.fresh ≡ []) × AreWritten (suc number) rs ds
