-- The files that a superblock names, and what a disk keeps beside them.
use Rattle.std.specs.Prelude.{◌≡◌, ℕ, Bool, true, ◌==◌, ◌||◌, List, [], ◌∷◌, ◌++◌, map}
use Rattle.kt_disk.specs.Disk.{Files, Gone}
use Rattle.kt_super.specs.declared.meta.FileRef.{FileRef}
use Rattle.kt_super.specs.declared.meta.MetaRowset.{MetaRowset}
use Rattle.kt_baseset.specs.Tables.{BaseValue}
use Rattle.kt_deltafile.specs.File.{FileView}
use Rattle.kt_diskrowset.specs.Rowset.{HeldFiles}
use Rattle.kt_super.specs.Rowsets.{has, numbers_of}

-- the files of a disk rowset: its base file, its UNDO files and its REDO files
abbrev pub named_by : MetaRowset → List ℕ
named_by r = r.base.file ∷ (numbers_of r.undo ++ numbers_of r.redo)

abbrev pub named_in : List MetaRowset → List ℕ
named_in [] = []
named_in (r ∷ rowsets) = named_by r ++ named_in rowsets

-- an image has these files as others have them
abbrev pub HasNamed : List MetaRowset → Files → Files → Type 0
HasNamed rowsets files c = (n : ℕ) → has (named_in rowsets) n ≡ true → c n ≡ files n

-- whether a file is a slot of the superblock, or one of these
abbrev pub is_kept : List ℕ → ℕ → Bool
is_kept named n = (n == 1) || ((n == 2) || has named n)

-- Some files are gone from an image of the disk, but neither a slot nor one of these. Nothing else has changed.
pub record Spares {D : Type 0} (now : D → ℕ) (leaves : D → ℕ → Files → Type 0) (disk : D) (named : List ℕ) (c : Files) : Type 0 where
  pub image : Files
  pub was_left : leaves disk (now disk) image
  pub kept : (n : ℕ) → is_kept named n ≡ true → c n ≡ image n
  pub others : (n : ℕ) → Gone (image n) (c n)

-- ---- files as a superblock names them

abbrev pub base_named : ℕ × ℕ × BaseValue → FileRef
base_named b = record { file = b.0; len = b.1 }

abbrev pub delta_named : ℕ × ℕ × FileView → FileRef
delta_named f = record { file = f.0; len = f.1 }

abbrev pub deltas_named : List (ℕ × ℕ × FileView) → List FileRef
deltas_named files = map delta_named files

-- those of a disk rowset, which hold all DeltaMemStores up to a number
abbrev pub named_as : ℕ → HeldFiles → MetaRowset
named_as last_dms h = record { rowset = h.number; last_dms = last_dms; base = base_named h.base; undo = deltas_named h.undos; redo = deltas_named h.redos }

-- a superblock names these files
abbrev pub Names : MetaRowset → HeldFiles → Type 0
Names r h = named_as r.last_dms h ≡ r

abbrev pub AreNamed : List MetaRowset → List HeldFiles → Type 0
AreNamed [] [] = Unit {0}
AreNamed [] (h ∷ hs) = ⊥
AreNamed (r ∷ rs) [] = ⊥
AreNamed (r ∷ rs) (h ∷ hs) = Names r h × AreNamed rs hs
