-- A disk rowset that is written again: files that have a number are kept, and the others, whose number is 0, get the next numbers.
use Rattle.std.specs.Prelude.{◌≡◌, ◌≢◌, ◌⊎◌, ℕ, suc, true, List, [], ◌∷◌, length}
use Rattle.std.specs.List.{AllByRecursion}
use Rattle.kt_disk.specs.Disk.{Files}
use Rattle.kt_super.specs.Rowsets.{is_small}
use Rattle.kt_deltafile.specs.declared.file.Way.{Way}
use Rattle.kt_deltafile.specs.declared.file.Way.TheVariants.{Redo, Undo}
use Rattle.kt_diskrowset.specs.declared.files.FileHeld.{FileHeld}
use Rattle.kt_diskrowset.specs.declared.data.RowSetData.{RowSetData}
use Rattle.kt_diskrowset.specs.Files.{as_file}
use Rattle.kt_diskrowset.specs.Rowset.{HeldFiles}
use Rattle.kt_files.specs.Held.{base_in}
use Rattle.kt_files.specs.Reading.{HoldsBase, HoldsDeltas}
use Rattle.kt_outputs.specs.Outputs.{base_ref, delta_ref}

-- a file is its number, its length and what it holds: it stays as it is
abbrev pub IsKept : {V : Type 0} → ℕ × ℕ × V → ℕ × ℕ × V → Type 0
IsKept f g = (f.0 ≢ 0) × (g ≡ f)

-- or it gets this number, and a length that a superblock can spell
pub record IsNumbered {V : Type 0} (n : ℕ) (f g : ℕ × ℕ × V) : Type 0 where
  pub none : f.0 ≡ 0
  pub number : g.0 ≡ n
  pub short : is_small g.1 ≡ true
  pub same : g.2 ≡ f.2

-- each of these files, with the numbers from one up to another
abbrev pub AreNumbered : {V : Type 0} → ℕ → ℕ → List (ℕ × ℕ × V) → List (ℕ × ℕ × V) → Type 0
AreNumbered first next [] [] = next ≡ first
AreNumbered first next [] (g ∷ gs) = ⊥
AreNumbered first next (f ∷ fs) [] = ⊥
AreNumbered first next (f ∷ fs) (g ∷ gs) = (IsKept f g × AreNumbered first next fs gs) ⊎ (IsNumbered first f g × AreNumbered (suc first) next fs gs)

-- those of a disk rowset: its base file, then its UNDO files, then its REDO files
pub record HasNumbers (first next : ℕ) (old new : HeldFiles) : Type 0 where
  pub number : new.number ≡ old.number
  pub undo_at : ℕ
  pub redo_at : ℕ
  pub base : AreNumbered first undo_at (old.base ∷ []) (new.base ∷ [])
  pub undo : AreNumbered undo_at redo_at old.undos new.undos
  pub redo : AreNumbered redo_at next old.redos new.redos

-- files that have a number hold what they are to hold
abbrev pub EachStands : Files → Way → ℕ → List FileHeld → Type 0
EachStands files way rows list = AllByRecursion (λ (f : FileHeld). f.file ≢ 0 → HoldsDeltas files way rows (delta_ref f) (as_file f)) list

pub record KeptStand (files : Files) (d : RowSetData) : Type 0 where
  pub base : d.base.file ≢ 0 → HoldsBase files (base_ref d.base) (base_in d.base)
  pub undo : EachStands files Undo (length d.base.set.value.rows) d.undo
  pub redo : EachStands files Redo (length d.base.set.value.rows) d.redo
