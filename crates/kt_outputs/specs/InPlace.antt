-- A disk rowset that was written again, as a superblock names it in the place of the one of its number.
use Rattle.std.specs.Prelude.{◌≡◌, ◌≤◌, ◌==◌, ◌⊎◌, ℕ, true, List, [], ◌∷◌, ◌++◌, map, Option, Some, None, if◌then◌else◌}
use Rattle.std.specs.List.{AllByRecursion}
use Rattle.kt_disk.specs.Disk.{Files}
use Rattle.kt_super.specs.declared.meta.FileRef.{FileRef}
use Rattle.kt_super.specs.declared.meta.MetaRowset.{MetaRowset}
use Rattle.kt_super.specs.Rowsets.{numbers_of, is_small, AreRowsets}
use Rattle.kt_files.specs.Named.{HasNamed}
use Rattle.kt_outputs.specs.Outputs.{CountUp, AreThere}

abbrev pub in_place : MetaRowset → List MetaRowset → List MetaRowset
in_place m rowsets = map (λ (x : MetaRowset). if x.rowset == m.rowset then m else x) rowsets

-- what a superblock says of a disk rowset
abbrev pub entry_of : ℕ → List MetaRowset → Option MetaRowset
entry_of number [] = None
entry_of number (m ∷ rowsets) = if m.rowset == number then Some m else entry_of number rowsets

-- of files that were named all are kept, or none, and others have come behind under the numbers from one up to another
pub record KeepsFiles (first next : ℕ) (old new : List FileRef) : Type 0 where
  pub kept : List FileRef
  pub more : List FileRef
  pub are : new ≡ kept ++ more
  pub all : (kept ≡ old) ⊎ (kept ≡ [])
  pub count : CountUp first next (numbers_of more)
  pub short : AllByRecursion (λ (f : FileRef). is_small f.len ≡ true) more

-- the base file, the UNDO files and the REDO files of a rowset
pub record KeepsRowset (first next : ℕ) (old new : MetaRowset) : Type 0 where
  pub number : new.rowset ≡ old.rowset
  pub undo_at : ℕ
  pub redo_at : ℕ
  pub base : KeepsFiles first undo_at (old.base ∷ []) (new.base ∷ [])
  pub undo : KeepsFiles undo_at redo_at old.undo new.undo
  pub redo : KeepsFiles redo_at next old.redo new.redo

-- Where the files that it does not keep have the next file numbers it may stand there.
abbrev pub a_rewritten_rowset_comes_in_place : Type 0
a_rewritten_rowset_comes_in_place = (rowsets : List MetaRowset) (next_rowset next_file file rowset_later file_later : ℕ) (old new : MetaRowset)
    → AreRowsets next_rowset next_file 0 [] rowsets → AreRowsets rowset_later file_later 0 [] rowsets → next_file ≤ file → 3 ≤ file
    → entry_of new.rowset rowsets ≡ Some old → KeepsRowset file file_later old new → is_small new.last_dms ≡ true → AreRowsets rowset_later file_later 0 [] (in_place new rowsets)

-- Its files stand where the files of these numbers do, beside those that were named before.
abbrev pub a_rewritten_rowset_stands_in_place : Type 0
a_rewritten_rowset_stands_in_place = (rowsets : List MetaRowset) (file file_later : ℕ) (old new : MetaRowset) (files c : Files)
    → entry_of new.rowset rowsets ≡ Some old → KeepsRowset file file_later old new → AreThere file file_later files c → HasNamed rowsets files c → HasNamed (in_place new rowsets) files c
