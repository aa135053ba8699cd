-- New disk rowsets as a superblock names them, behind the rowsets that it named before.
use Rattle.std.specs.Prelude.{◌≡◌, ◌≤◌, ◌+◌, ℕ, true, List, [], ◌++◌, map, length}
use Rattle.std.specs.List.{AllByRecursion}
use Rattle.kt_disk.specs.Disk.{Files}
use Rattle.kt_super.specs.declared.meta.MetaRowset.{MetaRowset}
use Rattle.kt_super.specs.Rowsets.{is_small, AreRowsets}
use Rattle.kt_files.specs.Named.{HasNamed}
use Rattle.kt_files.specs.Reading.{HoldAll}
use Rattle.kt_diskrowset.specs.declared.files.FileHeld.{FileHeld}
use Rattle.kt_diskrowset.specs.declared.data.RowSetData.{RowSetData}
use Rattle.kt_diskrowset.specs.Data.{held_in}
use Rattle.kt_outputs.specs.Outputs.{meta_in, all_file_numbers, CountUp, AreThere, AreWritten}

-- a superblock can spell the length of each file
abbrev pub AreShortFiles : List FileHeld → Type 0
AreShortFiles files = AllByRecursion (λ (f : FileHeld). is_small f.len ≡ true) files

pub record IsShort (d : RowSetData) : Type 0 where
  pub base : is_small d.base.len ≡ true
  pub undo : AreShortFiles d.undo
  pub redo : AreShortFiles d.redo

abbrev pub AreShort : List RowSetData → Type 0
AreShort rowsets = AllByRecursion (λ (d : RowSetData). IsShort d) rowsets

-- Rowsets that were written under the next numbers may stand behind those of a superblock, whose numbers all lie below.
abbrev pub outputs_come_behind : Type 0
outputs_come_behind = (rowsets : List MetaRowset) (next_rowset next_file rowset file rowset_later file_later : ℕ) (outputs done : List RowSetData)
    → AreRowsets next_rowset next_file 0 [] rowsets → AreRowsets rowset_later file_later 0 [] rowsets → next_rowset ≤ rowset → next_file ≤ file → 3 ≤ file
    → AreWritten rowset outputs done → rowset_later ≡ rowset + length outputs → CountUp file file_later (all_file_numbers done) → AreShort done
    → AreRowsets rowset_later file_later 0 [] (rowsets ++ map (meta_in 0) done)

-- Their files stand where the files of these numbers do, beside those that were named before.
abbrev pub outputs_stand : Type 0
outputs_stand = (rowsets : List MetaRowset) (file file_later : ℕ) (done : List RowSetData) (files c : Files)
    → CountUp file file_later (all_file_numbers done) → AreThere file file_later files c → HasNamed rowsets files c → HasNamed (rowsets ++ map (meta_in 0) done) files c

-- And rowsets that a superblock may name hold what they did, where all files below its next number stay as they were.
abbrev pub others_hold_beside_outputs : Type 0
others_hold_beside_outputs = (rowsets : List MetaRowset) (next_rowset next_file : ℕ) (done : List RowSetData) (files later : Files)
    → AreRowsets next_rowset next_file 0 [] (rowsets ++ map (meta_in 0) done) → AreThere 0 next_file files later
    → HoldAll files (map (meta_in 0) done) (map held_in done) → HoldAll later (map (meta_in 0) done) (map held_in done)
