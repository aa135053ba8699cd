-- Disk rowsets whose new files get the next numbers, in turn: behind those that a superblock names, where they stood before without these files.
use Rattle.std.specs.Prelude.{◌≡◌, ◌≤◌, ℕ, List, [], ◌∷◌, ◌++◌, map}
use Rattle.std.specs.List.{AllByRecursion}
use Rattle.kt_disk.specs.Disk.{Files}
use Rattle.kt_super.specs.Rowsets.{AreRowsets}
use Rattle.kt_super.specs.declared.meta.MetaRowset.{MetaRowset}
use Rattle.kt_files.specs.Named.{HasNamed}
use Rattle.kt_files.specs.Reading.{HoldAll}
use Rattle.kt_diskrowset.specs.declared.data.RowSetData.{RowSetData}
use Rattle.kt_deltafile.specs.File.{FileView}
use Rattle.kt_diskrowset.specs.Rowset.{HeldFiles}
use Rattle.kt_diskrowset.specs.Data.{files_in, held_in}
use Rattle.kt_outputs.specs.Outputs.{meta_in, AreThere}
use Rattle.kt_outputs.specs.Rewriting.{HasNumbers, KeptStand}

-- each has the rows and the records of the one in its place, and no change in memory
abbrev pub AreAgain : List RowSetData → List RowSetData → Type 0
AreAgain [] [] = Unit {0}
AreAgain [] (d ∷ ds) = ⊥
AreAgain (r ∷ rs) [] = ⊥
AreAgain (r ∷ rs) (d ∷ ds) = (files_in d ≡ files_in r) × (d.fresh ≡ []) × AreAgain rs ds

-- and the numbers from one up to another go to its files that had none
abbrev pub AllNumbered : ℕ → ℕ → List RowSetData → List RowSetData → Type 0
AllNumbered first next [] [] = next ≡ first
AllNumbered first next [] (d ∷ ds) = ⊥
AllNumbered first next (r ∷ rs) [] = ⊥
AllNumbered first next (r ∷ rs) (d ∷ ds) = (at : ℕ) × HasNumbers first at (held_in r) (held_in d) × AllNumbered at next rs ds

-- the files that have a number hold what they are to hold
abbrev pub AllKeptStand : Files → List RowSetData → Type 0
AllKeptStand files rowsets = AllByRecursion (λ (d : RowSetData). KeptStand files d) rowsets

-- A disk rowset with REDO files more, which have no number yet: all else stays
pub record AddsLate (old late : HeldFiles) : Type 0 where
  pub more : List (ℕ × ℕ × FileView)
  pub are : late ≡ record old { redos = old.redos ++ more }
  pub unwritten : AllByRecursion (λ (f : ℕ × ℕ × FileView). f.0 ≡ 0) more

-- and several, each in its place
abbrev pub AllAddLate : List RowSetData → List RowSetData → Type 0
AllAddLate [] [] = Unit {0}
AllAddLate [] (d ∷ ds) = ⊥
AllAddLate (r ∷ rs) [] = ⊥
AllAddLate (r ∷ rs) (d ∷ ds) = AddsLate (held_in r) (held_in d) × AllAddLate rs ds

-- Where a superblock may name the rowsets without these files behind others, it may name them with these,
abbrev pub late_files_may_be_named : Type 0
late_files_may_be_named = (rowsets : List MetaRowset) (next_rowset file file_later : ℕ) (olds lates news : List RowSetData)
    → AreRowsets next_rowset file 0 [] (rowsets ++ map (meta_in 0) olds) → 3 ≤ file → AllAddLate olds lates → AllNumbered file file_later lates news
    → AreRowsets next_rowset file_later 0 [] (rowsets ++ map (meta_in 0) news)

-- and they stand where the files of the new numbers do.
abbrev pub late_files_stand : Type 0
late_files_stand = (rowsets : List MetaRowset) (file file_later : ℕ) (olds lates news : List RowSetData) (files c : Files)
    → AllAddLate olds lates → AllNumbered file file_later lates news → AreThere file file_later files c
    → HasNamed (rowsets ++ map (meta_in 0) olds) files c → HasNamed (rowsets ++ map (meta_in 0) news) files c

-- Before they are written the others hold what they are to hold, where they did.
abbrev pub others_hold_beside_late_files : Type 0
others_hold_beside_late_files = (files : Files) (olds lates : List RowSetData) → AllAddLate olds lates → HoldAll files (map (meta_in 0) olds) (map held_in olds) → AllKeptStand files lates
