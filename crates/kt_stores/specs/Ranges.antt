-- The ranges of the keys of disk rowsets.
use Rattle.std.specs.Prelude.{ℕ, ◌≤◌, List, map, length}
use Rattle.std.specs.List.{AllByRecursion}
use Rattle.std.specs.List.Sorted.{IsPermutation}
use Rattle.kt_diskrowset.specs.Held.{keys_held, ends_held}
use Rattle.kt_diskrowset.specs.Rowset.{HeldFiles}
use Rattle.kt_history.specs.Views.{AreRising}
use Rattle.kt_rowtree.specs.Ranges.{Tree, placed}
use Rattle.kt_rowtree.specs.declared.lists.Range.{Range}

-- disk rowsets as callers see them: in their order, and how many there is room for
pub record Listed (R : Type 0) : Type 0 where
  pub items : List R
  pub room : ℕ

-- the range of the keys of each, numbered by its place
abbrev pub ranges_of : List HeldFiles → List Range
ranges_of files = placed 0 (map ends_held files)

-- the keys of each rise
abbrev pub KeysRise : List HeldFiles → Type 0
KeysRise files = AllByRecursion (λ (h : HeldFiles). AreRising (keys_held h)) files

-- a tree has their ranges, and room for them
pub record AreRanged (files : List HeldFiles) (tree : Tree) : Type 0 where
  pub rise : KeysRise files
  pub all : IsPermutation (ranges_of files) tree.ranges
  pub few : length files ≤ tree.room
