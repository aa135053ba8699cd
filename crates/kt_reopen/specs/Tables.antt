-- The columns of a script and those of a superblock.
use Rattle.std.specs.Prelude.{◌≡◌, ◌≤◌, ◌+◌, ℕ, List, [], ◌∷◌, length, take, Option, Some, None, slice_get}
use Rattle.kt_schema.specs.declared.column.Column.{Column}
use Rattle.kt_super.specs.Columns.{AreColumns}

-- the columns as a first superblock names them: their ids are 1, 2, .. by position, and they have a spelling there
pub record IsTable (columns : List Column) : Type 0 where
  pub ids : (k : ℕ) (c : Column) → slice_get columns k ≡ Some c → c.id ≡ k + 1
  pub spelled : AreColumns (length columns + 1) [] columns

-- two columns are alike: they differ in their ids at most
abbrev pub AreLike : Column → Column → Type 0
AreLike c d = record c { id = d.id } ≡ d

abbrev pub AllAreLike : List Column → List Column → Type 0
AllAreLike [] [] = Unit {0}
AllAreLike [] (d ∷ others) = ⊥
AllAreLike (c ∷ columns) [] = ⊥
AllAreLike (c ∷ columns) (d ∷ others) = AreLike c d × AllAreLike columns others

-- they are not, or only one of them is there
abbrev pub Differ : Option Column → Option Column → Type 0
Differ None None = ⊥
Differ None (Some d) = Unit {0}
Differ (Some c) None = Unit {0}
Differ (Some c) (Some d) = ¬ AreLike c d

-- column number `at`, counted from 1, is the first in which two tables differ, or that only one of them has
pub record DifferFirst (columns others : List Column) (at : ℕ) : Type 0 where
  pub before : ℕ
  pub at_is : at ≡ before + 1
  pub long : (before ≤ length columns) × (before ≤ length others)
  pub alike : AllAreLike (take before columns) (take before others)
  pub here : Differ (slice_get columns before) (slice_get others before)
