-- What cells keep to: the lists of cells that have a spelling.
use Rattle.std.specs.Prelude.{ℕ, ◌+◌, ◌^◌, ◌<◌, ◌≤◌, List, [], ◌∷◌, length, FitsSigned}
use Rattle.std.specs.Int.{w64}
use Rattle.kt_base.specs.declared.cell.Cell.{Cell}
use Rattle.kt_base.specs.declared.cell.Cell.TheVariants as cells
pub use Rattle.kt_bytes.specs.Reading.{EachAfter}

-- the value fits its field
abbrev pub CellFits : Cell → Type 0
CellFits cells.Null = Unit {0}
CellFits (cells.Bool b) = Unit {0}
CellFits (cells.Int n) = FitsSigned w64 n
CellFits (cells.Bytes bytes) = length bytes < 2 ^ 32

-- the least id above those of the cells
abbrev pub next_id : List (ℕ × Cell) → ℕ
next_id [] = 0
next_id (c ∷ []) = c.0 + 1
next_id (c ∷ d ∷ cells) = next_id (d ∷ cells)

-- its id is above those of the cells before it
pub record FollowingCell (front : List (ℕ × Cell)) (c : ℕ × Cell) : Type 0 where
  pub rising : next_id front ≤ c.0
  pub id : c.0 < 2 ^ 16
  pub cell : CellFits c.1

-- cells by rising id, fewer than their count can say
pub record CellListFits (cells : List (ℕ × Cell)) : Type 0 where
  pub count : length cells < 2 ^ 16
  pub each : EachAfter FollowingCell [] cells
