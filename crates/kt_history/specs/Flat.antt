-- Cells whose texts stand in a list of their own.
use Rattle.std.specs.Prelude.{◌≡◌, ℕ, ◌<◌, List, [], length, map, get_or}
use Rattle.std.specs.List.{All}
use Rattle.kt_base.specs.declared.cell.Cell.{Cell}
use Rattle.kt_base.specs.declared.cell.Cell.TheVariants.{Null, Int, Bool, Bytes}
use Rattle.kt_history.specs.declared.row_list.Flat.{Flat}
use Rattle.kt_history.specs.declared.row_list.Flat.TheVariants as flat

-- the cell that a flat one stands for
abbrev pub cell_among : List (List ℕ) → Flat → Cell
cell_among texts flat.Null = Null
cell_among texts (flat.Int number) = Int number
cell_among texts (flat.Bool truth) = Bool truth
cell_among texts (flat.Bytes at) = Bytes (get_or texts at [])

-- its text is there
abbrev pub IsAmong : List (List ℕ) → Flat → Type 0
IsAmong texts flat.Null = Unit {0}
IsAmong texts (flat.Int number) = Unit {0}
IsAmong texts (flat.Bool truth) = Unit {0}
IsAmong texts (flat.Bytes at) = at < length texts

-- flat cells, all of whose texts are there, that stand for some cells
pub record AreFlat (texts : List (List ℕ)) (flats : List Flat) (cells : List Cell) : Type 0 where
  pub among : All (IsAmong texts) flats
  pub are : map (cell_among texts) flats ≡ cells
