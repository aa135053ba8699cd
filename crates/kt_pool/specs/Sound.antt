-- What holds of a pool's cells, and what the pool is seen as.
use Rattle.std.specs.Prelude.{◌≡◌, ◌≢◌, ℕ, ◌+◌, ◌-◌, ◌<◌, ◌≤◌, ◌==◌, cond, List, ◌++◌, map, length, replicate, Option, Some, None}
use Rattle.std.specs.List.{range_with_len, sum_by}
use Rattle.kt_pool.specs.Contents.{cells_for, cells_of}
use Rattle.kt_pool.specs.Cells.{nothing, walk, len_at, content, IsFull}
use Rattle.kt_pool.specs.declared.cells.Cell.{Cell}

-- what is placed at this cell
abbrev pub placed_in : List Cell → ℕ → Option (List ℕ)
placed_in cells cell = cond (len_at cells cell == nothing) None (Some (content cells cell (len_at cells cell)))

-- what is placed at each cell
abbrev pub places_in : List Cell → List (Option (List ℕ))
places_in cells = map (placed_in cells) (range_with_len 0 (length cells))

-- this cell is the j-th of the chain that begins at `head`
pub record IsOwned (cells : List Cell) (owner_of depth_of : ℕ → ℕ) (head j cell : ℕ) : Type 0 where
  pub inside : cell < length cells
  pub owner : owner_of cell ≡ head
  pub depth : depth_of cell ≡ j

-- each place has a chain, and so have the free cells, and no cell is in two of them (the free chain goes by the number
-- after the last cell's); each cell is full; and the free cells and the places' are all cells
pub record IsSound (cells : List Cell) (first free : ℕ) : Type 0 where
  pub owner : ℕ → ℕ
  pub depth : ℕ → ℕ
  pub spare : (j : ℕ) → j < free → IsOwned cells owner depth (length cells) j (walk cells first j)
  pub owned : (head j : ℕ) → head < length cells → len_at cells head ≢ nothing → j < cells_for (len_at cells head) → IsOwned cells owner depth head j (walk cells head j)
  pub full : IsFull cells
  pub small : length cells ≤ 76_695_844
  pub counted : free + sum_by cells_of (places_in cells) ≡ length cells

-- places, and behind them so many cells that were never used
abbrev pub padded : List (Option (List ℕ)) → ℕ → List (Option (List ℕ))
padded places n = places ++ replicate n None

-- the cells that were used are sound, behind them is room for the rest of the pool, and what is reserved is free
pub record IsPool (cells : List Cell) (first spare size capacity reserved : ℕ) : Type 0 where
  pub sound : IsSound cells first spare
  pub used : length cells ≤ size
  pub room : size ≤ capacity
  pub small : size ≤ 76_695_844
  pub promised : reserved ≤ spare + (size - length cells)
