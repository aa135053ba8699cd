-- What a pool is to its callers.
use Rattle.std.specs.Prelude.{ℕ, ◌+◌, ◌-◌, ◌/◌, max, List, [], ◌++◌, take, drop, length, get_or, set, Option, Some, None, IsSome}
use Rattle.std.specs.Option.{unwrap_or}
use Rattle.std.specs.List.{sum_by}

-- for each cell the bytes of the place that begins there, or none; and how many of the free cells are promised
pub record Contents : Type 0 where
  pub places : List (Option (List ℕ))
  pub reserved : ℕ

-- the cells that so many bytes take: 56 a cell, and one cell at least
abbrev pub cells_for : ℕ → ℕ
cells_for n = max 1 ((n + 55) / 56)

-- the cells that a place takes
abbrev pub cells_of : Option (List ℕ) → ℕ
cells_of None = 0
cells_of (Some bytes) = cells_for (length bytes)

-- the cells of all places
abbrev pub used : Contents → ℕ
used pool = sum_by cells_of pool.places

-- the cells that no place has
abbrev pub free : Contents → ℕ
free pool = length pool.places - used pool

-- what is placed at this cell
abbrev pub at_cell : Contents → ℕ → Option (List ℕ)
at_cell pool cell = get_or pool.places cell None

-- a place begins at this cell
abbrev pub Stands : Contents → ℕ → Type 0
Stands pool cell = IsSome (at_cell pool cell)

-- the bytes placed at this cell
abbrev pub bytes_at : Contents → ℕ → List ℕ
bytes_at pool cell = unwrap_or (at_cell pool cell) []

-- the same pool with this at that cell, and so many cells reserved
abbrev pub with_place : Contents → ℕ → Option (List ℕ) → ℕ → Contents
with_place pool cell bytes reserved = record { places = set pool.places cell bytes; reserved = reserved }

-- the pool with so many cells reserved
abbrev pub with_reserved : Contents → ℕ → Contents
with_reserved pool reserved = record { places = pool.places; reserved = reserved }

-- old bytes with these over them from `at` on
abbrev pub overwritten : ℕ → List ℕ → List ℕ → List ℕ
overwritten at bytes old = take at old ++ bytes ++ drop (at + length bytes) old
