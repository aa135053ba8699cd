-- Rows on their way into a page.
use Rattle.std.specs.Prelude.{◌≡◌, ◌≤◌, ℕ, zero, suc, List, [], ◌∷◌, length, map, take, drop}
use Rattle.std.specs.List.{flat_map}
use Rattle.kt_base.specs.declared.cell.Cell.{Cell}
use Rattle.kt_baseset.specs.Asked.{cells_asked}
use Rattle.kt_history.specs.Rows.{Row, Rows}
use Rattle.kt_diskrowset.specs.declared.page.Gathered.{Gathered}

-- the keys of these rows stand there, and the cells of all of them in these columns, one row behind the other
pub record Holds (columns : Row) (told : Rows) (g : Gathered) : Type 0 where
  pub keys : g.keys ≡ map (λ (r : List ℕ × Row). r.0) told
  pub cells : g.cells.items ≡ flat_map (λ (r : List ℕ × Row). cells_asked columns r.1) told

-- so many pieces of one width, from the front of a list
abbrev pub pieces_of : ℕ → ℕ → List Cell → List (List Cell)
pieces_of width zero cells = []
pieces_of width (suc n) cells = take width cells ∷ pieces_of width n (drop width cells)

-- the list has so many
abbrev pub HasPieces : ℕ → ℕ → List Cell → Type 0
HasPieces width zero cells = Unit {0}
HasPieces width (suc n) cells = (width ≤ length cells) × HasPieces width n (drop width cells)
