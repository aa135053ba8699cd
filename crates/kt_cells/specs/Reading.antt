-- How the reader goes over cells, from left to right, up to the first fault. A fault is told by how many bytes stand from
-- its place to the end: none where bytes are missing, and all from its first byte on where a field is wrong.
use Rattle.std.specs.Prelude.{ℕ, zero, suc, ◌+◌, ◌-◌, ◌^◌, Bool, true, false, ◌&&◌, List, [], ◌∷◌, length, Option, Some, None, Result, Ok, Err, nat_le}
use Rattle.std.specs.Int.{w16, w32, w64, cast_signed}
use Rattle.kt_base.specs.declared.cell.Cell.{Cell}
use Rattle.kt_base.specs.declared.cell.Cell.TheVariants as cells
use Rattle.kt_bytes.specs.Reading.{◌>>=◌, number_at, checked_at, counted_at, many_at}
use Rattle.kt_cells.specs.Rules.{next_id}

unfoldable pub flag_at : List ℕ → Result (Bool × List ℕ) ℕ
flag_at [] = Err 0
flag_at (zero ∷ rest) = Ok (false, rest)
flag_at (suc zero ∷ rest) = Ok (true, rest)
flag_at (suc (suc b) ∷ rest) = Err (suc (length rest))

unfoldable pub cell_at : List ℕ → Result (Cell × List ℕ) ℕ
cell_at [] = Err 0
cell_at (zero ∷ rest) = Ok (cells.Null, rest)
cell_at (suc zero ∷ rest) = do
  b ← flag_at rest
  Ok (cells.Bool b.0, b.1)
cell_at (suc (suc zero) ∷ rest) = do
  n ← number_at w64 rest
  Ok (cells.Int (cast_signed w64 n.0), n.1)
cell_at (suc (suc (suc zero)) ∷ rest) = do
  text ← counted_at w32 rest
  Ok (cells.Bytes text.0, text.1)
cell_at (suc (suc (suc (suc b))) ∷ rest) = Err (suc (length rest))

-- an id that is not below least, and leaves ids for so many cells from its own on
abbrev pub is_id : ℕ → ℕ → ℕ → Bool
is_id left least id = nat_le least id && nat_le (id + left) (2 ^ 16)

-- such an id, and its cell
unfoldable pub id_cell_at : ℕ → ℕ → List ℕ → Result ((ℕ × Cell) × List ℕ) ℕ
id_cell_at left least bytes = do
  id ← checked_at w16 (is_id left least) bytes
  c ← cell_at id.1
  Ok ((id.0, c.0), c.1)

-- an id of a list of n cells, above those before it, that leaves ids for the cells behind it
abbrev pub is_next_id : ℕ → List (ℕ × Cell) → ℕ → Bool
is_next_id n front id = is_id (n - length front) (next_id front) id

-- such an id, and its cell
unfoldable pub listed_cell_at : ℕ → List (ℕ × Cell) → List ℕ → Result ((ℕ × Cell) × List ℕ) ℕ
listed_cell_at n front bytes = do
  id ← checked_at w16 (is_next_id n front) bytes
  c ← cell_at id.1
  Ok ((id.0, c.0), c.1)

-- cells by rising id behind their count
unfoldable pub cells_at : List ℕ → Result (List (ℕ × Cell) × List ℕ) ℕ
cells_at bytes = do
  n ← number_at w16 bytes
  many_at (listed_cell_at n.0) n.0 [] n.1

-- ---- read where they lie

-- what stands behind what is read
abbrev pub rest_of : {X : Type 0} → Result (X × List ℕ) ℕ → Result (List ℕ) ℕ
rest_of read = read >>= λ x. Ok x.1

-- what was read, where nothing was at fault
abbrev pub if_read : {X : Type 0} → Result X ℕ → Option X
if_read (Ok x) = Some x
if_read (Err left) = None

-- a column's id and its cell, whatever the id
unfoldable pub next_cell_at : List ℕ → Result ((ℕ × Cell) × List ℕ) ℕ
next_cell_at bytes = do
  id ← number_at w16 bytes
  c ← cell_at id.1
  Ok ((id.0, c.0), c.1)

abbrev pub or_none : {X : Type 0} → (X → List (ℕ × Cell)) → Result X ℕ → List (ℕ × Cell)
or_none f (Ok x) = f x
or_none f (Err left) = []

-- so many cells, as far as they can be read
unfoldable pub cells_from : ℕ → List ℕ → List (ℕ × Cell)
cells_from zero bytes = []
cells_from (suc n) bytes = or_none (λ x. x.0 ∷ cells_from n x.1) (next_cell_at bytes)

-- the cells behind their count
abbrev pub cells_behind : List ℕ → List (ℕ × Cell)
cells_behind bytes = or_none (λ n. cells_from n.0 n.1) (number_at w16 bytes)
