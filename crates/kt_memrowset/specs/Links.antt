-- Changes in places of a pool, and the chains that they make.
use Rattle.std.specs.Prelude.{◌≡◌, ℕ, zero, suc, ◌+◌, ◌^◌, ◌<◌, ◌≤◌, ◌==◌, cond, List, [], ◌∷◌, ◌++◌, map, length, drop, slice_index, Some, Result, Ok, Err}
use Rattle.byteorder.specs.Endian.{little_number, little_bytes}
use Rattle.kt_history.specs.declared.change.Change.{Change}
use Rattle.kt_history.specs.declared.target.Kindly.{Kindly}
use Rattle.kt_history.specs.declared.target.Kindly.TheVariants.{Ins, Upd, Del}
use Rattle.kt_history.specs.Rows.{Row}
use Rattle.kt_history.specs.Stores.{Steps, change_of}
use Rattle.kt_cells.specs.Spelling.{cell_list}
use Rattle.kt_cells.specs.Rules.{EachAfter, FollowingCell}
use Rattle.kt_cells.specs.Reading.{cells_at}
use Rattle.kt_pool.specs.Contents.{Contents, at_cell, bytes_at}
use Rattle.kt_memrowset.specs.declared.link.Head.{Head}

-- the cell of no change
abbrev pub nothing : ℕ
nothing = 0xffff_ffff

abbrev pub kind_byte : Kindly → ℕ
kind_byte Ins = 1
kind_byte Upd = 2
kind_byte Del = 3

abbrev pub kind_of : ℕ → Kindly
kind_of zero = Del
kind_of (suc zero) = Ins
kind_of (suc (suc zero)) = Upd
kind_of (suc (suc (suc b))) = Del

-- a change in the pool: its cell, those of the next change of its row and, in the first one, of the row's last, that of
-- the change that the store took before it, its timestamp, its kind and its cells
pub record Link : Type 0 where
  pub cell : ℕ
  pub head : Head
  pub cells : Row

-- the first fields in these bytes
abbrev pub head_of : List ℕ → Head
head_of bytes = record {
  next = little_number 4 bytes;
  last = little_number 4 (drop 4 bytes);
  before = little_number 4 (drop 8 bytes);
  ts = little_number 8 (drop 12 bytes);
  kind = kind_of (slice_index bytes 20);
}

abbrev pub cells_read : Result (Row × List ℕ) ℕ → Row
cells_read (Ok x) = x.0
cells_read (Err e) = []

-- the change that is placed at this cell
abbrev pub link_at : Contents → ℕ → Link
link_at pool cell = record { cell = cell; head = head_of (bytes_at pool cell); cells = cells_read (cells_at (drop 21 (bytes_at pool cell))) }

-- the bytes of a change in front of its cells
abbrev pub front : Head → List ℕ
front h = little_bytes 4 h.next ++ (little_bytes 4 h.last ++ (little_bytes 4 h.before ++ (little_bytes 8 h.ts ++ kind_byte h.kind ∷ [])))

-- the bytes of a change
abbrev pub spelling : Head → Row → List ℕ
spelling h cells = front h ++ cell_list cells

-- cells by rising id, fewer than their count can say
pub record CellsFit (cells : Row) : Type 0 where
  pub count : length cells < 2 ^ 16
  pub each : EachAfter FollowingCell [] cells

pub record HeadFits (h : Head) : Type 0 where
  pub next : h.next < 2 ^ 32
  pub last : h.last < 2 ^ 32
  pub before : h.before < 2 ^ 32
  pub ts : h.ts < 2 ^ 64

-- the change stands at its cell
pub record IsLink (pool : Contents) (l : Link) : Type 0 where
  pub inside : l.cell < nothing
  pub bytes : at_cell pool l.cell ≡ Some (spelling l.head l.cells)
  pub head : HeadFits l.head
  pub cells : CellsFit l.cells

-- from this cell on these changes stand, each behind the one before
abbrev pub Chains : Contents → ℕ → List Link → Type 0
Chains pool cell [] = cell ≡ nothing
Chains pool cell (l ∷ links) = (cell ≡ l.cell) × IsLink pool l × Chains pool l.head.next links

-- the changes from this cell on, as far as so many steps go
abbrev pub chain_at : Contents → ℕ → ℕ → List Link
chain_at pool zero cell = []
chain_at pool (suc n) cell = let here = link_at pool cell in cond (cell == nothing) [] (here ∷ chain_at pool n here.head.next)

abbrev pub chain : Contents → ℕ → List Link
chain pool cell = chain_at pool (length pool.places) cell

abbrev pub cells_of : List Link → List ℕ
cells_of links = map (λ (l : Link). l.cell) links

-- how often the cell is in the list
abbrev pub times : List ℕ → ℕ → ℕ
times [] k = 0
times (c ∷ cells) k = cond (c == k) 1 0 + times cells k

-- these changes stand from this cell on, each at a cell of its own
pub record IsChainAt (pool : Contents) (cell : ℕ) (links : List Link) : Type 0 where
  pub chains : Chains pool cell links
  pub once : (k : ℕ) → times (cells_of links) k ≤ 1

-- the last of some changes
abbrev pub newest : Link → List Link → Link
newest l [] = l
newest l (m ∷ links) = newest m links

abbrev pub newest_kind : List Link → Kindly
newest_kind [] = Del
newest_kind (l ∷ links) = (newest l links).head.kind

-- the first change names the cell of the last one, or none where it is alone
abbrev pub IsMarked : List Link → Type 0
IsMarked [] = ⊥
IsMarked (l ∷ []) = l.head.last ≡ nothing
IsMarked (l ∷ m ∷ links) = l.head.last ≡ (newest m links).cell

abbrev pub step_of : Link → ℕ × Change
step_of l = (l.head.ts, change_of l.head.kind l.cells)

abbrev pub steps_of : List Link → Steps
steps_of links = map step_of links
