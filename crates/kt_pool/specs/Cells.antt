-- Cells in chains, and the bytes along them.
use Rattle.std.specs.Prelude.{◌≡◌, ◌≢◌, ℕ, zero, suc, ◌+◌, ◌-◌, ◌/◌, ◌%◌, ◌<◌, ◌&&◌, cond, nat_le, nat_lt, List, [], map, length, get_or}
use Rattle.std.specs.List.{range_with_len}
use Rattle.kt_pool.specs.Contents.{cells_for}
use Rattle.kt_pool.specs.declared.cells.Cell.{Cell}

-- a cell that is not there
abbrev pub blank : Cell
blank = record { bytes = []; next = 0; len = 0 }

-- the cell after this one
abbrev pub next_at : List Cell → ℕ → ℕ
next_at cells cell = (get_or cells cell blank).next

-- the length that this cell names
abbrev pub len_at : List Cell → ℕ → ℕ
len_at cells cell = (get_or cells cell blank).len

-- the bytes that this cell holds
abbrev pub load_at : List Cell → ℕ → List ℕ
load_at cells cell = (get_or cells cell blank).bytes

-- the cell so many steps after this one
abbrev pub walk : List Cell → ℕ → ℕ → ℕ
walk cells first zero = first
walk cells first (suc n) = next_at cells (walk cells first n)

-- byte i along the chain from this cell
abbrev pub byte_at : List Cell → ℕ → ℕ → ℕ
byte_at cells first i = get_or (load_at cells (walk cells first (i / 56))) (i % 56) 0

-- the first n bytes along the chain
abbrev pub content : List Cell → ℕ → ℕ → List ℕ
content cells first n = map (byte_at cells first) (range_with_len 0 n)

-- byte i after a write of these bytes from `at` on over old ones
abbrev pub written : ℕ → List ℕ → (ℕ → ℕ) → ℕ → ℕ
written at bytes old i = cond (nat_le at i && nat_lt i (at + length bytes)) (get_or bytes (i - at) 0) (old i)

-- the n cells from this one on are cells of the pool, no two of them the same
pub record IsChain (cells : List Cell) (first n : ℕ) : Type 0 where
  pub inside : (j : ℕ) → j < n → walk cells first j < length cells
  pub apart : (i j : ℕ) → i < n → j < n → walk cells first i ≡ walk cells first j → i ≡ j

-- each cell has its 56 bytes
abbrev pub IsFull : List Cell → Type 0
IsFull cells = (k : ℕ) → k < length cells → length (load_at cells k) ≡ 56

-- only what the cells hold has changed
pub record KeepsChains (old new : List Cell) : Type 0 where
  pub count : length new ≡ length old
  pub next : (k : ℕ) → next_at new k ≡ next_at old k
  pub len : (k : ℕ) → len_at new k ≡ len_at old k
  pub full : IsFull old → IsFull new

-- the length of a cell in which no place begins
abbrev pub nothing : ℕ
nothing = 0xffff_ffff

-- a place with these bytes begins at `first`, in cells that went from there to `after`, and no other cell has changed
pub record Fills (old new : List Cell) (first : ℕ) (bytes : List ℕ) (after : ℕ) : Type 0 where
  pub count : length new ≡ length old
  pub next : (k : ℕ) → next_at new k ≡ next_at old k
  pub here : len_at new first ≡ length bytes
  pub others : (k : ℕ) → k ≢ first → len_at new k ≡ len_at old k
  pub full : IsFull new
  pub goes_on : after ≡ walk old first (cells_for (length bytes))
  pub placed : (i : ℕ) → i < length bytes → byte_at new first i ≡ get_or bytes i 0
  pub frame : (k : ℕ) → ((j : ℕ) → j < cells_for (length bytes) → walk old first j ≢ k) → load_at new k ≡ load_at old k

-- no place begins at `head`, the last of its cells goes on to `next`, and no other cell has changed
pub record Frees (old new : List Cell) (head next : ℕ) : Type 0 where
  pub count : length new ≡ length old
  pub load : (k : ℕ) → load_at new k ≡ load_at old k
  pub here : len_at new head ≡ nothing
  pub others : (k : ℕ) → k ≢ head → len_at new k ≡ len_at old k
  pub last : next_at new (walk old head (cells_for (len_at old head) - 1)) ≡ next
  pub inner : (k : ℕ) → k ≢ walk old head (cells_for (len_at old head) - 1) → next_at new k ≡ next_at old k
