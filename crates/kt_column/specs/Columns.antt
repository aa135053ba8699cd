-- A whole column: its cells, its bytes, and why bytes begin with none.
use Rattle.std.specs.Prelude.{◌≡◌, ◌≤◌, ◌<◌, ◌+◌, ◌-◌, ◌*◌, ◌/◌, ◌%◌, ◌^◌, ◌⊎◌, ℕ, zero, suc, List, [], ◌∷◌, ◌++◌, length, take, drop, min}
use Rattle.kt_base.specs.declared.cell.Cell.{Cell}
use Rattle.kt_column.specs.declared.errors.CodecNo.{CodecNo}
use Rattle.kt_column.specs.declared.errors.CodecNo.TheVariants as answers
use Rattle.kt_column.specs.declared.form.Form.{Form}
use Rattle.kt_column.specs.Blocks.{BlockValue, SpellsBlock}
use Rattle.kt_column.specs.Faults.{IsRefusal}

-- what a column in memory is seen as
pub record ColumnValue : Type 0 where
  pub form : Form
  pub cells : List Cell

-- how many blocks of 8,192 cells hold so many, the last one maybe in part
abbrev pub block_count : ℕ → ℕ
block_count n = (n + 8191) / 8192

-- the spellings of so many blocks, one after another: each is of the next 8,192 cells, or of what is left
abbrev pub SpellsBlocks : Form → ℕ → List Cell → List ℕ → Type 0
SpellsBlocks form zero cs bytes = bytes ≡ []
SpellsBlocks form (suc k) cs bytes =
    (front : List ℕ) × (rest : List ℕ) × (bytes ≡ front ++ rest) × SpellsBlock form (take 8192 cs) front × SpellsBlocks form k (drop 8192 cs) rest

-- the bytes of a column
abbrev pub SpellsColumn : Form → List Cell → List ℕ → Type 0
SpellsColumn form cs bytes = SpellsBlocks form (block_count (length cs)) cs bytes

-- the first so many bytes are the spelling of these cells, one for each row
pub record IsColumnFound (form : Form) (rows : ℕ) (bytes : List ℕ) (cs : List Cell) (used : ℕ) : Type 0 where
  pub within : used ≤ length bytes
  pub counted : length cs ≡ rows
  pub spelled : SpellsColumn form cs (take used bytes)

-- some full blocks stand, and behind them the next one is refused: the fault is its own
pub record IsColumnFault (form : Form) (rows : ℕ) (bytes : List ℕ) (offset : ℕ) : Type 0 where
  pub blocks : ℕ
  pub more : 8192 * blocks < rows
  pub cells : List Cell
  pub used : ℕ
  pub found : IsColumnFound form (8192 * blocks) bytes cells used
  pub at : ℕ
  pub next : IsRefusal form (min (rows - 8192 * blocks) 8192) (drop used bytes) (answers.Place at)
  pub place : offset ≡ used + at

-- a refusal behind so many bytes, whose place has room
abbrev pub shifted : ℕ → CodecNo → CodecNo
shifted k answers.Memory = answers.Memory
shifted k (answers.Place at) = answers.Place (k + at)

abbrev pub IsShiftable : ℕ → CodecNo → Type 0
IsShiftable k answers.Memory = Unit {0}
IsShiftable k (answers.Place at) = k + at < 2 ^ 64

-- the answer of a decoder without a column
abbrev pub IsColumnRefusal : Form → ℕ → List ℕ → CodecNo → Type 0
IsColumnRefusal form rows bytes answers.Memory = Unit {0}
IsColumnRefusal form rows bytes (answers.Place offset) = IsColumnFault form rows bytes offset

-- the cells of blocks, one block after another
abbrev pub cells_in : List BlockValue → List Cell
cells_in [] = []
cells_in (b ∷ bs) = b.cells ++ cells_in bs

-- a block of a column: it has a cell, and no more than 8,192
pub record IsPart (form : Form) (b : BlockValue) : Type 0 where
  pub is : b.form ≡ form
  pub some : 0 < length b.cells
  pub few : length b.cells ≤ 8192

-- the blocks of a column in memory: all but the last are full
abbrev pub AreParts : Form → List BlockValue → Type 0
AreParts form [] = Unit {0}
AreParts form (b ∷ bs) = IsPart form b × ((length b.cells ≡ 8192) ⊎ (bs ≡ [])) × AreParts form bs

-- all blocks are full, so one more may follow
abbrev pub AreFull : List Cell → Type 0
AreFull cs = length cs % 8192 ≡ 0
