-- A column of encoded keys that rise. Block by block, a key that is not above the one before it is at fault at the first
-- byte of its cell, before what is wrong behind it.
use Rattle.std.specs.Prelude.{◌≡◌, ◌<◌, ◌+◌, ◌-◌, ◌*◌, ◌⊎◌, ℕ, List, map, drop, min, Option, None}
use Rattle.kt_base.specs.declared.cell.Cell.{Cell}
use Rattle.kt_base.specs.declared.cell.Cell.TheVariants as cells
use Rattle.kt_front.specs.Order.{Rise, last_item, IsFall, NoneFalls}
use Rattle.kt_column.specs.declared.errors.CodecNo.{CodecNo}
use Rattle.kt_column.specs.declared.errors.CodecNo.TheVariants as answers
use Rattle.kt_column.specs.declared.form.Form.TheVariants.{Keys}
use Rattle.kt_column.specs.declared.form.Encoding.TheVariants.{Prefix}
use Rattle.kt_column.specs.Forms.{limit}
use Rattle.kt_column.specs.Blocks.{texts_in}
use Rattle.kt_column.specs.Faults.{IsHead, IsRefusal}
use Rattle.kt_column.specs.Columns.{IsColumnFound}

-- the cells are byte lists
abbrev pub AreKeys : List Cell → Type 0
AreKeys cs = cs ≡ map cells.Bytes (texts_in cs)

-- each key is above the one before it
abbrev pub AreRising : List Cell → Type 0
AreRising cs = Rise None (texts_in cs)

-- the last key
abbrev pub last_key : List Cell → Option (List ℕ)
last_key cs = last_item None (texts_in cs)

-- a key of a block is not above the one before it: the first one, and where its cell begins
pub record IsKeyFall (n : ℕ) (before : Option (List ℕ)) (bytes : List ℕ) (at : ℕ) : Type 0 where
  pub len : ℕ
  pub rest : List ℕ
  pub front : IsHead Keys bytes Prefix len rest
  pub behind : ℕ
  pub fall : IsFall (limit Keys) n before rest behind
  pub place : at ≡ 5 + behind

-- the keys of a block rise, as far as they stand there
abbrev pub NoKeyFalls : ℕ → Option (List ℕ) → List ℕ → Type 0
NoKeyFalls n before bytes = (len : ℕ) (rest : List ℕ) → IsHead Keys bytes Prefix len rest → NoneFalls (limit Keys) n before rest

-- the fault of a block of n keys behind others: a key, or what is wrong where the keys rise
abbrev pub IsNextFault : ℕ → Option (List ℕ) → List ℕ → ℕ → Type 0
IsNextFault n before bytes at = IsKeyFall n before bytes at ⊎ (NoKeyFalls n before bytes × IsRefusal Keys n bytes (answers.Place at))

-- some full blocks stand whose keys rise, and behind them the next one is at fault
pub record IsRisingFault (rows : ℕ) (bytes : List ℕ) (offset : ℕ) : Type 0 where
  pub blocks : ℕ
  pub more : 8192 * blocks < rows
  pub cells : List Cell
  pub used : ℕ
  pub found : IsColumnFound Keys (8192 * blocks) bytes cells used
  pub rise : AreRising cells
  pub at : ℕ
  pub next : IsNextFault (min (rows - 8192 * blocks) 8192) (last_key cells) (drop used bytes) at
  pub place : offset ≡ used + at

-- the answer of a decoder without such a column
abbrev pub IsRisingRefusal : ℕ → List ℕ → CodecNo → Type 0
IsRisingRefusal rows bytes answers.Memory = Unit {0}
IsRisingRefusal rows bytes (answers.Place offset) = IsRisingFault rows bytes offset
