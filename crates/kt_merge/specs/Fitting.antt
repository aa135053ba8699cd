-- What files can hold of one row.
use Rattle.std.specs.Prelude.{◌≡◌, ◌<◌, ◌≤◌, ◌^◌, ℕ, List, [], ◌∷◌, length, Option, Some, None}
use Rattle.kt_base.specs.declared.cell.Cell.{Cell}
use Rattle.kt_history.specs.declared.changes.Delta.{Delta}
use Rattle.kt_column.specs.Blocks.{IsCell}
use Rattle.kt_baseset.specs.declared.schema.ColumnShape.{ColumnShape}
use Rattle.kt_baseset.specs.Rows.{RowFits, form_of}
use Rattle.kt_deltafile.specs.declared.file.Way.TheVariants.{Undo}
use Rattle.kt_deltafile.specs.Rules.{ChangeFits}
use Rattle.kt_merge.specs.declared.row.RowWritten.{RowWritten}

-- a column may hold this cell, which stands under its id
abbrev pub StandsUnder : ColumnShape → ℕ × Cell → Type 0
StandsUnder column cell = (cell.0 ≡ column.id) × IsCell (form_of column) cell.1

-- a timestamp is below another one, or below none
abbrev pub IsUnder : Option ℕ → ℕ → Type 0
IsUnder None ts = Unit {0}
IsUnder (Some top) ts = ts < top

-- UNDO records of one row: their timestamps fall, and each is one that a file can hold
abbrev pub AreFalling : Option ℕ → List Delta → Type 0
AreFalling top [] = Unit {0}
AreFalling top (d ∷ undos) = IsUnder top d.ts × (d.ts < 2 ^ 64) × ChangeFits Undo d.change × AreFalling (Some d.ts) undos

-- files can hold the row under this key
pub record FitsFiles (columns : List ColumnShape) (key : List ℕ) (row : RowWritten) : Type 0 where
  pub short : length key ≤ 16384
  pub cells : RowFits columns row.base
  pub undos : AreFalling None row.undos.items
