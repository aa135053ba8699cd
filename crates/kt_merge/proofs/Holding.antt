-- A row that files can hold, with its records.
use Rattle.std.proofs.Common.{◌^◌, ℕ, List, [], ◌∷◌, Some, None}
use Rattle.kt_history.specs.declared.changes.Delta.{Delta}
use Rattle.kt_rowfiles.specs.Reading.{steps_in}
use Rattle.kt_baseset.specs.declared.schema.ColumnShape.{ColumnShape}
use Rattle.kt_merge.specs.declared.row.RowWritten.{RowWritten}
use Rattle.kt_merge.specs.Fitting.{AreFalling, FitsFiles}
use Rattle.kt_merge.specs.Major.{Falls, IsHeld}
use Rattle.kt_merge.specs.OneKey.{UndosFitFile}
use Rattle.kt_merge.specs.Rows.{disk_row_of}

falls_below : (top : ℕ) (undos : List Delta) → AreFalling (Some top) undos → Falls top (steps_in undos)
falls_below top [] h = tt
falls_below top (d ∷ undos) h = (h.0, falls_below d.ts undos h.3)

falls_all : (undos : List Delta) → AreFalling None undos → Falls (2 ^ 64) (steps_in undos)
falls_all [] h = tt
falls_all (d ∷ undos) h = (h.1, falls_below d.ts undos h.3)

fit_below : (top : ℕ) (undos : List Delta) → AreFalling (Some top) undos → UndosFitFile (steps_in undos)
fit_below top [] h = tt
fit_below top (d ∷ undos) h = (h.2, fit_below d.ts undos h.3)

fit_all : (undos : List Delta) → AreFalling None undos → UndosFitFile (steps_in undos)
fit_all [] h = tt
fit_all (d ∷ undos) h = (h.2, fit_below d.ts undos h.3)

pub held_row : (columns : List ColumnShape) (key : List ℕ) (w : RowWritten) → FitsFiles columns key w → IsHeld columns (disk_row_of w)
held_row columns key w h = record { cells = h.cells; fit = fit_all w.undos.items h.undos; fall = falls_all w.undos.items h.undos }
