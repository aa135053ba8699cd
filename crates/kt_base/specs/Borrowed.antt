-- What a borrowed cell stands for.
use Rattle.kt_base.specs.declared.cell.Cell.{Cell}
use Rattle.kt_base.specs.declared.cell.Cell.TheVariants.{Null, Int, Bool, Bytes}
use Rattle.kt_base.specs.declared.cell_ref.CellRef.{CellRef}
use Rattle.kt_base.specs.declared.cell_ref.CellRef.TheVariants as ref

-- the cell that a borrowed one is read as
abbrev pub cell_in : CellRef → Cell
cell_in ref.Null = Null
cell_in (ref.Int number) = Int number
cell_in (ref.Bool truth) = Bool truth
cell_in (ref.Bytes bytes) = Bytes bytes.now
