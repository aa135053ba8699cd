-- What is spelled is read back where it lies.
use Rattle.std.proofs.Common.{◌≡◌, ℕ, List, [], ◌++◌, sym, ap, ◌∙◌, subst}
use Rattle.std.proofs.lemmas.List.{append-nil}
use Rattle.kt_base.specs.declared.cell.Cell.{Cell}
use Rattle.kt_cells.specs.Spelling.{cell_list}
use Rattle.kt_cells.specs.Rules.{CellListFits}
use Rattle.kt_cells.specs.Reading.{cells_behind}
use Rattle.kt_cells.specs.Spelled.{SpellsCells}
use Rattle.kt_cells.proofs.Cells.{cells_again}
use Rattle.kt_cells.proofs.InPlace.{whole_behind}

pub read_back : (cells : List (ℕ × Cell)) → CellListFits cells → cells_behind (cell_list cells) ≡ cells
read_back cells fits = sym (whole_behind (cell_list cells ++ []) cells [] (cells_again cells [] fits) ∙ ap cells_behind (append-nil (cell_list cells)))

pub spelled : (cells : List (ℕ × Cell)) → CellListFits cells → SpellsCells (cell_list cells)
spelled cells fits =
    let back = read_back cells fits in record { fits = subst CellListFits (sym back) fits; is = ap cell_list (sym back) }
