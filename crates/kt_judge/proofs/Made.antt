-- The row that an insert makes, and operations beside none.
use Rattle.std.proofs.Common.{◌≡◌, ℕ, List, [], ◌∷◌, ◌++◌, false, refl, ap}
use Rattle.std.specs.Ordering.{nat_cmp}
use Rattle.std.specs.FinMap.Entries.{put}
use Rattle.kt_base.specs.declared.cell.Cell.{Cell}
use Rattle.kt_history.specs.declared.operation.RowOp.{RowOp}
use Rattle.kt_history.specs.Operations.{share_key}
use Rattle.kt_history.specs.Rows.{Row, with_cells}

-- the last of some cells is put in before the others
pub with_cells-push : (cells row : Row) (c : ℕ × Cell) → with_cells (cells ++ c ∷ []) row ≡ with_cells cells (put nat_cmp c.0 c.1 row)
with_cells-push [] row c = refl
with_cells-push (d ∷ cells) row c = ap (put nat_cmp d.0 d.1) (with_cells-push cells row c)

-- no operation shares a key with none
pub share_none : (ops : List RowOp) → false ≡ share_key ops []
share_none [] = refl
share_none (op ∷ ops) = share_none ops
