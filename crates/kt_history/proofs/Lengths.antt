-- How long spellings are.
use Rattle.std.proofs.Common.{◌≡◌, ℕ, ◌+◌, List, [], ◌∷◌, ◌++◌, length, refl, ap, ◌∙◌, arith, length-append}
use Rattle.std.specs.List.{flat_map, sum_by}
use Rattle.std.specs.Int.{w16, to_le_bytes}
use Rattle.std.proofs.lemmas.List.Concat.{flat_map-cons}
use Rattle.std.proofs.lemmas.List.Sums.{sum_by-cons}
use Rattle.kt_base.specs.declared.cell.Cell.{Cell}
use Rattle.kt_base.specs.declared.cell.Cell.TheVariants as cells
use Rattle.kt_history.specs.declared.operation.RowOp.{RowOp}
use Rattle.kt_history.specs.Operations.{cell_len, op_len}
use Rattle.kt_cells.specs.Spelling.{cell, listed_cell, cell_list}
use Rattle.kt_history.specs.Spelled.{operation}

length-cell : (c : Cell) → length (cell c) ≡ cell_len c
length-cell cells.Null = refl
length-cell (cells.Bool b) = refl
length-cell (cells.Int n) = refl
length-cell (cells.Bytes bytes) = omega arith

length-cells : (listed : List (ℕ × Cell)) → length (flat_map listed_cell listed) ≡ sum_by (λ (c : ℕ × Cell). 2 + cell_len c.1) listed
length-cells [] = refl
length-cells (c ∷ listed) =
    let first : length (listed_cell c) ≡ 2 + cell_len c.1 = length-append (to_le_bytes w16 c.0) (cell c.1) ∙ ap (λ n. 2 + n) (length-cell c.1) in
    ap length (flat_map-cons listed_cell c listed) ∙ omega (arith, length-append (listed_cell c) (flat_map listed_cell listed), first, length-cells listed, sum_by-cons (λ (d : ℕ × Cell). 2 + cell_len d.1) c listed)

pub length-operation : (op : RowOp) → length (operation op) ≡ op_len op
length-operation op = omega (arith, length-append (to_le_bytes w16 (length op.key) ++ op.key) (cell_list op.cells), length-append (to_le_bytes w16 (length op.key)) op.key, length-append (to_le_bytes w16 (length op.cells)) (flat_map listed_cell op.cells), length-cells op.cells)
