-- Borrowed rows change as the rows do that they are read as.
use Rattle.std.proofs.Common.{◌≡◌, ℕ, suc, ◌≤◌, List, [], ◌∷◌, ◌++◌, length, drop, get_or, refl, sym, ap, ◌∙◌, arith}
use Rattle.std.proofs.Math.Seq.{drop-cons}
use Rattle.kt_history.specs.Rows.{with_cells}
use Rattle.std.specs.Ordering.{nat_cmp}
use Rattle.std.specs.declared.cmp.Ordering.TheVariants.{Less, Equal, Greater}
use Rattle.std.specs.FinMap.Entries.{by_order, put}
use Rattle.kt_base.specs.declared.cell_ref.CellRef.{CellRef}
use Rattle.kt_base.specs.Borrowed.{cell_in}
use Rattle.kt_cells.specs.Borrowed.{cells_in}

-- a cell that is put in its place
pub put_in : (id : ℕ) (cell : CellRef) (cells : List (ℕ × CellRef)) → cells_in (put nat_cmp id cell cells) ≡ put nat_cmp id (cell_in cell) (cells_in cells)
put_in id cell [] = refl
put_in id cell (c ∷ cells) =
    elim (nat_cmp id c.0) as (λ o. cells_in (by_order o ((id, cell) ∷ c ∷ cells) ((c.0, cell) ∷ cells) (c ∷ put nat_cmp id cell cells)) ≡ by_order o ((id, cell_in cell) ∷ cells_in (c ∷ cells)) ((c.0, cell_in cell) ∷ cells_in cells) ((c.0, cell_in c.1) ∷ put nat_cmp id (cell_in cell) (cells_in cells))) [
      | Less ↦ refl
      | Equal ↦ refl
      | Greater ↦ ap (λ rest. (c.0, cell_in c.1) ∷ rest) (put_in id cell cells)
    ]

-- a cell that is appended
pub append_in : (cells more : List (ℕ × CellRef)) → cells_in (cells ++ more) ≡ cells_in cells ++ cells_in more
append_in [] more = refl
append_in (c ∷ cells) more = ap (λ rest. (c.0, cell_in c.1) ∷ rest) (append_in cells more)

-- one cell more of those from here on
pub put_one : (more : List (ℕ × CellRef)) (at i : ℕ) (d : ℕ × CellRef) (row now start : List (ℕ × CellRef)) → at ≡ suc i → at ≤ length more → cells_in row ≡ with_cells (cells_in (drop at more)) (cells_in start) → now ≡ put nat_cmp (get_or more i d).0 (get_or more i d).1 row
    → cells_in now ≡ with_cells (cells_in (drop i more)) (cells_in start)
put_one more at i d row now start is within so_far e =
    let c = get_or more i d in
    let rest : drop i more ≡ c ∷ drop (suc i) more = drop-cons more i d (omega (arith, within, is)) in
    ap cells_in e ∙ put_in c.0 c.1 row ∙ ap (put nat_cmp c.0 (cell_in c.1)) (so_far ∙ ap (λ (n : ℕ). with_cells (cells_in (drop n more)) (cells_in start)) is) ∙ ap (λ (cells : List (ℕ × CellRef)). with_cells (cells_in cells) (cells_in start)) (sym rest)
