-- Rows that are merged from a fill and the cells in place of its own, column by column.
use Rattle.std.proofs.Common.{◌≡◌, ℕ, ◌+◌, ◌<◌, ◌≤◌, [], ◌∷◌, ◌++◌, length, take, get_or, Option, Some, None, refl, sym, ap, ◌∙◌, arith}
use Rattle.std.proofs.lemmas.List.{append_assoc, append-nil, take_more}
use Rattle.std.specs.Prelude.{IsNone, IfSome}
use Rattle.kt_base.specs.declared.cell.Cell.{Cell}
use Rattle.kt_base.specs.declared.cell_ref.CellRef.{CellRef}
use Rattle.kt_base.specs.Borrowed.{cell_in}
use Rattle.kt_cells.specs.Borrowed.{cells_in_ref}
use Rattle.kt_cells.specs.declared.cells_ref.CellsRef.{CellsRef}
use Rattle.kt_history.specs.Rows.{Row, with_cells}
use Rattle.kt_history.proofs.Merging.{AreUnder, under_more}
use Rattle.kt_history.proofs.Filled.{put_at_end, with_end, with_last, under_too}

-- ---- both, column by column

-- the cells that are still to be set
abbrev pub waiting : Option ((ℕ × CellRef) × CellsRef) → Row
waiting None = []
waiting (Some c) = (c.0.0, cell_in c.0.1) ∷ cells_in_ref c.1

pub waits : (cells : Row) (next : Option ((ℕ × CellRef) × CellsRef)) → (IsNone next → cells ≡ []) → IfSome next (λ c. cells ≡ (c.0.0, cell_in c.0.1) ∷ cells_in_ref c.1) → cells ≡ waiting next
waits cells None none some = none refl
waits cells (Some c) none some = some

-- the columns of the fill up to a place have their cells
pub record FillsTo (fill : Row) (cells : CellsRef) (n : ℕ) (next : Option ((ℕ × CellRef) × CellsRef)) (row : Row) (least : ℕ) : Type 0 where
  pub done : Row
  pub parts : cells_in_ref cells ≡ done ++ waiting next
  pub made : row ≡ with_cells done (take n fill)
  pub under : AreUnder least done
  pub filled : AreUnder least (take n fill)

pub fills_first : (fill : Row) (cells : CellsRef) (next : Option ((ℕ × CellRef) × CellsRef)) (row : Row) → cells_in_ref cells ≡ waiting next → row ≡ [] → FillsTo fill cells 0 next row 0
fills_first fill cells next row parts none = record { done = []; parts = parts; made = none; under = tt; filled = tt }

module _ (fill : Row) (cells : CellsRef) (n : ℕ) (next : Option ((ℕ × CellRef) × CellsRef)) (row new : Row) (least : ℕ) (own : ℕ × Cell) (some : FillsTo fill cells n next row least) (within : n < length fill) (is : own ≡ get_or fill n own) (rising : least ≤ own.0) where
  taken : take (n + 1) fill ≡ take n fill ++ own ∷ []
  taken = take_more fill n own within ∙ ap (λ (e : ℕ × Cell). take n fill ++ e ∷ []) (sym is)

  more_filled : AreUnder (own.0 + 1) (take (n + 1) fill)
  more_filled = rw taken (under_more least (own.0 + 1) (take n fill) own (omega arith) (omega arith) some.filled)

  -- a column of the fill's own
  pub fills_own : new ≡ row ++ own ∷ [] → FillsTo fill cells (n + 1) next new (own.0 + 1)
  fills_own e = record {
    done = some.done;
    parts = some.parts;
    made = e ∙ ap (λ (l : Row). l ++ own ∷ []) some.made ∙ sym (with_end least some.done (take n fill) own some.under rising) ∙ ap (with_cells some.done) (sym taken);
    under = under_too least (own.0 + 1) some.done (omega arith) some.under;
    filled = more_filled;
  }

  -- a column with another cell
  pub fills_set : (cell : ℕ × CellRef) (others : CellsRef) (after : Option ((ℕ × CellRef) × CellsRef)) → next ≡ Some (cell, others) → cell.0 ≡ own.0 → cells_in_ref others ≡ waiting after → new ≡ row ++ (own.0, cell_in cell.1) ∷ [] → FillsTo fill cells (n + 1) after new (own.0 + 1)
  fills_set cell others after here same rest e =
      let c : ℕ × Cell = (cell.0, cell_in cell.1) in
      record {
        done = some.done ++ c ∷ [];
        parts = some.parts ∙ ap (λ o. some.done ++ waiting o) here ∙ ap (λ (l : Row). some.done ++ c ∷ l) rest ∙ sym (append_assoc some.done (c ∷ []) (waiting after));
        made = e ∙ ap (λ (l : Row). l ++ (own.0, cell_in cell.1) ∷ []) some.made ∙ sym (with_end least some.done (take n fill) (own.0, cell_in cell.1) some.under rising)
            ∙ ap (with_cells some.done) (sym (put_at_end least cell.0 (cell_in cell.1) (take n fill) own some.filled (omega arith) (sym same)))
            ∙ sym (with_last some.done c (take n fill ++ own ∷ [])) ∙ ap (with_cells (some.done ++ c ∷ [])) (sym taken);
        under = under_more least (own.0 + 1) some.done c (omega arith) (omega arith) some.under;
        filled = more_filled;
      }

pub fills_all : (fill : Row) (cells : CellsRef) (n : ℕ) (next : Option ((ℕ × CellRef) × CellsRef)) (row : Row) (least : ℕ) → FillsTo fill cells n next row least → take n fill ≡ fill → next ≡ None → row ≡ with_cells (cells_in_ref cells) fill
fills_all fill cells n next row least some all none =
    some.made ∙ ap (with_cells some.done) all ∙ ap (λ (l : Row). with_cells l fill) (sym (some.parts ∙ ap (λ o. some.done ++ waiting o) none ∙ append-nil some.done))
