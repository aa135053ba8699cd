-- Rows that are merged from a fill and the cells in place of its own, column by column.
use Rattle.std.proofs.Common.{◌≡◌, ℕ, ◌+◌, ◌<◌, ◌≤◌, List, [], ◌∷◌, ◌++◌, length, take, drop, get_or, refl, sym, ap, ◌∙◌, arith, inl, inr}
use Rattle.std.proofs.lemmas.List.{append_assoc, append-nil, take_more, drop_more, drop_all}
use Rattle.std.proofs.lemmas.Bool.{cases_order}
use Rattle.std.specs.Ordering.{nat_cmp}
use Rattle.std.specs.FinMap.Entries.{put}
use Rattle.kt_base.specs.declared.cell.Cell.{Cell}
use Rattle.kt_base.specs.declared.cell_ref.CellRef.{CellRef}
use Rattle.kt_base.specs.Borrowed.{cell_in}
use Rattle.kt_cells.specs.Borrowed.{cells_in}
use Rattle.kt_history.specs.Rows.{Row, with_cells}
use Rattle.kt_history.proofs.Borrowed.{append_in}
use Rattle.kt_history.proofs.Merging.{AreUnder, put_less, put_same, put_more, under_more}

-- ---- a cell behind others

-- a column below the last one is put before it
pub put_before : (a : ℕ) (x : Cell) (es : Row) (f : ℕ × Cell) → a < f.0 → put nat_cmp a x (es ++ f ∷ []) ≡ put nat_cmp a x es ++ f ∷ []
put_before a x [] f h = put_less a x f [] h
put_before a x (e ∷ es) f h = elim (cases_order a e.0) [
  | inl same ↦ put_same a x e (es ++ f ∷ []) same ∙ ap (λ (l : Row). l ++ f ∷ []) (sym (put_same a x e es same))
  | inr (inl less) ↦ put_less a x e (es ++ f ∷ []) less ∙ ap (λ (l : Row). l ++ f ∷ []) (sym (put_less a x e es less))
  | inr (inr more) ↦ put_more a x e (es ++ f ∷ []) more ∙ ap (λ (l : Row). e ∷ l) (put_before a x es f h) ∙ ap (λ (l : Row). l ++ f ∷ []) (sym (put_more a x e es more))
]

-- the last column is put where it stands
pub put_at_end : (n id : ℕ) (x : Cell) (es : Row) (f : ℕ × Cell) → AreUnder n es → n ≤ id → f.0 ≡ id → put nat_cmp id x (es ++ f ∷ []) ≡ es ++ (f.0, x) ∷ []
put_at_end n id x [] f under le is = put_same id x f [] (sym is)
put_at_end n id x (e ∷ es) f under le is = put_more id x e (es ++ f ∷ []) (omega (arith, under.0)) ∙ ap (λ (l : Row). e ∷ l) (put_at_end n id x es f under.1 le is)

pub with_end : (n : ℕ) (cells es : Row) (f : ℕ × Cell) → AreUnder n cells → n ≤ f.0 → with_cells cells (es ++ f ∷ []) ≡ with_cells cells es ++ f ∷ []
with_end n [] es f under le = refl
with_end n (c ∷ cells) es f under le = ap (put nat_cmp c.0 c.1) (with_end n cells es f under.1 le) ∙ put_before c.0 c.1 (with_cells cells es) f (omega (arith, under.0))

pub with_last : (cells : Row) (c : ℕ × Cell) (es : Row) → with_cells (cells ++ c ∷ []) es ≡ with_cells cells (put nat_cmp c.0 c.1 es)
with_last [] c es = refl
with_last (d ∷ cells) c es = ap (put nat_cmp d.0 d.1) (with_last cells c es)

pub under_too : (n m : ℕ) (cells : Row) → n ≤ m → AreUnder n cells → AreUnder m cells
under_too n m [] le h = tt
under_too n m (d ∷ cells) le h = (omega (arith, h.0), under_too n m cells le h.1)

-- ---- both, column by column

-- the columns of the fill up to a place have their cells, and of all cells these are still to be set
pub record Fills (fill all waiting : Row) (n : ℕ) (row : Row) (least : ℕ) : Type 0 where
  pub done : Row
  pub parts : all ≡ done ++ waiting
  pub made : row ≡ with_cells done (take n fill)
  pub under : AreUnder least done
  pub filled : AreUnder least (take n fill)

pub fills_from : (fill all waiting row : Row) → all ≡ waiting → row ≡ [] → Fills fill all waiting 0 row 0
fills_from fill all waiting row parts none = record { done = []; parts = parts; made = none; under = tt; filled = tt }

module _ (fill all waiting : Row) (n : ℕ) (row new : Row) (least : ℕ) (own : ℕ × Cell) (some : Fills fill all waiting n row least) (within : n < length fill) (is : own ≡ get_or fill n own) (rising : least ≤ own.0) where
  taken : take (n + 1) fill ≡ take n fill ++ own ∷ []
  taken = take_more fill n own within ∙ ap (λ (e : ℕ × Cell). take n fill ++ e ∷ []) (sym is)

  more_filled : AreUnder (own.0 + 1) (take (n + 1) fill)
  more_filled = rw taken (under_more least (own.0 + 1) (take n fill) own (omega arith) (omega arith) some.filled)

  -- a column of the fill's own
  pub fills_with_own : new ≡ row ++ own ∷ [] → Fills fill all waiting (n + 1) new (own.0 + 1)
  fills_with_own e = record {
    done = some.done;
    parts = some.parts;
    made = e ∙ ap (λ (l : Row). l ++ own ∷ []) some.made ∙ sym (with_end least some.done (take n fill) own some.under rising) ∙ ap (with_cells some.done) (sym taken);
    under = under_too least (own.0 + 1) some.done (omega arith) some.under;
    filled = more_filled;
  }

  -- a column with another cell
  pub fills_with : (id : ℕ) (x : Cell) (others : Row) → waiting ≡ (id, x) ∷ others → id ≡ own.0 → new ≡ row ++ (own.0, x) ∷ [] → Fills fill all others (n + 1) new (own.0 + 1)
  fills_with id x others here same e = record {
    done = some.done ++ (id, x) ∷ [];
    parts = some.parts ∙ ap (λ (l : Row). some.done ++ l) here ∙ sym (append_assoc some.done ((id, x) ∷ []) others);
    made = e ∙ ap (λ (l : Row). l ++ (own.0, x) ∷ []) some.made ∙ sym (with_end least some.done (take n fill) (own.0, x) some.under rising)
        ∙ ap (with_cells some.done) (sym (put_at_end least id x (take n fill) own some.filled (omega arith) (sym same)))
        ∙ sym (with_last some.done (id, x) (take n fill ++ own ∷ [])) ∙ ap (with_cells (some.done ++ (id, x) ∷ [])) (sym taken);
    under = under_more least (own.0 + 1) some.done (id, x) (omega arith) (omega arith) some.under;
    filled = more_filled;
  }

pub filled_whole : (fill all waiting : Row) (n : ℕ) (row : Row) (least : ℕ) → Fills fill all waiting n row least → take n fill ≡ fill → waiting ≡ [] → row ≡ with_cells all fill
filled_whole fill all waiting n row least some whole none =
    some.made ∙ ap (with_cells some.done) whole ∙ ap (λ (l : Row). with_cells l fill) (sym (some.parts ∙ ap (λ (l : Row). some.done ++ l) none ∙ append-nil some.done))

pub filled_all : (fill : Row) (over : List (ℕ × CellRef)) (at n : ℕ) (row : Row) (least : ℕ) → Fills fill (cells_in over) (cells_in (drop at over)) n row least → take n fill ≡ fill → length over ≤ at → row ≡ with_cells (cells_in over) fill
filled_all fill over at n row least some whole past = filled_whole fill (cells_in over) (cells_in (drop at over)) n row least some whole (ap cells_in (drop_all at over past))

-- a column that the cells at this place have
pub fills_over : (fill : Row) (over : List (ℕ × CellRef)) (at n : ℕ) (now new : List (ℕ × CellRef)) (least : ℕ) (own : ℕ × Cell) (d : ℕ × CellRef) → Fills fill (cells_in over) (cells_in (drop at over)) n (cells_in now) least → n < length fill → own ≡ get_or fill n own → least ≤ own.0
    → at < length over → (get_or over at d).0 ≡ own.0 → new ≡ now ++ (own.0, (get_or over at d).1) ∷ [] → Fills fill (cells_in over) (cells_in (drop (at + 1) over)) (n + 1) (cells_in new) (own.0 + 1)
fills_over fill over at n now new least own d some within is rising there same e =
    fills_with fill (cells_in over) (cells_in (drop at over)) n (cells_in now) (cells_in new) least own some within is rising (get_or over at d).0 (cell_in (get_or over at d).1) (cells_in (drop (at + 1) over)) (ap cells_in (drop_more over at d there)) same
    (ap cells_in e ∙ append_in now ((own.0, (get_or over at d).1) ∷ []))
