-- Cells that lie over others: a row lies over all that is put under it, so each column has the cell that was put first.
use Rattle.std.proofs.Common.{◌≡◌, ℕ, zero, suc, ◌<◌, List, [], ◌∷◌, Bool, true, false, ◌||◌, length, get_or, refl, sym, ap, ◌∙◌, arith, inl, inr}
use Rattle.std.specs.Prelude.{◌==◌}
use Rattle.std.proofs.lemmas.Bool.{false≢true, cases_order}
use Rattle.std.proofs.lemmas.Bool.Decides.{nat_tests}
use Rattle.std.specs.List.{list_any, AllByRecursion}
use Rattle.std.specs.Ordering.{nat_cmp, is_eq}
use Rattle.std.specs.declared.cmp.Ordering.TheVariants.{Less, Equal, Greater}
use Rattle.std.specs.FinMap.Entries.{put}
use Rattle.kt_base.specs.declared.cell.Cell.{Cell}
use Rattle.kt_base.specs.declared.cell_ref.CellRef.{CellRef}
use Rattle.kt_base.specs.Borrowed.{cell_in}
use Rattle.kt_cells.specs.Borrowed.{cells_in, cells_in_ref}
use Rattle.kt_cells.specs.declared.cells_ref.CellsRef.{CellsRef}
use Rattle.kt_history.specs.Rows.{Row, with_cells}
use Rattle.kt_history.proofs.Borrowed.{put_in}
use Rattle.kt_history.proofs.Merging.{put_less, put_same, put_more, put_twice, put_below, again}

-- ---- a row over another, over a third

put_over : (id : ℕ) (x : Cell) (over row : Row) → with_cells (put nat_cmp id x over) row ≡ put nat_cmp id x (with_cells over row)
put_over id x [] row = refl
put_over id x (c ∷ over) row = elim (cases_order id c.0) [
  | inl same ↦ ap (λ (l : Row). with_cells l row) (put_same id x c over same) ∙ replaced same
  | inr (inl less) ↦ ap (λ (l : Row). with_cells l row) (put_less id x c over less)
  | inr (inr more) ↦ ap (λ (l : Row). with_cells l row) (put_more id x c over more) ∙ ap (put nat_cmp c.0 c.1) (put_over id x over row) ∙ put_below c.0 id c.1 x (with_cells over row) more
]
  where
    replaced : id ≡ c.0 → put nat_cmp c.0 x (with_cells over row) ≡ put nat_cmp id x (put nat_cmp c.0 c.1 (with_cells over row))
    replaced same = rw same (sym (put_twice c.0 x c.1 (with_cells over row)))

pub laid : (cells over row : Row) → with_cells (with_cells cells over) row ≡ with_cells cells (with_cells over row)
laid [] over row = refl
laid (c ∷ cells) over row = put_over c.0 c.1 (with_cells cells over) row ∙ ap (put nat_cmp c.0 c.1) (laid cells over row)

-- nothing lies over it
pub no_cells : (cells : List (ℕ × CellRef)) (row : Row) → cells_in cells ≡ row → (length cells == 0) ≡ true → row ≡ []
no_cells [] row is none = sym is
no_cells (c ∷ cells) row is none = absurd (let zero_len : suc (length cells) ≡ 0 = grind (arith, nat_tests) in omega (arith, zero_len))

pub laid_on_none : (cells over new row : Row) → over ≡ [] → new ≡ with_cells cells over → with_cells new row ≡ with_cells over (with_cells cells row)
laid_on_none cells over new row none made =
    ap (λ (l : Row). with_cells l row) made ∙ laid cells over row ∙ ap (λ (l : Row). with_cells cells (with_cells l row)) none ∙ sym (ap (λ (l : Row). with_cells l (with_cells cells row)) none)

-- ---- a column that the row has

-- whether cells have one of a column
abbrev pub has : {X : Type 0} → ℕ → List (ℕ × X) → Bool
has id cells = list_any (λ c. is_eq (nat_cmp id c.0)) cells

is_or : (a b : Bool) → b ≡ true → (a || b) ≡ true
is_or true b e = refl
is_or false b e = e

pub has_at : {X : Type 0} (id at : ℕ) (cells : List (ℕ × X)) (d : ℕ × X) → at < length cells → (get_or cells at d).0 ≡ id → list_any (λ c. is_eq (nat_cmp id c.0)) cells ≡ true
has_at id at [] d lt is = absurd (omega arith)
has_at id zero (c ∷ cells) d lt is = let o : nat_cmp id c.0 ≡ Equal = grind (arith, nat_tests, is) in ap (λ r. is_eq r || has id cells) o
has_at id (suc at) (c ∷ cells) d lt is = is_or (is_eq (nat_cmp id c.0)) (has id cells) (has_at id at cells d (omega arith) is)

-- what is put under it there, does not show
pub hidden : (id : ℕ) (x : Cell) (cells : List (ℕ × CellRef)) (row : Row) → list_any (λ c. is_eq (nat_cmp id c.0)) cells ≡ true → with_cells (cells_in cells) (put nat_cmp id x row) ≡ with_cells (cells_in cells) row
hidden id x [] row e = absurd (false≢true e)
hidden id x (c ∷ cells) row e = elim (cases_order id c.0) [
  | inl same ↦ rw same (again c.0 (cell_in c.1) x (cells_in cells) row)
  | inr (inl less) ↦ let o : nat_cmp id c.0 ≡ Less = grind (arith, nat_tests, less) in ap (put nat_cmp c.0 (cell_in c.1)) (hidden id x cells row (sym (ap (λ r. is_eq r || has id cells) o) ∙ e))
  | inr (inr more) ↦ let o : nat_cmp id c.0 ≡ Greater = grind (arith, nat_tests, more) in ap (put nat_cmp c.0 (cell_in c.1)) (hidden id x cells row (sym (ap (λ r. is_eq r || has id cells) o) ∙ e))
]

pub all_hidden : (id : ℕ) (cells : List (ℕ × CellRef)) (more row : Row) → AllByRecursion (λ (c : ℕ × Cell). c.0 ≡ id) more → list_any (λ c. is_eq (nat_cmp id c.0)) cells ≡ true → with_cells (cells_in cells) (with_cells more row) ≡ with_cells (cells_in cells) row
all_hidden id cells [] row all e = refl
all_hidden id cells (c ∷ more) row all e =
    ap (λ (n : ℕ). with_cells (cells_in cells) (put nat_cmp n c.1 (with_cells more row))) all.0 ∙ hidden id c.1 cells (with_cells more row) e ∙ all_hidden id cells more row all.1 e

-- ---- a column that it lacks

-- no cell is of this column
abbrev AreOther : ℕ → Row → Type 0
AreOther id [] = Unit {0}
AreOther id (c ∷ cells) = ((id ≡ c.0) → ⊥) × AreOther id cells

past : (id : ℕ) (x : Cell) (over row : Row) → AreOther id over → put nat_cmp id x (with_cells over row) ≡ with_cells over (put nat_cmp id x row)
past id x [] row other = refl
past id x (c ∷ over) row other = elim (cases_order id c.0) [
  | inl same ↦ absurd (other.0 same)
  | inr (inl less) ↦ put_below id c.0 x c.1 (with_cells over row) less ∙ ap (put nat_cmp c.0 c.1) (past id x over row other.1)
  | inr (inr more) ↦ sym (put_below c.0 id c.1 x (with_cells over row) more) ∙ ap (put nat_cmp c.0 c.1) (past id x over row other.1)
]

rest_of_none : (a b : Bool) → (a || b) ≡ false → b ≡ false
rest_of_none true b e = absurd (false≢true (sym e))
rest_of_none false b e = e

are_other : (id : ℕ) (cells : List (ℕ × CellRef)) → has id cells ≡ false → AreOther id (cells_in cells)
are_other id [] e = tt
are_other id (c ∷ cells) e = (not_here, are_other id cells (rest_of_none (is_eq (nat_cmp id c.0)) (has id cells) e))
  where
    not_here : id ≡ c.0 → ⊥
    not_here same = let o : nat_cmp id c.0 ≡ Equal = grind (arith, nat_tests, same) in false≢true (sym e ∙ ap (λ r. is_eq r || has id cells) o)

-- what is put into it there, is as if it had been put under it
pub shown : (id : ℕ) (x : CellRef) (cells : List (ℕ × CellRef)) (row : Row) → list_any (λ c. is_eq (nat_cmp id c.0)) cells ≡ false → with_cells (cells_in (put nat_cmp id x cells)) row ≡ with_cells (cells_in cells) (put nat_cmp id (cell_in x) row)
shown id x cells row e = ap (λ (l : Row). with_cells l row) (put_in id x cells) ∙ put_over id (cell_in x) (cells_in cells) row ∙ past id (cell_in x) (cells_in cells) row (are_other id cells e)

-- ---- several cells

-- some of the cells were put under others
pub record LiesOver (more rest : CellsRef) (start now : List (ℕ × CellRef)) : Type 0 where
  pub rows : (row : Row) → with_cells (cells_in now) (with_cells (cells_in_ref rest) row) ≡ with_cells (cells_in start) (with_cells (cells_in_ref more) row)

pub lies_none : (more : CellsRef) (start : List (ℕ × CellRef)) → LiesOver more more start start
lies_none more start = record { rows = λ row. refl }

pub lies_one : (more rest behind : CellsRef) (start now new : List (ℕ × CellRef)) (id : ℕ) (cell : CellRef) → LiesOver more rest start now → cells_in_ref rest ≡ (id, cell_in cell) ∷ cells_in_ref behind
    → ((row : Row) → with_cells (cells_in new) row ≡ with_cells (cells_in now) (put nat_cmp id (cell_in cell) row)) → LiesOver more behind start new
lies_one more rest behind start now new id cell so_far parts made =
    record { rows = λ row. made (with_cells (cells_in_ref behind) row) ∙ sym (ap (λ (l : Row). with_cells (cells_in now) (with_cells l row)) parts) ∙ so_far.rows row }

pub lies_all : (more rest : CellsRef) (start now : List (ℕ × CellRef)) → LiesOver more rest start now → cells_in_ref rest ≡ [] → (row : Row) → with_cells (cells_in now) row ≡ with_cells (cells_in start) (with_cells (cells_in_ref more) row)
lies_all more rest start now so_far none row = sym (ap (λ (l : Row). with_cells (cells_in now) (with_cells l row)) none) ∙ so_far.rows row
