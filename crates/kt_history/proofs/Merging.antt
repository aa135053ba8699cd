-- Cells that are put in by rising column, each behind the place of the one before it.
use Rattle.std.proofs.Common.{◌≡◌, ℕ, zero, suc, ◌+◌, ◌<◌, ◌≤◌, List, [], ◌∷◌, ◌++◌, length, get_or, Ok, Err, refl, sym, ap, ◌∙◌, arith, inl, inr, ◌⊎◌}
use Rattle.std.proofs.lemmas.List.{append_assoc, append-nil}
use Rattle.std.proofs.lemmas.Bool.{cases_order}
use Rattle.std.proofs.lemmas.Bool.Decides.{nat_tests}
use Rattle.std.specs.Ordering.{nat_cmp}
use Rattle.std.specs.declared.cmp.Ordering.TheVariants.{Less, Equal, Greater}
use Rattle.std.specs.FinMap.Entries.{put}
use Rattle.kt_base.specs.declared.cell.Cell.{Cell}
use Rattle.kt_base.specs.declared.cell_ref.CellRef.{CellRef}
use Rattle.kt_base.specs.Borrowed.{cell_in}
use Rattle.kt_cells.specs.Borrowed.{cells_in, cells_in_ref}
use Rattle.kt_cells.specs.declared.cells_ref.CellsRef.{CellsRef}
use Rattle.std.specs.Prelude.{slice_set}
use Rattle.std.specs.List.{insert}
use Rattle.kt_history.specs.Places.{place_of, one_later, AreBelow}
use Rattle.kt_history.specs.Rows.{Row, with_cells}
use Rattle.kt_history.proofs.Borrowed.{put_in}

-- ---- one cell

module _ {X : Type 0} where
  pub put_less : (a : ℕ) (x : X) (e : ℕ × X) (es : List (ℕ × X)) → a < e.0 → put nat_cmp a x (e ∷ es) ≡ (a, x) ∷ e ∷ es
  put_less a x e es h = let o : nat_cmp a e.0 ≡ Less = grind (arith, nat_tests, h) in rw o refl

  pub put_same : (a : ℕ) (x : X) (e : ℕ × X) (es : List (ℕ × X)) → a ≡ e.0 → put nat_cmp a x (e ∷ es) ≡ (e.0, x) ∷ es
  put_same a x e es h = let o : nat_cmp a e.0 ≡ Equal = grind (arith, nat_tests, h) in rw o refl

  pub put_more : (a : ℕ) (x : X) (e : ℕ × X) (es : List (ℕ × X)) → e.0 < a → put nat_cmp a x (e ∷ es) ≡ e ∷ put nat_cmp a x es
  put_more a x e es h = let o : nat_cmp a e.0 ≡ Greater = grind (arith, nat_tests, h) in rw o refl

  -- a column that is put twice has the cell that was put last
  pub put_twice : (a : ℕ) (x y : X) (es : List (ℕ × X)) → put nat_cmp a x (put nat_cmp a y es) ≡ put nat_cmp a x es
  put_twice a x y [] = put_same a x (a, y) [] refl
  put_twice a x y (e ∷ es) = elim (cases_order a e.0) [
    | inl same ↦ ap (put nat_cmp a x) (put_same a y e es same) ∙ put_same a x (e.0, y) es same ∙ sym (put_same a x e es same)
    | inr (inl less) ↦ ap (put nat_cmp a x) (put_less a y e es less) ∙ put_same a x (a, y) (e ∷ es) refl ∙ sym (put_less a x e es less)
    | inr (inr more) ↦ ap (put nat_cmp a x) (put_more a y e es more) ∙ put_more a x e (put nat_cmp a y es) more ∙ ap (λ rest. e ∷ rest) (put_twice a x y es) ∙ sym (put_more a x e es more)
  ]

  -- the order in which two columns are put does not matter
  pub put_below : (a b : ℕ) (x y : X) (es : List (ℕ × X)) → a < b → put nat_cmp a x (put nat_cmp b y es) ≡ put nat_cmp b y (put nat_cmp a x es)
  put_below a b x y [] h = put_less a x (b, y) [] h ∙ sym (put_more b y (a, x) [] h)
  put_below a b x y (e ∷ es) h = elim (cases_order a e.0) [
    | inl same ↦ ap (put nat_cmp a x) (put_more b y e es (omega (arith, same))) ∙ put_same a x e (put nat_cmp b y es) same ∙ sym (ap (put nat_cmp b y) (put_same a x e es same) ∙ put_more b y (e.0, x) es (omega (arith, same)))
    | inr (inl less) ↦ front less (cases_order b e.0) ∙ sym (ap (put nat_cmp b y) (put_less a x e es less) ∙ put_more b y (a, x) (e ∷ es) h)
    | inr (inr more) ↦ ap (put nat_cmp a x) (put_more b y e es (omega (arith, more))) ∙ put_more a x e (put nat_cmp b y es) more ∙ ap (λ rest. e ∷ rest) (put_below a b x y es h)
        ∙ sym (ap (put nat_cmp b y) (put_more a x e es more) ∙ put_more b y e (put nat_cmp a x es) (omega (arith, more)))
  ]
    where
      front : a < e.0 → (b ≡ e.0) ⊎ ((b < e.0) ⊎ (e.0 < b)) → put nat_cmp a x (put nat_cmp b y (e ∷ es)) ≡ (a, x) ∷ put nat_cmp b y (e ∷ es)
      front less (inl same) = ap (put nat_cmp a x) (put_same b y e es same) ∙ put_less a x (e.0, y) es less ∙ ap (λ rest. (a, x) ∷ rest) (sym (put_same b y e es same))
      front less (inr (inl under)) = ap (put nat_cmp a x) (put_less b y e es under) ∙ put_less a x (b, y) (e ∷ es) h ∙ ap (λ rest. (a, x) ∷ rest) (sym (put_less b y e es under))
      front less (inr (inr over)) = ap (put nat_cmp a x) (put_more b y e es over) ∙ put_less a x e (put nat_cmp b y es) less ∙ ap (λ rest. (a, x) ∷ rest) (sym (put_more b y e es over))

-- ---- several cells

-- a cell that is put again behind others
pub again : (id : ℕ) (x y : Cell) (cells row : Row) → put nat_cmp id x (with_cells cells (put nat_cmp id y row)) ≡ put nat_cmp id x (with_cells cells row)
again id x y [] row = put_twice id x y row
again id x y (c ∷ cells) row = elim (cases_order id c.0) [
  | inl same ↦ rw same (put_twice c.0 x c.1 _ ∙ again c.0 x y cells row ∙ sym (put_twice c.0 x c.1 _))
  | inr (inl less) ↦ put_below id c.0 x c.1 _ less ∙ ap (put nat_cmp c.0 c.1) (again id x y cells row) ∙ sym (put_below id c.0 x c.1 _ less)
  | inr (inr more) ↦ sym (put_below c.0 id c.1 x _ more) ∙ ap (put nat_cmp c.0 c.1) (again id x y cells row) ∙ put_below c.0 id c.1 x _ more
]

once : (front : Row) (c : ℕ × Cell) (rest row : Row) → with_cells (front ++ c ∷ rest) (put nat_cmp c.0 c.1 row) ≡ with_cells (front ++ c ∷ rest) row
once [] c rest row = again c.0 c.1 c.1 rest row
once (d ∷ front) c rest row = ap (put nat_cmp d.0 d.1) (once front c rest row)

-- cells of which some were set before
over : (front done rest row : Row) → with_cells (front ++ (done ++ rest)) (with_cells done row) ≡ with_cells (front ++ (done ++ rest)) row
over front [] rest row = refl
over front (c ∷ done) rest row =
    let grouped : (front ++ c ∷ []) ++ (done ++ rest) ≡ front ++ c ∷ (done ++ rest) = append_assoc front (c ∷ []) (done ++ rest) in
    once front c (done ++ rest) (with_cells done row) ∙ sym (ap (λ (cells : Row). with_cells cells (with_cells done row)) grouped) ∙ over (front ++ c ∷ []) done rest row ∙ ap (λ (cells : Row). with_cells cells row) grouped

pub set_again : (all done rest row : Row) → all ≡ done ++ rest → with_cells all (with_cells done row) ≡ with_cells all row
set_again all done rest row e = rw e (over [] done rest row)

-- columns below a number
abbrev pub AreUnder : ℕ → Row → Type 0
AreUnder n [] = Unit {0}
AreUnder n (c ∷ cells) = (c.0 < n) × AreUnder n cells

pub under_more : (n m : ℕ) (cells : Row) (c : ℕ × Cell) → n ≤ m → c.0 < m → AreUnder n cells → AreUnder m (cells ++ c ∷ [])
under_more n m [] c le lt h = (lt, tt)
under_more n m (d ∷ cells) c le lt h = (omega (arith, h.0), under_more n m cells c le lt h.1)

put_last : (n : ℕ) (c : ℕ × Cell) (done row : Row) → AreUnder n done → n ≤ c.0 → put nat_cmp c.0 c.1 (with_cells done row) ≡ with_cells (done ++ c ∷ []) row
put_last n c [] row h le = refl
put_last n c (d ∷ done) row h le = sym (put_below d.0 c.0 d.1 c.1 (with_cells done row) (omega (arith, h.0))) ∙ ap (put nat_cmp d.0 d.1) (put_last n c done row h.1 le)

-- ---- the place of a column behind others

module _ {X : Type 0} where
  behind : (at n : ℕ) (e : ℕ × X) (es : List (ℕ × X)) → AreBelow (suc at) n (e ∷ es) → AreBelow at n es
  behind at n e es below = λ k d lt. below (suc k) d (omega arith)

  -- a column that is at its place
  pub place_there : (id at : ℕ) (es : List (ℕ × X)) (d : ℕ × X) → at < length es → AreBelow at id es → (get_or es at d).0 ≡ id → Ok at ≡ place_of nat_cmp id es
  place_there id at [] d lt below is = absurd (omega arith)
  place_there id zero (e ∷ es) d lt below is = let o : nat_cmp id e.0 ≡ Equal = grind (arith, nat_tests, is) in rw o refl
  place_there id (suc at) (e ∷ es) d lt below is =
      let o : nat_cmp id e.0 ≡ Greater = grind (arith, nat_tests, below 0 e (omega arith)) in
      rw o (ap one_later (place_there id at es d (omega arith) (behind at id e es below) is))

  -- a place before which all columns are below, and at which one above stands, or none
  pub place_gap : (id at : ℕ) (es : List (ℕ × X)) → at ≤ length es → AreBelow at id es → ((d : ℕ × X) → at < length es → id < (get_or es at d).0) → Err at ≡ place_of nat_cmp id es
  place_gap id zero [] le below above = refl
  place_gap id (suc at) [] le below above = absurd (omega arith)
  place_gap id zero (e ∷ es) le below above = let o : nat_cmp id e.0 ≡ Less = grind (arith, nat_tests, above e (omega arith)) in rw o refl
  place_gap id (suc at) (e ∷ es) le below above =
      let o : nat_cmp id e.0 ≡ Greater = grind (arith, nat_tests, below 0 e (omega arith)) in
      rw o (ap one_later (place_gap id at es (omega arith) (behind at id e es below) (λ d lt. above d (omega arith))))

  -- up to the place of a column that was put, and there, the columns are not above it
  pub set_below : (id at : ℕ) (v : ℕ × X) (es : List (ℕ × X)) → at < length es → v.0 ≡ id → AreBelow at id es → (k : ℕ) (d : ℕ × X) → k < at + 1 → (get_or (slice_set es at v) k d).0 < id + 1
  set_below id at v [] lt is below k d l = absurd (omega arith)
  set_below id zero v (e ∷ es) lt is below zero d l = omega (arith, is)
  set_below id zero v (e ∷ es) lt is below (suc k) d l = absurd (omega arith)
  set_below id (suc at) v (e ∷ es) lt is below zero d l = omega (arith, below 0 e (omega arith))
  set_below id (suc at) v (e ∷ es) lt is below (suc k) d l = set_below id at v es (omega arith) is (behind at id e es below) k d (omega arith)

  pub insert_below : (id at : ℕ) (x : X) (es : List (ℕ × X)) → at ≤ length es → AreBelow at id es → (k : ℕ) (d : ℕ × X) → k < at + 1 → (get_or (insert es at (id, x)) k d).0 < id + 1
  insert_below id zero x es le below zero d l = omega arith
  insert_below id zero x es le below (suc k) d l = absurd (omega arith)
  insert_below id (suc at) x [] le below k d l = absurd (omega arith)
  insert_below id (suc at) x (e ∷ es) le below zero d l = omega (arith, below 0 e (omega arith))
  insert_below id (suc at) x (e ∷ es) le below (suc k) d l = insert_below id at x es (omega arith) (behind at id e es below) k d (omega arith)

-- some of the cells were set, by rising column
pub record SetsSome (more rest : CellsRef) (start now : List (ℕ × CellRef)) (at least : ℕ) : Type 0 where
  pub done : Row
  pub parts : cells_in_ref more ≡ done ++ cells_in_ref rest
  pub made : cells_in now ≡ with_cells done (cells_in start)
  pub under : AreUnder least done
  pub bound : at ≤ length now
  pub below : AreBelow at least now

pub sets_none : (more : CellsRef) (start : List (ℕ × CellRef)) → SetsSome more more start start 0 0
sets_none more start = record { done = []; parts = refl; made = refl; under = tt; bound = omega arith; below = λ k d lt. absurd (omega arith) }

pub sets_one : (more rest behind : CellsRef) (start now new : List (ℕ × CellRef)) (at least here id : ℕ) (cell : CellRef) → SetsSome more rest start now at least → least ≤ id → cells_in_ref rest ≡ (id, cell_in cell) ∷ cells_in_ref behind
    → new ≡ put nat_cmp id cell now → here < length new → AreBelow (here + 1) (id + 1) new → SetsSome more behind start new (here + 1) (id + 1)
sets_one more rest behind start now new at least here id cell some rising parts made within below = record {
  done = some.done ++ (id, cell_in cell) ∷ [];
  parts = some.parts ∙ ap (λ (cells : Row). some.done ++ cells) parts ∙ sym (append_assoc some.done ((id, cell_in cell) ∷ []) (cells_in_ref behind));
  made = ap cells_in made ∙ put_in id cell now ∙ ap (put nat_cmp id (cell_in cell)) some.made ∙ put_last least (id, cell_in cell) some.done (cells_in start) some.under rising;
  under = under_more least (id + 1) some.done (id, cell_in cell) (omega arith) (omega arith) some.under;
  bound = omega arith;
  below = below;
}

pub sets_all : (more rest : CellsRef) (start now : List (ℕ × CellRef)) (at least : ℕ) → SetsSome more rest start now at least → cells_in_ref rest ≡ [] → cells_in now ≡ with_cells (cells_in_ref more) (cells_in start)
sets_all more rest start now at least some none = some.made ∙ ap (λ (cells : Row). with_cells cells (cells_in start)) (sym (some.parts ∙ ap (λ (cells : Row). some.done ++ cells) none ∙ append-nil some.done))

pub sets_over : (more rest : CellsRef) (start now : List (ℕ × CellRef)) (at least : ℕ) → SetsSome more rest start now at least → with_cells (cells_in_ref more) (cells_in now) ≡ with_cells (cells_in_ref more) (cells_in start)
sets_over more rest start now at least some = ap (with_cells (cells_in_ref more)) some.made ∙ set_again (cells_in_ref more) some.done (cells_in_ref rest) (cells_in start) some.parts
