-- UNDO records that fit, row by row.
use Rattle.std.proofs.Common.{◌≡◌, ◌≤◌, ◌<◌, ◌+◌, ◌-◌, ℕ, suc, ◌^◌, length, Bor, get_or, drop, drop-cons, length-drop, inl, inr, Bool, true, false, cond, ◌&&◌, List, [], ◌∷◌, Option, Some, None, refl, sym, ap, subst, ◌∙◌, arith}
use Rattle.std.specs.Prelude.{nat_lt, IsTrue, is_some}
use Rattle.std.specs.List.{list_all, list_any}
use Rattle.std.specs.Ordering.{eq_by_cmp, is_eq, is_lt, nat_cmp}
use Rattle.std.specs.declared.cmp.Ordering.{Ordering}
use Rattle.std.specs.declared.cmp.Ordering.TheVariants.{Less, Equal, Greater}
use Rattle.std.specs.FinMap.Entries.{find, below_all, is_sorted}
use Rattle.std.specs.Cmp.{nat_cmp_is}
use Rattle.std.proofs.lemmas.Bool.{and_parts, cases_lt}
use Rattle.std.proofs.lemmas.Cmp.{nat_cmp_total}
use Rattle.kt_base.specs.declared.cell.Cell.{Cell}
use Rattle.std.proofs.lemmas.List.{drop_all}
use Rattle.kt_history.specs.declared.changes.Delta.{Delta}
use Rattle.kt_history.specs.Rows.{Row, Rows, key_cmp, apply, fits, has_columns, IsRow}
use Rattle.kt_history.specs.Stores.{Steps}
use Rattle.kt_history.proofs.Effects.{found_by_any}
use Rattle.kt_histlaws.specs.Disks.{before_all}
use Rattle.kt_rowfiles.specs.Files.{DiskRowset, row_under, records_in, falling}
use Rattle.kt_rowfiles.specs.Records.{steps_at}
use Rattle.kt_rowfiles.specs.Reading.{step_in, UndosFit}
use Rattle.kt_rowfiles.specs.Fitting.{is_row, step_fits, steps_fit, rows_fit, undos_fit_by_row}

-- a test that is true, as the definitions of rows ask it
as_true : (b : Bool) → b ≡ true → IsTrue b
as_true b h = h

row_true : (row : Option Row) → is_row row ≡ true → IsRow row
row_true None h = tt
row_true (Some row) h = as_true _ h

pub steps_are : (top : ℕ) (undos : Steps) (row : Option Row) → steps_fit top undos row ≡ true → UndosFit top undos row
steps_are top [] row h = tt
steps_are top (u ∷ undos) row h =
    let both = and_parts (step_fits top u row) (steps_fit u.0 undos (apply u.1 row)) h in
    let low = and_parts (nat_lt u.0 top) (is_row row && (fits u.1 row && has_columns u.1 row)) both.0 in
    let rest = and_parts (is_row row) (fits u.1 row && has_columns u.1 row) low.1 in
    let last = and_parts (fits u.1 row) (has_columns u.1 row) rest.1 in
    (as_true _ low.0, row_true row rest.0, as_true _ last.0, as_true _ last.1, steps_are u.0 undos (apply u.1 row) both.1)

some_is : {X : Type 0} (x y : X) → Some x ≡ Some y → x ≡ y
some_is x y e = cc

found_fits : (d : DiskRowset) (q : List ℕ) (n : ℕ) (rows : Rows) (found : ℕ × Row) → rows_fit d n rows ≡ true → row_under q n rows ≡ Some found
    → UndosFit (2 ^ 64) (falling (records_in found.0 d.undos)) (Some found.1)
found_fits d q n [] found h e = absurd (let f : None ≡ Some found = e in cc)
found_fits d q n (r ∷ rows) found h e =
    let both = and_parts (steps_fit (2 ^ 64) (falling (records_in n d.undos)) (Some r.1)) (rows_fit d (suc n) rows) h in
    by (eq_by_cmp key_cmp q r.0) e both.0 (λ f. found_fits d q (suc n) rows found both.1 f)
  where
    by : (b : Bool) → cond b (Some (n, r.1)) (row_under q (suc n) rows) ≡ Some found → steps_fit (2 ^ 64) (falling (records_in n d.undos)) (Some r.1) ≡ true
        → (row_under q (suc n) rows ≡ Some found → UndosFit (2 ^ 64) (falling (records_in found.0 d.undos)) (Some found.1))
        → UndosFit (2 ^ 64) (falling (records_in found.0 d.undos)) (Some found.1)
    by true e here more = subst (λ (f : ℕ × Row). UndosFit (2 ^ 64) (falling (records_in f.0 d.undos)) (Some f.1)) (some_is (n, r.1) found e) (steps_are (2 ^ 64) (falling (records_in n d.undos)) (Some r.1) here)
    by false e here more = more e

pub fit_by_row : undos_fit_by_row
fit_by_row d q found h e = found_fits d q 0 d.base found h e

-- ---- one record more of those that are gone over

module _ (xs : List (Bor Delta)) (i : ℕ) where
  rest_is : (x : Bor Delta) → i < length xs → x ≡ get_or xs i x → drop i xs ≡ x ∷ drop (i + 1) xs
  rest_is x low is = drop-cons xs i x low ∙ ap (λ y. y ∷ drop (suc i) xs) (sym is) ∙ (let e : suc i ≡ i + 1 = omega arith in ap (λ k. x ∷ drop k xs) e)

  pub first_next : (row row2 whole : Option Row) (x : Bor Delta) → i < length xs → x ≡ get_or xs i x → row2 ≡ apply (step_in x.now).1 row → before_all (steps_at (drop i xs)) row ≡ whole
      → before_all (steps_at (drop (i + 1) xs)) row2 ≡ whole
  first_next row row2 whole x low is e so = ap (before_all (steps_at (drop (i + 1) xs))) e ∙ sym (ap (λ ys. before_all (steps_at ys) row) (rest_is x low is)) ∙ so

  pub first_over : (row whole : Option Row) → length xs ≤ i → before_all (steps_at (drop i xs)) row ≡ whole → row ≡ whole
  first_over row whole past so = sym (ap (λ ys. before_all (steps_at ys) row) (drop_all i xs past)) ∙ so

  -- a record that fits, and the others still to be asked
  pub fit_next : (top : ℕ) (row row2 : Option Row) (whole : Bool) (x : Bor Delta) → i < length xs → x ≡ get_or xs i x → step_fits top (step_in x.now) row ≡ true → row2 ≡ apply (step_in x.now).1 row
      → steps_fit top (steps_at (drop i xs)) row ≡ whole → steps_fit (step_in x.now).0 (steps_at (drop (i + 1) xs)) row2 ≡ whole
  fit_next top row row2 whole x low is fits e so =
      ap (steps_fit (step_in x.now).0 (steps_at (drop (i + 1) xs))) e
      ∙ sym (ap (λ ys. steps_fit top (steps_at ys) row) (rest_is x low is) ∙ ap (λ b. b && steps_fit (step_in x.now).0 (steps_at (drop (i + 1) xs)) (apply (step_in x.now).1 row)) fits) ∙ so

  pub fit_never : (top : ℕ) (row : Option Row) (whole : Bool) (x : Bor Delta) → i < length xs → x ≡ get_or xs i x → step_fits top (step_in x.now) row ≡ false → steps_fit top (steps_at (drop i xs)) row ≡ whole → false ≡ whole
  fit_never top row whole x low is no_ so =
      sym (ap (λ ys. steps_fit top (steps_at ys) row) (rest_is x low is) ∙ ap (λ b. b && steps_fit (step_in x.now).0 (steps_at (drop (i + 1) xs)) (apply (step_in x.now).1 row)) no_) ∙ so

  pub fit_over : (top : ℕ) (row : Option Row) (whole : Bool) → length xs ≤ i → steps_fit top (steps_at (drop i xs)) row ≡ whole → true ≡ whole
  fit_over top row whole past so = sym (ap (λ ys. steps_fit top (steps_at ys) row) (drop_all i xs past)) ∙ so

-- ---- whether a row has the columns of cells

pub has_columns_by : (cells row : Row) → list_all (λ c. list_any (λ d. is_eq (nat_cmp c.0 d.0)) row) cells ≡ list_all (λ c. is_some (find nat_cmp c.0 row)) cells
has_columns_by [] row = refl
has_columns_by (c ∷ cells) row =
    let here = found_by_any c.0 row in
    let rest = has_columns_by cells row in
    λ k. here k && rest k

-- ---- whether ids rise, one after the other

less_of : (o : Ordering) → is_lt o ≡ true → o ≡ Less
less_of Less h = refl
less_of Equal h = cc
less_of Greater h = cc

below_less : (x y : ℕ) (row : Row) → nat_cmp x y ≡ Less → below_all nat_cmp y row ≡ true → below_all nat_cmp x row ≡ true
below_less x y [] less h = refl
below_less x y (e ∷ row) less h =
    let both = and_parts (is_lt (nat_cmp y e.0)) (below_all nat_cmp y row) h in
    ap (λ o. is_lt o && below_all nat_cmp x row) (nat_cmp_total.trans x y e.0 less (less_of (nat_cmp y e.0) both.0)) ∙ below_less x y row less both.1

is_less : (x y : ℕ) → x < y → nat_cmp x y ≡ Less
is_less x y lt = sym (nat_cmp_is x y Less lt)

not_less : (x y : ℕ) → y ≤ x → is_lt (nat_cmp x y) ≡ false
not_less x y le = elim (cases_lt y x) [
  | inl lt ↦ ap is_lt (sym (nat_cmp_is x y Greater lt))
  | inr ge ↦ let same : x ≡ y = omega arith in ap is_lt (sym (nat_cmp_is x y Equal same))
]

-- an id below the next one is below all behind that, if they rise
more_rises : (a b : ℕ × Cell) (row : Row) → nat_cmp a.0 b.0 ≡ Less → is_sorted nat_cmp (a ∷ b ∷ row) ≡ is_sorted nat_cmp (b ∷ row)
more_rises a b row less = ap (λ o. (is_lt o && below_all nat_cmp a.0 row) && is_sorted nat_cmp (b ∷ row)) less ∙ by (is_sorted nat_cmp (b ∷ row)) refl
  where
    by : (s : Bool) → is_sorted nat_cmp (b ∷ row) ≡ s → (below_all nat_cmp a.0 row && s) ≡ s
    by true e = ap (λ v. v && true) (below_less a.0 b.0 row less (and_parts (below_all nat_cmp b.0 row) (is_sorted nat_cmp row) e).0)
    by false e = elim (below_all nat_cmp a.0 row) as (λ v. (v && false) ≡ false) [ true ↦ refl | false ↦ refl ]

module _ (cells : Row) (at : ℕ) (a b : ℕ × Cell) (from : 1 ≤ at) (low : at < length cells) (a_is : a ≡ get_or cells (at - 1) a) (b_is : b ≡ get_or cells at b) where
  two_left : drop (at - 1) cells ≡ a ∷ b ∷ drop (at + 1) cells
  two_left =
      drop-cons cells (at - 1) a (omega arith) ∙ ap (λ x. x ∷ drop (suc (at - 1)) cells) (sym a_is)
      ∙ (let e : suc (at - 1) ≡ at = omega arith in ap (λ n. a ∷ drop n cells) e)
      ∙ ap (λ l. a ∷ l) (drop-cons cells at b low ∙ ap (λ x. x ∷ drop (suc at) cells) (sym b_is) ∙ (let e : suc at ≡ at + 1 = omega arith in ap (λ n. b ∷ drop n cells) e))

  one_left : drop at cells ≡ b ∷ drop (at + 1) cells
  one_left = drop-cons cells at b low ∙ ap (λ x. x ∷ drop (suc at) cells) (sym b_is) ∙ (let e : suc at ≡ at + 1 = omega arith in ap (λ n. b ∷ drop n cells) e)

  lower : (get_or cells (at - 1) a).0 < (get_or cells at b).0 → a.0 < b.0
  lower lt = subst (λ (x : ℕ × Cell). x.0 < b.0) (sym a_is) (subst (λ (x : ℕ × Cell). (get_or cells (at - 1) a).0 < x.0) (sym b_is) lt)

  pub rises_on : (whole : Bool) → (get_or cells (at - 1) a).0 < (get_or cells at b).0 → is_sorted nat_cmp (drop (at - 1) cells) ≡ whole → is_sorted nat_cmp (drop (at + 1 - 1) cells) ≡ whole
  rises_on whole lt so =
      (let e : at + 1 - 1 ≡ at = omega arith in ap (λ n. is_sorted nat_cmp (drop n cells)) e)
      ∙ ap (is_sorted nat_cmp) one_left
      ∙ sym (ap (is_sorted nat_cmp) two_left ∙ more_rises a b (drop (at + 1) cells) (is_less a.0 b.0 (lower lt))) ∙ so

  pub rises_not : (whole : Bool) → (get_or cells at b).0 ≤ (get_or cells (at - 1) a).0 → is_sorted nat_cmp (drop (at - 1) cells) ≡ whole → false ≡ whole
  rises_not whole ge so = sym (ap (is_sorted nat_cmp) two_left ∙ ap (λ v. (v && below_all nat_cmp a.0 (drop (at + 1) cells)) && is_sorted nat_cmp (b ∷ drop (at + 1) cells)) (not_less a.0 b.0 (subst (λ (x : ℕ × Cell). b.0 ≤ x.0) (sym a_is) (subst (λ (x : ℕ × Cell). x.0 ≤ (get_or cells (at - 1) a).0) (sym b_is) ge)))) ∙ so

-- at most one is left
pub rises_all : (cells : Row) (at : ℕ) (whole : Bool) → 1 ≤ at → length cells ≤ at → is_sorted nat_cmp (drop (at - 1) cells) ≡ whole → true ≡ whole
rises_all cells at whole from over so = sym (one_at_most (drop (at - 1) cells) (subst (λ n. n ≤ 1) (sym (length-drop (at - 1) cells)) (omega arith))) ∙ so
  where
    one_at_most : (row : Row) → length row ≤ 1 → is_sorted nat_cmp row ≡ true
    one_at_most [] le = refl
    one_at_most (a ∷ []) le = refl
    one_at_most (a ∷ b ∷ row) le = absurd (omega arith)
