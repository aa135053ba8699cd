-- The columns of two tables, one after another.
use Rattle.std.proofs.Common.{◌≡◌, ◌≢◌, ◌<◌, ◌≤◌, ◌+◌, ℕ, zero, suc, min, inl, inr, List, [], ◌∷◌, ◌++◌, length, take, get_or, Some, None, refl, sym, ap, subst, ◌∙◌, arith}
use Rattle.std.specs.Prelude.{slice_get}
use Rattle.std.proofs.lemmas.Bool.{cases_lt}
use Rattle.std.proofs.lemmas.List.{take_more, take_all}
use Rattle.kt_schema.specs.declared.column.Column.{Column}
use Rattle.kt_reopen.specs.Tables.{AreLike, AllAreLike, Differ, DifferFirst}
use Rattle.kt_reopen.proofs.Replayed.{here_is}

alike_end : (xs ys : List Column) (x y : Column) → AllAreLike xs ys → AreLike x y → AllAreLike (xs ++ x ∷ []) (ys ++ y ∷ [])
alike_end [] [] x y h e = (e, tt)
alike_end [] (d ∷ ys) x y h e = absurd h
alike_end (c ∷ xs) [] x y h e = absurd h
alike_end (c ∷ xs) (d ∷ ys) x y h e = (h.0, alike_end xs ys x y h.1 e)

past : (xs : List Column) (n : ℕ) → length xs ≤ n → slice_get xs n ≡ None
past [] n le = refl
past (x ∷ xs) zero le = absurd (omega arith)
past (x ∷ xs) (suc n) le = past xs n (omega arith)

there : (xs : List Column) (n : ℕ) → n < length xs → (x : Column) × (slice_get xs n ≡ Some x)
there [] n lt = absurd (omega arith)
there (x ∷ xs) zero lt = (x, refl)
there (x ∷ xs) (suc n) lt = there xs n (omega arith)

module _ (xs ys : List Column) (i : ℕ) where
  module _ (x y : Column) (low : i < length xs) (low' : i < length ys) (is : x ≡ get_or xs i x) (is' : y ≡ get_or ys i y) where
    -- one column more is alike
    pub alike_more : AllAreLike (take i xs) (take i ys) → AreLike x y → AllAreLike (take (i + 1) xs) (take (i + 1) ys)
    alike_more h e =
        let one : take (i + 1) xs ≡ take i xs ++ x ∷ [] = take_more xs i x low ∙ ap (λ z. take i xs ++ z ∷ []) (sym is) in
        let other : take (i + 1) ys ≡ take i ys ++ y ∷ [] = take_more ys i y low' ∙ ap (λ z. take i ys ++ z ∷ []) (sym is') in
        subst (λ l. AllAreLike l (take (i + 1) ys)) (sym one) (subst (AllAreLike (take i xs ++ x ∷ [])) (sym other) (alike_end (take i xs) (take i ys) x y h e))

    -- it is the first that is another one
    pub differ_here : AllAreLike (take i xs) (take i ys) → ¬ AreLike x y → DifferFirst xs ys (i + 1)
    differ_here h other = record {
      before = i;
      at_is = refl;
      long = (omega arith, omega arith);
      alike = h;
      here = subst (λ o. Differ o (slice_get ys i)) (sym (here_is xs i x low is refl)) (subst (Differ (Some x)) (sym (here_is ys i y low' is' refl)) other);
    }

  -- all that both have are alike
  module _ (all : i ≡ min (length xs) (length ys)) (h : AllAreLike (take i xs) (take i ys)) where
    pub alike_all : length xs ≡ length ys → AllAreLike xs ys
    alike_all same = subst (λ l. AllAreLike l ys) (take_all i xs (omega arith)) (subst (AllAreLike (take i xs)) (take_all i ys (omega arith)) h)

    pub differ_end : length xs ≢ length ys → DifferFirst xs ys (i + 1)
    differ_end apart = record {
      before = i;
      at_is = refl;
      long = (omega arith, omega arith);
      alike = h;
      here = elim (cases_lt (length xs) (length ys)) [
        | inl less ↦
            let y = there ys i (omega arith) in
            subst (λ o. Differ o (slice_get ys i)) (sym (past xs i (omega arith))) (subst (Differ None) (sym y.1) tt)
        | inr more ↦
            let x = there xs i (let e = apart in omega arith) in
            subst (λ o. Differ o (slice_get ys i)) (sym x.1) (subst (Differ (Some x.0)) (sym (past ys i (omega arith))) tt)
      ];
    }
