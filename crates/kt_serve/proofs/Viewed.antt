-- The rows that views show are those of the run; and views that have the same rows.
use Rattle.std.proofs.Common.{◌≡◌, ◌≤◌, ℕ, List, [], ◌∷◌, Option, Some, None, Bool, true, false, refl, sym, ap, ◌∙◌, subst, T, map}
use Rattle.std.specs.Option.{option_or}
use Rattle.std.specs.FinMap.Entries.{is_sorted, find}
use Rattle.std.specs.List.{All}
use Rattle.std.proofs.lemmas.List.Elements.{All-head, All-tail, All-cons, All-nil}
use Rattle.kt_history.specs.Rows.{Row, key_cmp}
use Rattle.kt_history.specs.History.{rows_at}
use Rattle.kt_histlaws.specs.Histories.{or_else, first_some}
use Rattle.kt_histlaws.specs.Core.{Core, Stands, run_past}
use Rattle.kt_history.proofs.RowLaws.{sorted-replay}
use Rattle.kt_scan.specs.Live.{row_in, AreRowsOf}

first_is : (a b : Option Row) → option_or a b ≡ or_else a b
first_is None b = refl
first_is (Some x) b = refl

-- the row of the first view that has one
row_in_is : {V : Type 0} (row_of : V → List ℕ → ℕ → Option Row) (views : List V) (key : List ℕ) (t : ℕ) → row_in row_of views key t ≡ first_some (map (λ v. row_of v key t) views)
row_in_is row_of [] key t = refl
row_in_is row_of (v ∷ views) key t = ap (option_or (row_of v key t)) (row_in_is row_of views key t) ∙ first_is (row_of v key t) (first_some (map (λ v. row_of v key t) views))

to_T : (b : Bool) → b ≡ true → T b
to_T b h = subst T (sym h) tt

of_T : (b : Bool) → T b → b ≡ true
of_T true h = refl
of_T false h = absurd h

-- the rows of a run rise by key
run_rises : (core : Core) (t : ℕ) → Stands core → is_sorted key_cmp (rows_at (run_past core) t) ≡ true
run_rises core t st =
    let past_is : run_past core ≡ st.past = ap (λ s. s.past) st.run.state in
    let rises = of_T _ (sorted-replay t st.past.writes st.past.base (to_T _ st.flown.ends.is.rows)) in
    ap (λ p. is_sorted key_cmp (rows_at p t)) past_is ∙ rises

-- so they are what views show whose row of each key is the run's
pub rows_of_run : {V : Type 0} (row_of : V → List ℕ → ℕ → Option Row) (core : Core) (t : ℕ) (views : List V) → Stands core → ((key : List ℕ) → first_some (map (λ v. row_of v key t) views) ≡ find key_cmp key (rows_at (run_past core) t))
    → AreRowsOf (λ key. row_in row_of views key t) (rows_at (run_past core) t)
rows_of_run row_of core t views st rows = (run_rises core t st, λ key. sym (row_in_is row_of views key t ∙ rows key))

-- ---- views that have the same rows

-- the row of a key comes of the rows that the views have of it
pub row_in_same : {V W : Type 0} (f : V → List ℕ → ℕ → Option Row) (g : W → List ℕ → ℕ → Option Row) (xs : List V) (ys : List W) (key : List ℕ) (t : ℕ) → map (λ v. f v key t) xs ≡ map (λ w. g w key t) ys → row_in f xs key t ≡ row_in g ys key t
row_in_same f g xs ys key t e = row_in_is f xs key t ∙ ap first_some e ∙ sym (row_in_is g ys key t)

at_key : {V : Type 0} (f : V → List ℕ → Option Row) (xs : List V) (key : List ℕ) → map (λ (h : List ℕ → Option Row). h key) (map f xs) ≡ map (λ v. f v key) xs
at_key f [] key = refl
at_key f (x ∷ xs) key = ap (λ rs. f x key ∷ rs) (at_key f xs key)

pub each_key : {V W : Type 0} (f : V → List ℕ → Option Row) (g : W → List ℕ → Option Row) (xs : List V) (ys : List W) → map f xs ≡ map g ys → (key : List ℕ) → map (λ v. f v key) xs ≡ map (λ w. g w key) ys
each_key f g xs ys e key = sym (at_key f xs key) ∙ ap (map (λ (h : List ℕ → Option Row). h key)) e ∙ at_key g ys key

-- and marks that are the same are as low
heads : (a b : ℕ) (xs ys : List ℕ) → a ∷ xs ≡ b ∷ ys → (a ≡ b) × (xs ≡ ys)
heads a b xs ys e = let h : a ≡ b = cc in let t : xs ≡ ys = cc in (h, t)

nil_cons : (a : ℕ) (xs : List ℕ) → a ∷ xs ≡ [] → ⊥
nil_cons a xs e = cc

pub marks_same : {V W : Type 0} (f : V → ℕ) (g : W → ℕ) (m : ℕ) (xs : List V) (ys : List W) → map f xs ≡ map g ys → All (λ w. g w ≤ m) ys → All (λ v. f v ≤ m) xs
marks_same f g m [] ys e all = All-nil (λ v. f v ≤ m)
marks_same f g m (x ∷ xs) [] e all = absurd (nil_cons (f x) (map f xs) e)
marks_same f g m (x ∷ xs) (y ∷ ys) e all =
    let parts = heads (f x) (g y) (map f xs) (map g ys) e in
    All-cons (λ v. f v ≤ m) x xs (subst (λ n. n ≤ m) (sym parts.0) (All-head (λ w. g w ≤ m) y ys all)) (marks_same f g m xs ys parts.1 (All-tail (λ w. g w ≤ m) y ys all))
