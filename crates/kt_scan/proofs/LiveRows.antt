-- The rows over several views rise by key, and have for each key its row in the views.
use Rattle.std.proofs.Common.{◌≡◌, ℕ, zero, suc, ◌<◌, Bool, true, false, ◌&&◌, ◌||◌, cond, T, List, [], ◌∷◌, length, get_or, Option, Some, None, IsSome, refl, sym, ap, ◌∙◌, subst, arith}
use Rattle.std.specs.List.{fold, list_any, All, AllByRecursion, Contains, cons_option}
use Rattle.std.specs.Option.{option_or, option_map}
use Rattle.std.specs.declared.cmp.Ordering.{Ordering}
use Rattle.std.specs.declared.cmp.Ordering.TheVariants.{Less, Equal, Greater}
use Rattle.std.specs.Ordering.{is_lt, is_eq, eq_by_cmp}
use Rattle.std.specs.Cmp.{tied_itself}
use Rattle.std.specs.FinMap.{nat_cmp-IsAntisymmetric, slice_cmp-IsAntisymmetric}
use Rattle.std.specs.FinMap.Entries.{by_order, find, below_all, is_sorted, same_entries}
use Rattle.std.proofs.lemmas.Cmp.{nat_list_cmp_total}
use Rattle.std.proofs.lemmas.Bool.{false≢true}
use Rattle.std.proofs.lemmas.List.Elements.{All-head, All-tail, All-cons, All-nil}
use Rattle.kt_history.specs.Rows.{Row, Rows, key_cmp}
use Rattle.kt_history.specs.Views.{AreRising}
use Rattle.kt_scan.specs.Live.{with_key, with_keys, all_keys, row_in, rows_of, live_rows, AreRowsOf}
use Rattle.kt_scan.proofs.KeyOrder.{Below, add, all_rise}

abbrev Key : Type 0
Key = List ℕ

same_key : (x y : Key) → key_cmp x y ≡ Equal → x ≡ y
same_key x y e = slice_cmp-IsAntisymmetric nat_cmp-IsAntisymmetric x y e

equal : (o : Ordering) → is_eq o ≡ true → o ≡ Equal
equal Less h = absurd (false≢true h)
equal Equal h = refl
equal Greater h = absurd (false≢true h)

-- ---- which keys stand

same_twice : (b c : Bool) → (b || c) ≡ (b || (b || c))
same_twice true c = refl
same_twice false c = refl

turn : (a b c : Bool) → (a || (b || c)) ≡ (b || (a || c))
turn true true c = refl
turn true false c = refl
turn false b c = refl

shift : (a b c : Bool) → ((a || b) || c) ≡ (b || (a || c))
shift true true c = refl
shift true false c = refl
shift false b c = refl

module _ (key : Key) where
  abbrev is : Key → Bool
  is k = eq_by_cmp key_cmp key k

  any_key : (k : Key) (ys : List Key) → list_any is (with_key k ys) ≡ (is k || list_any is ys)
  any_key k [] = refl
  any_key k (x ∷ xs) = by (any_key k xs) (key_cmp k x) refl
    where
      by : list_any is (with_key k xs) ≡ (is k || list_any is xs) → (o : Ordering) → key_cmp k x ≡ o → list_any is (by_order o (k ∷ x ∷ xs) (x ∷ xs) (x ∷ with_key k xs)) ≡ (is k || list_any is (x ∷ xs))
      by more Less e = refl
      by more Equal e = same_twice (is x) (list_any is xs) ∙ ap (λ y. is y || (is x || list_any is xs)) (sym (same_key k x e))
      by more Greater e = ap (λ b. is x || b) more ∙ turn (is x) (is k) (list_any is xs)

  any_keys : (known new : List Key) → list_any is (with_keys known new) ≡ (list_any is known || list_any is new)
  any_keys known [] = by (list_any is known)
    where
      by : (b : Bool) → b ≡ (b || false)
      by true = refl
      by false = refl
  any_keys known (k ∷ ks) = any_keys (with_key k known) ks ∙ ap (λ b. b || list_any is ks) (any_key k known) ∙ shift (is k) (list_any is known) (list_any is ks)

  or_first : (a b : Bool) → a ≡ true → (a || b) ≡ true
  or_first a b h = ap (λ x. x || b) h

  or_second : (a b : Bool) → b ≡ true → (a || b) ≡ true
  or_second true b h = refl
  or_second false b h = h

  any_at : (xs : List Key) (i : ℕ) → i < length xs → get_or xs i key ≡ key → list_any is xs ≡ true
  any_at [] i within at = absurd (omega (arith, within))
  any_at (x ∷ xs) zero within at = ap (λ k. is k || list_any is xs) at ∙ ap (λ o. is_eq o || list_any is xs) (tied_itself nat_list_cmp_total key)
  any_at (x ∷ xs) (suc i) within at = or_second (is x) (list_any is xs) (any_at xs i (omega (arith, within)) at)

  module _ {V : Type 0} (keys : V → List Key) where
    any_stays : (known : List Key) (views : List V) → list_any is known ≡ true → list_any is (fold (add keys) known views) ≡ true
    any_stays known [] h = h
    any_stays known (v ∷ vs) h = any_stays (add keys known v) vs (any_keys known (keys v) ∙ or_first (list_any is known) (list_any is (keys v)) h)

    module _ (row : V → List ℕ → ℕ → Option Row) (t : ℕ) (Tells : V → Type 0) (have : (v : V) → Tells v → IsSome (row v key t) → Contains (keys v) key) where
      any_row : (known : List Key) (views : List V) (r : Row) → All Tells views → row_in row views key t ≡ Some r → list_any is (fold (add keys) known views) ≡ true
      any_row known [] r tell e = absurd cc
      any_row known (v ∷ vs) r tell e = by (row v key t) refl (any_row (add keys known v) vs r (All-tail Tells v vs tell)) e
        where
          by : (o : Option Row) → row v key t ≡ o → (row_in row vs key t ≡ Some r → list_any is (fold (add keys) (add keys known v) vs) ≡ true) → option_or o (row_in row vs key t) ≡ Some r
              → list_any is (fold (add keys) (add keys known v) vs) ≡ true
          by None from more f = more f
          by (Some s) from more f =
              let c = have v (All-head Tells v vs tell) (subst IsSome (sym from) refl) in
              any_stays (add keys known v) vs (any_keys known (keys v) ∙ or_second (list_any is known) (list_any is (keys v)) (any_at (keys v) c.0 c.1 c.2))

      -- ---- the row of a key

      cond_none : (b : Bool) (o : Option Row) → o ≡ None → cond b o None ≡ o
      cond_none true o e = refl
      cond_none false o e = sym e

      found_rows : (views : List V) (ks : List Key) → find key_cmp key (rows_of row views t ks) ≡ cond (list_any is ks) (row_in row views key t) None
      found_rows views [] = refl
      found_rows views (k ∷ ks) = by (is k) refl (row_in row views k t) refl (found_rows views ks)
        where
          rest : List (List ℕ × Row)
          rest = rows_of row views t ks

          by : (b : Bool) → is k ≡ b → (o : Option Row) → row_in row views k t ≡ o → find key_cmp key rest ≡ cond (list_any is ks) (row_in row views key t) None
              → find key_cmp key (cons_option (option_map (λ r. (k, r)) o) rest) ≡ cond (b || list_any is ks) (row_in row views key t) None
          by true here None none more =
              let at : row_in row views key t ≡ None = ap (λ x. row_in row views x t) (same_key key k (equal (key_cmp key k) here)) ∙ none in
              more ∙ cond_none (list_any is ks) (row_in row views key t) at
          by true here (Some r) some more =
              let at : row_in row views key t ≡ Some r = ap (λ x. row_in row views x t) (same_key key k (equal (key_cmp key k) here)) ∙ some in
              ap (λ x. cond x (Some r) (find key_cmp key rest)) here ∙ sym at
          by false other None none more = more
          by false other (Some r) some more = ap (λ x. cond x (Some r) (find key_cmp key rest)) other ∙ more

      pub found_live : (views : List V) → All Tells views → find key_cmp key (live_rows keys row views t) ≡ row_in row views key t
      found_live views tell = found_rows views (all_keys keys views) ∙ by (row_in row views key t) refl
        where
          by : (o : Option Row) → row_in row views key t ≡ o → cond (list_any is (all_keys keys views)) (row_in row views key t) None ≡ row_in row views key t
          by None e = cond_none (list_any is (all_keys keys views)) (row_in row views key t) e
          by (Some r) e = ap (λ b. cond b (row_in row views key t) None) (any_row [] views r tell e)

-- ---- the order of the rows

module _ {V : Type 0} (keys : V → List Key) (row : V → List ℕ → ℕ → Option Row) (views : List V) (t : ℕ) where
  below_rows : (x : Key) (ks : List Key) → AllByRecursion (Below x) ks → below_all key_cmp x (rows_of row views t ks) ≡ true
  below_rows x [] all = refl
  below_rows x (k ∷ ks) all = by (row_in row views k t) (below_rows x ks all.1)
    where
      by : (o : Option Row) → below_all key_cmp x (rows_of row views t ks) ≡ true → below_all key_cmp x (cons_option (option_map (λ r. (k, r)) o) (rows_of row views t ks)) ≡ true
      by None more = more
      by (Some r) more = ap (λ o. is_lt o && below_all key_cmp x (rows_of row views t ks)) all.0 ∙ more

  sorted_rows : (ks : List Key) → AreRising ks → is_sorted key_cmp (rows_of row views t ks) ≡ true
  sorted_rows [] rising = refl
  sorted_rows (k ∷ ks) rising = by (row_in row views k t) (below_rows k ks rising.0) (sorted_rows ks rising.1)
    where
      by : (o : Option Row) → below_all key_cmp k (rows_of row views t ks) ≡ true → is_sorted key_cmp (rows_of row views t ks) ≡ true → is_sorted key_cmp (cons_option (option_map (λ r. (k, r)) o) (rows_of row views t ks)) ≡ true
      by None below more = more
      by (Some r) below more = ap (λ b. b && is_sorted key_cmp (rows_of row views t ks)) below ∙ more

  pub sorted_live : is_sorted key_cmp (live_rows keys row views t) ≡ true
  sorted_live = sorted_rows (all_keys keys views) (all_rise keys views)

-- ---- the rows are these alone

module _ {V : Type 0} (keys : V → List Key) (row : V → List ℕ → ℕ → Option Row) (t : ℕ) (Tells : V → Type 0) (have : (v : V) (key : Key) → Tells v → IsSome (row v key t) → Contains (keys v) key) where
  pub only_live : (views : List V) → All Tells views → (rows : Rows) → AreRowsOf (λ key. row_in row views key t) rows → live_rows keys row views t ≡ rows
  only_live views tell rows are =
      same_entries key_cmp nat_list_cmp_total (slice_cmp-IsAntisymmetric nat_cmp-IsAntisymmetric) (live_rows keys row views t) rows
      (subst T (sym (sorted_live keys row views t)) tt) (subst T (sym are.0) tt)
      (λ key. found_live key keys row t Tells (λ v. have v key) views tell ∙ sym (are.1 key))

  or_none : (o : Option Row) → option_or o None ≡ o
  or_none None = refl
  or_none (Some r) = refl

  pub table_live : (view : V) → Tells view → (rows : Rows) → AreRowsOf (λ key. row view key t) rows → live_rows keys row (view ∷ []) t ≡ rows
  table_live view tell rows are = only_live (view ∷ []) (All-cons Tells view [] tell (All-nil Tells)) rows (are.0, λ key. are.1 key ∙ sym (or_none (row view key t)))
