-- Entries whose keys rise, with one more behind them.
use Rattle.std.proofs.Common.{◌≡◌, ℕ, suc, ◌-◌, true, ◌&&◌, List, [], ◌∷◌, ◌++◌, length, Some, None, refl, sym, ap, ◌∙◌, arith}
use Rattle.std.specs.Prelude.{if◌then◌else◌, slice_get}
use Rattle.std.specs.Ordering.{is_lt, is_eq}
use Rattle.std.specs.declared.cmp.Ordering.{Ordering}
use Rattle.std.specs.declared.cmp.Ordering.TheVariants.{Less, Equal, Greater}
use Rattle.std.specs.FinMap.Entries.{find, below_all, is_sorted}
use Rattle.std.proofs.lemmas.Bool.{and_parts}
use Rattle.std.proofs.lemmas.Cmp.{nat_list_cmp_total}
use Rattle.kt_history.specs.Rows.{Changes, AreApart, key_cmp}
use Rattle.kt_opening.specs.OpeningTexts.{is_behind, is_next}

less : (o : Ordering) → is_lt o ≡ true → o ≡ Less
less Less h = refl
less Equal h = absurd cc
less Greater h = absurd cc

pub equal : (o : Ordering) → is_eq o ≡ true → o ≡ Equal
equal Less h = absurd cc
equal Equal h = refl
equal Greater h = absurd cc

module _ {A : Type 0} where
  below_trans : (x y : List ℕ) (zs : List (List ℕ × A)) → is_lt (key_cmp x y) ≡ true → below_all key_cmp y zs ≡ true → below_all key_cmp x zs ≡ true
  below_trans x y [] lt h = refl
  below_trans x y (z ∷ zs) lt h =
      let both = and_parts _ _ h in
      ap (λ b. b && below_all key_cmp x zs) (ap is_lt (nat_list_cmp_total.trans x y z.0 (less _ lt) (less _ both.0))) ∙ below_trans x y zs lt both.1

  -- the last entry stays under one more before it
  same_last : (x y : List ℕ × A) (es : List (List ℕ × A)) (key : List ℕ) → is_next (x ∷ y ∷ es) key ≡ is_next (y ∷ es) key
  same_last x y es key =
      let one : suc (suc (length es)) - 1 ≡ suc (length es) = omega arith in
      let two : length es ≡ suc (length es) - 1 = omega arith in
      ap (λ n. is_behind (slice_get (x ∷ y ∷ es) n) key) one ∙ ap (λ n. is_behind (slice_get (y ∷ es) n) key) two

  pub sorted_next : (es : List (List ℕ × A)) (e : List ℕ × A) → is_sorted key_cmp es ≡ true → is_next es e.0 ≡ true → is_sorted key_cmp (es ++ e ∷ []) ≡ true
  sorted_next [] e h next = refl
  sorted_next (x ∷ []) e h next = ap (λ b. (b && true) && true) next
  sorted_next (x ∷ y ∷ es) e h next =
      let both = and_parts _ _ h in
      let rest = sorted_next (y ∷ es) e both.1 (sym (same_last x y es e.0) ∙ next) in
      let above = and_parts _ _ both.0 in
      ap (λ b. b && is_sorted key_cmp (y ∷ (es ++ e ∷ []))) (ap (λ b. b && below_all key_cmp x.0 (es ++ e ∷ [])) above.0 ∙ below_trans x.0 y.0 (es ++ e ∷ []) above.0 (and_parts _ _ rest).0) ∙ rest

none_below : (k : List ℕ) (es : Changes) → below_all key_cmp k es ≡ true → find key_cmp k es ≡ None
none_below k [] h = refl
none_below k (e ∷ es) h =
    let both = and_parts _ _ h in
    ap (λ o. if is_eq o then Some e.1 else find key_cmp k es) (less _ both.0) ∙ none_below k es both.1

pub sorted_apart : (es : Changes) → is_sorted key_cmp es ≡ true → AreApart es
sorted_apart [] h = tt
sorted_apart (e ∷ es) h = let both = and_parts _ _ h in (none_below e.0 es both.0, sorted_apart es both.1)
