-- The view of a table: its keys, and the next one.
use Rattle.std.proofs.Common.{◌≡◌, ℕ, zero, suc, ◌+◌, ◌≤◌, List, [], ◌∷◌, Some, None, refl, true, false, cond, sym, ap, ◌∙◌, subst, arith, length, get_or, inl, inr}
use Rattle.std.specs.Prelude.{not, slice_get}
use Rattle.std.specs.List.{find, AllWithin}
use Rattle.std.specs.List.Sorted.{IsPartitionedBy, IsPartitionPoint}
use Rattle.std.specs.Option.{option_map}
use Rattle.std.specs.Ordering.{is_lt}
use Rattle.std.specs.declared.cmp.Ordering.TheVariants.{Less, Equal}
use Rattle.std.specs.FinMap.{nat_cmp-IsAntisymmetric, slice_cmp-IsAntisymmetric}
use Rattle.std.specs.FinMap.Entries.{is_sorted}
use Rattle.std.proofs.lemmas.Bool.{cases_eq, false≢true}
use Rattle.std.proofs.lemmas.Cmp.{nat_list_cmp_total}
use Rattle.kt_history.specs.Rows.{key_cmp}
use Rattle.kt_history.specs.Views.{is_above, key_above}
use Rattle.kt_judge.specs.Tables.{Versions, Entries, keys_in, is_of_key}
use Rattle.kt_judge.proofs.Placed.{less, sorted_at, entry_of}

above_too : (a b q : List ℕ) → key_cmp a b ≡ Less → not (is_lt (key_cmp q b)) ≡ true → not (is_lt (key_cmp q a)) ≡ true
above_too a b q lt h = elim (is_lt (key_cmp q a)) as (λ v. is_lt (key_cmp q a) ≡ v → not v ≡ true) [
  | true ↦ λ e. sym (ap (λ v. not v) (ap is_lt (nat_list_cmp_total.trans q a b (less _ e) lt))) ∙ h
  | false ↦ λ e. refl
] refl

-- what is not above a key, so is all before it
pub parts_not_above : (es : Entries) (q : List ℕ) → is_sorted key_cmp es ≡ true → IsPartitionedBy (λ (e : List ℕ × Versions). not (is_lt (key_cmp q e.0))) es
parts_not_above es q h i j d le within lt = elim (cases_eq i j) [
  | inl e ↦ subst (λ (k : ℕ). not (is_lt (key_cmp q (get_or es k d).0)) ≡ true) (sym e) lt
  | inr ne ↦ above_too (get_or es i d).0 (get_or es j d).0 q (sorted_at es i j d h (omega arith) within) lt
]

-- those behind the entry of a key are above it, and no others
pub parts_behind : (q : List ℕ) (es : Entries) (n : ℕ) → is_sorted key_cmp es ≡ true → is_of_key q (slice_get es n) ≡ true
    → (n + 1 ≤ length es) × IsPartitionPoint (λ e. not (is_lt (key_cmp q e.0)) ≡ true) (λ e. not (is_lt (key_cmp q e.0)) ≡ false) es (n + 1)
parts_behind q es n sorted h =
    let there = entry_of q es n h in (
      omega (arith, there.0),
      (
        λ k d from below. parts_not_above es q sorted k n d (omega arith) there.0 (ap (λ o. not (is_lt o)) (there.1 d)),
        λ k d from below. ap (λ o. not (is_lt o)) (above_too_at q (get_or es n d).0 (get_or es k d).0 (there.1 d) (sorted_at es n k d sorted (omega arith) below)),
      ),
    )
  where
    above_too_at : (q a b : List ℕ) → key_cmp q a ≡ Equal → key_cmp a b ≡ Less → key_cmp q b ≡ Less
    above_too_at q a b e lt = ap (λ (p : List ℕ). key_cmp p b) (slice_cmp-IsAntisymmetric nat_cmp-IsAntisymmetric q a e) ∙ lt

-- the first of those that are above it
pub key_above_at : (q : List ℕ) (es : Entries) (n : ℕ) → n ≤ length es → AllWithin (λ e. not (is_lt (key_cmp q e.0)) ≡ true) es 0 n → AllWithin (λ e. not (is_lt (key_cmp q e.0)) ≡ false) es n (length es)
    → option_map (λ e. e.0) (slice_get es n) ≡ key_above (Some q) (keys_in es)
key_above_at q [] zero le low high = refl
key_above_at q [] (suc n) le low high = absurd (omega arith)
key_above_at q (e ∷ es) zero le low high = elim (is_lt (key_cmp q e.0)) as (λ b. not b ≡ false → Some e.0 ≡ cond b (Some e.0) (find (is_above (Some q)) (keys_in es))) [
  | true ↦ λ h. refl
  | false ↦ λ h. absurd (false≢true (sym h))
] (high zero e (omega arith) (omega arith))
key_above_at q (e ∷ es) (suc n) le low high = elim (is_lt (key_cmp q e.0)) as (λ b. not b ≡ true → option_map (λ (x : List ℕ × Versions). x.0) (slice_get es n) ≡ cond b (Some e.0) (find (is_above (Some q)) (keys_in es))) [
  | true ↦ λ h. absurd (false≢true h)
  | false ↦ λ h. key_above_at q es n (omega arith) (λ k d a b. low (suc k) d (omega arith) (omega arith)) (λ k d a b. high (suc k) d (omega arith) (omega arith))
] (low zero e (omega arith) (omega arith))

pub key_first : (es : Entries) → option_map (λ e. e.0) (slice_get es 0) ≡ key_above None (keys_in es)
key_first [] = refl
key_first (e ∷ es) = refl
