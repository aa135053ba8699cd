-- DeltaMemStores, one after the other.
use Rattle.std.proofs.Common.{◌≡◌, ◌≤◌, ◌<◌, ◌+◌, ℕ, zero, suc, List, [], ◌∷◌, ◌++◌, drop, length, get_or, drop-cons, Option, refl, sym, ap, ◌∙◌, arith}
use Rattle.std.proofs.lemmas.List.{drop_all}
use Rattle.kt_history.specs.Rows.{Row, apply}
use Rattle.kt_history.specs.Stores.{Steps, after_steps, apply_all}
use Rattle.kt_histlaws.proofs.OneKey.{after_steps-append}
use Rattle.kt_pool.specs.Contents.{Contents}
use Rattle.kt_dms.specs.Stores.{IsStore, deltas_of, steps_for}
use Rattle.kt_dms.specs.declared.store.DeltaMem.{DeltaMem}
use Rattle.kt_diskrowset.specs.Mems.{AllStand, steps_in_mems}

apply_all-append : (xs ys : Steps) (row : Option Row) → apply_all (xs ++ ys) row ≡ apply_all ys (apply_all xs row)
apply_all-append [] ys row = refl
apply_all-append (c ∷ xs) ys row = apply_all-append xs ys (apply c.1 row)

-- no store, which a place past the end is read as
abbrev pub blank : DeltaMem
blank = record { id = 0; tree = record { root = 0; count = 0 } }

abbrev pub store_at : List DeltaMem → ℕ → DeltaMem
store_at mems i = get_or mems i blank

pub store_stands : (pool : Contents) (mems : List DeltaMem) (i : ℕ) → AllStand pool mems → i < length mems → IsStore (store_at mems i) pool
store_stands pool [] i all low = absurd (omega arith)
store_stands pool (m ∷ mems) zero all low = all.0
store_stands pool (m ∷ mems) (suc i) all low = store_stands pool mems i all.1 (omega arith)

module _ (pool : Contents) (n : ℕ) (mems : List DeltaMem) (i : ℕ) where
  pub row_over : (t : ℕ) (row whole : Option Row) → length mems ≤ i → after_steps t (steps_in_mems pool n (drop i mems)) row ≡ whole → row ≡ whole
  row_over t row whole past so = sym (ap (λ ms. after_steps t (steps_in_mems pool n ms) row) (drop_all i mems past)) ∙ so

  pub live_over : (row whole : Option Row) → length mems ≤ i → apply_all (steps_in_mems pool n (drop i mems)) row ≡ whole → row ≡ whole
  live_over row whole past so = sym (ap (λ ms. apply_all (steps_in_mems pool n ms) row) (drop_all i mems past)) ∙ so

  module _ (low : i < length mems) where
    pub rest_is : drop i mems ≡ store_at mems i ∷ drop (i + 1) mems
    rest_is = drop-cons mems i blank low ∙ (let e : suc i ≡ i + 1 = omega arith in ap (λ k. store_at mems i ∷ drop k mems) e)

    pub row_more : (t : ℕ) (row row2 whole : Option Row) → row2 ≡ after_steps t (steps_for n (deltas_of (store_at mems i) pool)) row → after_steps t (steps_in_mems pool n (drop i mems)) row ≡ whole → after_steps t (steps_in_mems pool n (drop (i + 1) mems)) row2 ≡ whole
    row_more t row row2 whole e so =
        ap (after_steps t (steps_in_mems pool n (drop (i + 1) mems))) e
        ∙ sym (after_steps-append t (steps_for n (deltas_of (store_at mems i) pool)) (steps_in_mems pool n (drop (i + 1) mems)) row)
        ∙ sym (ap (λ ms. after_steps t (steps_in_mems pool n ms) row) rest_is) ∙ so

    pub live_more : (row whole : Option Row) → apply_all (steps_in_mems pool n (drop i mems)) row ≡ whole → apply_all (steps_in_mems pool n (drop (i + 1) mems)) (apply_all (steps_for n (deltas_of (store_at mems i) pool)) row) ≡ whole
    live_more row whole so =
        sym (apply_all-append (steps_for n (deltas_of (store_at mems i) pool)) (steps_in_mems pool n (drop (i + 1) mems)) row)
        ∙ sym (ap (λ ms. apply_all (steps_in_mems pool n ms) row) rest_is) ∙ so
