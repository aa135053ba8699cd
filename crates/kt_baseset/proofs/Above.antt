-- Where a key is above another, so is each one behind it; and where it is not, neither is one before it.
use Rattle.std.proofs.Common.{◌≡◌, ◌+◌, ◌<◌, ◌≤◌, ℕ, true, false, List, [], length, get_or, refl, sym, subst, ◌∙◌, inl, inr, arith}
use Rattle.std.specs.Ordering.{nat_cmp, is_gt, ordering_reverse}
use Rattle.std.specs.declared.cmp.Ordering.{Ordering}
use Rattle.std.specs.declared.cmp.Ordering.TheVariants.{Less, Equal, Greater}
use Rattle.std.specs.Cmp.Lexicographic.{slice_cmp, nat_list_cmp_total}
use Rattle.std.proofs.lemmas.Bool.{cases_lt}
use Rattle.kt_base.specs.declared.cell.Cell.{Cell}
use Rattle.kt_lookup.specs.Index.{IsBelow, Rises}
use Rattle.kt_lookup.proofs.Search.{below_trans}
use Rattle.kt_baseset.specs.declared.held.HeldColumn.{HeldColumn}
use Rattle.kt_baseset.specs.Tables.{keys_of, rows_of, key_at}
use Rattle.kt_baseset.proofs.Found.{rows_count, count_keys, key_there}

greater : (o : Ordering) → is_gt o ≡ true → ordering_reverse o ≡ Less
greater Less e = cc
greater Equal e = cc
greater Greater e = refl

not_greater : (o : Ordering) → is_gt o ≡ false → ordering_reverse o ≡ Less → ⊥
not_greater Less e f = cc
not_greater Equal e f = cc
not_greater Greater e f = cc

module _ (keys : List (List ℕ)) (key : List ℕ) (mid : ℕ) (rises : Rises keys) where
  pub above_from : is_gt (slice_cmp nat_cmp (get_or keys mid []) key) ≡ true → (i : ℕ) → mid ≤ i → i < length keys → IsBelow key (get_or keys i [])
  above_from gt i from low =
      let above : IsBelow key (get_or keys mid []) = nat_list_cmp_total.antisymm key (get_or keys mid []) ∙ greater (slice_cmp nat_cmp (get_or keys mid []) key) gt in
      elim (cases_lt mid i) [
        | inl less ↦ below_trans key (get_or keys mid []) (get_or keys i []) above (rises mid i less low)
        | inr le ↦ let same : mid ≡ i = omega arith in subst (λ (k : ℕ). IsBelow key (get_or keys k [])) same above
      ]

  pub not_above_upto : is_gt (slice_cmp nat_cmp (get_or keys mid []) key) ≡ false → mid < length keys → (i : ℕ) → i < mid + 1 → ¬ IsBelow key (get_or keys i [])
  not_above_upto not_gt in_ i upto above =
      let here : IsBelow key (get_or keys mid []) = elim (cases_lt i mid) [
        | inl less ↦ below_trans key (get_or keys i []) (get_or keys mid []) above (rises i mid less in_)
        | inr le ↦ let same : i ≡ mid = omega arith in subst (λ (k : ℕ). IsBelow key (get_or keys k [])) same above
      ] in
      not_greater (slice_cmp nat_cmp (get_or keys mid []) key) not_gt (sym (nat_list_cmp_total.antisymm key (get_or keys mid [])) ∙ here)

-- what was found among the keys is told of the rows
module _ (cs : List Cell) (columns : List HeldColumn) (key : List ℕ) (at : ℕ) where
  pub before_rows : at ≤ length cs → ((i : ℕ) → i < at → ¬ IsBelow key (get_or (keys_of cs) i [])) → (i : ℕ) → i < at → ¬ IsBelow key (key_at (rows_of (keys_of cs) columns) i)
  before_rows within h i low above = h i low (subst (IsBelow key) (key_there (keys_of cs) columns i (omega (arith, within, count_keys cs))) above)

  pub above_rows : ((i : ℕ) → at ≤ i → i < length cs → IsBelow key (get_or (keys_of cs) i [])) → (i : ℕ) → at ≤ i → i < length (rows_of (keys_of cs) columns) → IsBelow key (key_at (rows_of (keys_of cs) columns) i)
  above_rows h i from low =
      let here : i < length (keys_of cs) = omega (arith, rows_count (keys_of cs) columns) in
      subst (IsBelow key) (sym (key_there (keys_of cs) columns i here)) (h i from (omega (arith, here, count_keys cs)))
