-- The order of byte strings.
use Rattle.std.proofs.Common.{◌≡◌, ℕ, Bool, true, false, List, refl, sym, ap, ◌∙◌}
use Rattle.std.specs.Ordering.{nat_cmp, is_lt, is_le, is_ge, ordering_reverse}
use Rattle.std.specs.Prelude.{not}
use Rattle.std.specs.declared.cmp.Ordering.{Ordering}
use Rattle.std.specs.declared.cmp.Ordering.TheVariants.{Less, Equal, Greater}
use Rattle.std.specs.Cmp.Lexicographic.{slice_cmp, nat_list_cmp_total}
use Rattle.std.proofs.lemmas.Bool.{false≢true}
use Rattle.kt_rowtree.specs.Ranges.{is_upto}

reversed : (o : Ordering) → is_ge o ≡ is_le (ordering_reverse o)
reversed Less = refl
reversed Equal = refl
reversed Greater = refl

-- a is at or after b where b is at or before a
pub ge_upto : (a b : List ℕ) → is_ge (slice_cmp nat_cmp a b) ≡ is_upto b a
ge_upto a b = reversed (slice_cmp nat_cmp a b) ∙ ap is_le (sym (nat_list_cmp_total.antisymm b a))

total_by : (o : Ordering) → is_le o ≡ false → is_le (ordering_reverse o) ≡ true
total_by Less e = absurd (false≢true (sym e))
total_by Equal e = absurd (false≢true (sym e))
total_by Greater e = refl

-- what is not before comes after
pub upto_other : (a b : List ℕ) → is_upto a b ≡ false → is_upto b a ≡ true
upto_other a b e = ap is_le (nat_list_cmp_total.antisymm b a) ∙ total_by (slice_cmp nat_cmp a b) e

pub upto_same : (a : List ℕ) → is_upto a a ≡ true
upto_same a = by (is_upto a a) (upto_other a a)
  where
    by : (b : Bool) → (b ≡ false → b ≡ true) → b ≡ true
    by true h = refl
    by false h = h refl

trans_by : (a b c : List ℕ) (o p : Ordering) → slice_cmp nat_cmp a b ≡ o → slice_cmp nat_cmp b c ≡ p → is_le o ≡ true → is_le p ≡ true → is_upto a c ≡ true
trans_by a b c Less Less e f g h = ap is_le (nat_list_cmp_total.trans a b c e f)
trans_by a b c Equal p e f g h = ap is_le (nat_list_cmp_total.congr a b c e ∙ f) ∙ h
trans_by a b c Less Equal e f g h = ap is_le (nat_list_cmp_total.antisymm a c ∙ ap ordering_reverse (nat_list_cmp_total.congr c b a (nat_list_cmp_total.antisymm c b ∙ ap ordering_reverse f) ∙ nat_list_cmp_total.antisymm b a ∙ ap ordering_reverse e))
trans_by a b c Less Greater e f g h = absurd (false≢true h)
trans_by a b c Greater p e f g h = absurd (false≢true g)

pub upto_trans : (a b c : List ℕ) → is_upto a b ≡ true → is_upto b c ≡ true → is_upto a c ≡ true
upto_trans a b c g h = trans_by a b c (slice_cmp nat_cmp a b) (slice_cmp nat_cmp b c) refl refl g h

upto_by : (o : Ordering) → is_lt o ≡ false → is_le (ordering_reverse o) ≡ true
upto_by Less e = absurd (false≢true (sym e))
upto_by Equal e = refl
upto_by Greater e = refl

-- what another does not come before is at it or before it
pub not_before : (a b : List ℕ) → is_lt (slice_cmp nat_cmp b a) ≡ false → is_upto a b ≡ true
not_before a b e = ap is_le (nat_list_cmp_total.antisymm a b) ∙ upto_by (slice_cmp nat_cmp b a) e

past_by : (o : Ordering) → is_lt o ≡ not (is_le (ordering_reverse o))
past_by Less = refl
past_by Equal = refl
past_by Greater = refl

-- what is before a key is not at or after it
pub lt_past : (a b : List ℕ) → is_lt (slice_cmp nat_cmp a b) ≡ not (is_upto b a)
lt_past a b = past_by (slice_cmp nat_cmp a b) ∙ ap (λ o. not (is_le o)) (sym (nat_list_cmp_total.antisymm b a))
