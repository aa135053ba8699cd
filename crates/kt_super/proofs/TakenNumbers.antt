-- Numbers in a set, and the same in a list.
use Rattle.std.proofs.Common.{◌≡◌, ℕ, Bool, true, false, cond, List, [], ◌∷◌, ◌++◌, refl, sym, ap, ◌∙◌, arith}
use Rattle.std.specs.Prelude.{◌==◌, ◌||◌, nat_lt}
use Rattle.std.specs.List.{list_any}
use Rattle.std.specs.declared.cmp.Ordering.TheVariants.{Less, Equal, Greater}
use Rattle.std.specs.Ordering.{is_eq, nat_cmp, match_ordering}
use Rattle.std.specs.BTreeSet.{insert_key}
use Rattle.std.proofs.lemmas.Bool.Decides.{nat_tests}
use Rattle.std.proofs.lemmas.List.Folds.{list_any-append}
use Rattle.kt_super.specs.Rowsets.{has, HaveTheSame}

equal_is : (n k : ℕ) → is_eq (nat_cmp n k) ≡ (k == n)
equal_is n k = grind (arith, nat_tests)

-- looking a number up
pub set_has : (keys : List ℕ) (n : ℕ) → list_any (λ k. is_eq (nat_cmp n k)) keys ≡ has keys n
set_has [] n = refl
set_has (k ∷ keys) n = ap (λ (b : Bool). b || list_any (λ j. is_eq (nat_cmp n j)) keys) (equal_is n k) ∙ ap (λ (b : Bool). (k == n) || b) (set_has keys n)

swapped : (a b c : Bool) → (a || (b || c)) ≡ ((b || c) || (a || false))
swapped true true c = refl
swapped true false true = refl
swapped true false false = refl
swapped false true c = refl
swapped false false true = refl
swapped false false false = refl

pushed : (keys : List ℕ) (k n : ℕ) → has (keys ++ k ∷ []) n ≡ (has keys n || ((k == n) || false))
pushed keys k n = list_any-append (λ (j : ℕ). j == n) keys (k ∷ [])

with_equal : (a b : Bool) → (a || b) ≡ ((a || b) || (a || false))
with_equal true b = refl
with_equal false true = refl
with_equal false false = refl

-- one number more
pub insert_has : (keys : List ℕ) (k n : ℕ) → has (insert_key nat_cmp keys k) n ≡ has (keys ++ k ∷ []) n
insert_has [] k n = refl
insert_has (x ∷ keys) k n = below (insert_has keys k n) (nat_lt k x) refl
  where
    first : Bool → Bool → List ℕ
    first lt eq = match_ordering (cond lt Less (cond eq Equal Greater)) (k ∷ x ∷ keys) (x ∷ keys) (x ∷ insert_key nat_cmp keys k)

    equal : has (insert_key nat_cmp keys k) n ≡ has (keys ++ k ∷ []) n → (eq : Bool) → (k == x) ≡ eq → has (first false eq) n ≡ has ((x ∷ keys) ++ k ∷ []) n
    equal more true e =
        let same : k ≡ x = grind (arith, nat_tests, e) in
        with_equal (x == n) (has keys n) ∙ ap (λ (b : Bool). has (x ∷ keys) n || (b || false)) (ap (λ (j : ℕ). j == n) (sym same)) ∙ sym (pushed (x ∷ keys) k n)
    equal more false e = ap (λ (b : Bool). (x == n) || b) more

    below : has (insert_key nat_cmp keys k) n ≡ has (keys ++ k ∷ []) n → (lt : Bool) → nat_lt k x ≡ lt → has (first lt (k == x)) n ≡ has ((x ∷ keys) ++ k ∷ []) n
    below more true e = swapped (k == n) (x == n) (has keys n) ∙ sym (pushed (x ∷ keys) k n)
    below more false e = equal more (k == x) refl

-- the same from what the calls on both say
pub pushed_alike : (keys keys' numbers numbers' : List ℕ) (k : ℕ) → HaveTheSame keys numbers → keys' ≡ insert_key nat_cmp keys k → numbers' ≡ numbers ++ k ∷ [] → HaveTheSame keys' numbers'
pushed_alike keys keys' numbers numbers' k h e f n =
    ap (λ (l : List ℕ). has l n) e ∙ insert_has keys k n ∙ pushed keys k n ∙ ap (λ (b : Bool). b || ((k == n) || false)) (h n) ∙ sym (pushed numbers k n) ∙ ap (λ (l : List ℕ). has l n) (sym f)
