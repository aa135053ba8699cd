-- How many ranges begin by a key, and how many end before it.
use Rattle.std.proofs.Common.{◌≡◌, ℕ, zero, suc, ◌+◌, ◌<◌, ◌≤◌, Bool, true, false, cond, List, [], ◌∷◌, ◌++◌, map, length, take, get_or, refl, sym, ap, ◌∙◌, arith, subst}
use Rattle.std.specs.Prelude.{not}
use Rattle.std.specs.List.{count_by}
use Rattle.std.specs.List.Sorted.{IsPermutation, IsSortedBy}
use Rattle.std.specs.Cmp.{IsStrictWeakOrder}
use Rattle.std.specs.Cmp.Lexicographic.{slice_cmp, nat_list_cmp_total}
use Rattle.std.specs.Ordering.{nat_cmp, is_lt}
use Rattle.std.proofs.Math.Seq.{take-length}
use Rattle.std.proofs.lemmas.Bool.{false≢true}
use Rattle.std.proofs.lemmas.List.{map-append, take_more}
use Rattle.std.proofs.lemmas.List.Sums.{sum_by-cons}
use Rattle.std.proofs.lemmas.List.Sorted.{ranks_by, sorted_far, sum_by-IsPermutation, IsPermutation-map}
use Rattle.kt_rowtree.specs.Ranges.{is_upto, holders_of, end_at, AreEnds, IsOrderly}
use Rattle.kt_rowtree.specs.declared.lists.Range.{Range}
use Rattle.kt_rowtree.proofs.Upto.{upto_other, upto_trans, not_before}
use Rattle.kt_rowtree.proofs.Found.{holders-cons_in, holders-cons_out, and_true, and_false_left, and_false_right}

-- ---- counts

pub count_yes : {X : Type 0} (p : X → Bool) (x : X) (xs : List X) → p x ≡ true → count_by p (x ∷ xs) ≡ 1 + count_by p xs
count_yes p x xs e = sum_by-cons (λ x. cond (p x) 1 0) x xs ∙ ap (λ b. cond b 1 0 + count_by p xs) e

pub count_no : {X : Type 0} (p : X → Bool) (x : X) (xs : List X) → p x ≡ false → count_by p (x ∷ xs) ≡ count_by p xs
count_no p x xs e = sum_by-cons (λ x. cond (p x) 1 0) x xs ∙ ap (λ b. cond b 1 0 + count_by p xs) e ∙ omega arith

count_map : {X Y : Type 0} (p : Y → Bool) (f : X → Y) (xs : List X) → count_by p (map f xs) ≡ count_by (λ x. p (f x)) xs
count_map p f [] = refl
count_map p f (x ∷ xs) =
    sum_by-cons (λ y. cond (p y) 1 0) (f x) (map f xs) ∙ ap (λ n. cond (p (f x)) 1 0 + n) (count_map p f xs)
    ∙ sym (sum_by-cons (λ x. cond (p (f x)) 1 0) x xs)

-- those in front, where they are in front of all others
pub count_front : {X : Type 0} (p : X → Bool) (d : X) (xs : List X) (n : ℕ) → n ≤ length xs → ((k : ℕ) → k < n → p (get_or xs k d) ≡ true) → ((k : ℕ) → n ≤ k → k < length xs → p (get_or xs k d) ≡ false) → count_by p xs ≡ n
count_front p d [] n bound front back = let e : n ≡ 0 = omega arith in sym e
count_front p d (x ∷ xs) zero bound front back =
    count_no p x xs (back 0 (omega arith) (omega arith)) ∙ count_front p d xs 0 (omega arith) (λ k low. absurd (omega arith)) (λ k high low. back (suc k) (omega arith) (omega arith))
count_front p d (x ∷ xs) (suc n) bound front back =
    let rest = count_front p d xs n (omega arith) (λ k low. front (suc k) (omega arith)) (λ k high low. back (suc k) (omega arith) (omega arith)) in
    count_yes p x xs (front 0 (omega arith)) ∙ omega arith

-- ---- what holds a key

abbrev pub gone : List ℕ → Range → Bool
gone key r = not (is_upto key r.greatest)

abbrev pub begun : List ℕ → Range → Bool
begun key r = is_upto r.least key

-- what begins by a key holds it, or ends before it
pub held_or_gone : (key : List ℕ) (xs : List Range) → IsOrderly xs → length (holders_of key xs) + count_by (gone key) xs ≡ count_by (begun key) xs
held_or_gone key [] o = refl
held_or_gone key (r ∷ xs) o = by (is_upto r.least key) (is_upto key r.greatest) refl refl (held_or_gone key xs (λ k d low. o (suc k) d (omega arith)))
  where
    by : (b e : Bool) → is_upto r.least key ≡ b → is_upto key r.greatest ≡ e → length (holders_of key xs) + count_by (gone key) xs ≡ count_by (begun key) xs → length (holders_of key (r ∷ xs)) + count_by (gone key) (r ∷ xs) ≡ count_by (begun key) (r ∷ xs)
    by true true p q h =
        let l = ap length (holders-cons_in key r xs (and_true (is_upto r.least key) (is_upto key r.greatest) p q)) in
        let g = count_no (gone key) r xs (ap not q) in
        let b = count_yes (begun key) r xs p in
        omega arith
    by true false p q h =
        let l = ap length (holders-cons_out key r xs (and_false_right (is_upto r.least key) (is_upto key r.greatest) q)) in
        let g = count_yes (gone key) r xs (ap not q) in
        let b = count_yes (begun key) r xs p in
        omega arith
    by false true p q h =
        let l = ap length (holders-cons_out key r xs (and_false_left (is_upto r.least key) (is_upto key r.greatest) p)) in
        let g = count_no (gone key) r xs (ap not q) in
        let b = count_no (begun key) r xs p in
        omega arith
    by false false p q h = absurd (false≢true (sym p ∙ upto_trans r.least r.greatest key (o 0 r (omega arith)) (upto_other key r.greatest q)))

module _ (key : List ℕ) (xs : List Range) (d : Range) (orderly : IsOrderly xs) (p q : ℕ) (bound : p ≤ length xs) (below : (k : ℕ) (d : Range) → k < p → is_upto (get_or xs k d).least key ≡ true) (above : (k : ℕ) (d : Range) → p ≤ k → k < length xs → is_upto (get_or xs k d).least key ≡ false) (is : q ≡ count_by (gone key) xs) where
  -- those that begin by the key, without those that end before it
  pub depth_sum : length (holders_of key xs) + q ≡ p
  depth_sum = ap (λ n. length (holders_of key xs) + n) is ∙ held_or_gone key xs orderly ∙ count_front (begun key) d xs p bound (λ k low. below k d low) (λ k high low. above k d high low)

-- ---- the places by their greatest keys

-- one place more
pub places_more : (ranges : List Range) (places new : List ℕ) (at : ℕ) → at < length ranges → map (end_at ranges) places ≡ map (λ (r : Range). r.greatest) (take at ranges) → new ≡ places ++ at ∷ [] → map (end_at ranges) new ≡ map (λ (r : Range). r.greatest) (take (at + 1) ranges)
places_more ranges places new at low h is =
    let none : Range = record { rowset = 0; least = []; greatest = [] } in
    ap (map (end_at ranges)) is ∙ map-append (end_at ranges) places (at ∷ []) ∙ ap (λ xs. xs ++ end_at ranges at ∷ []) h
    ∙ sym (map-append (λ (r : Range). r.greatest) (take at ranges) (get_or ranges at none ∷ []))
    ∙ ap (map (λ (r : Range). r.greatest)) (sym (take_more ranges at none low))

pub places_all : (ranges : List Range) (places : List ℕ) (at : ℕ) → at ≡ length ranges → map (end_at ranges) places ≡ map (λ (r : Range). r.greatest) (take at ranges) → map (end_at ranges) places ≡ map (λ (r : Range). r.greatest) ranges
places_all ranges places at is h = h ∙ ap (λ n. map (λ (r : Range). r.greatest) (take n ranges)) is ∙ ap (map (λ (r : Range). r.greatest)) (take-length ranges)

abbrev pub ends_first : List Range → ℕ → ℕ → Bool
ends_first ranges a b = is_lt (slice_cmp nat_cmp (end_at ranges a) (end_at ranges b))

pub ends_weak : (ranges : List Range) → IsStrictWeakOrder (ends_first ranges)
ends_weak ranges = ranks_by nat_list_cmp_total (end_at ranges)

pub ends_are : (ranges : List Range) (places sorted : List ℕ) → map (end_at ranges) places ≡ map (λ (r : Range). r.greatest) ranges → IsPermutation places sorted → IsSortedBy (ends_first ranges) sorted → AreEnds ranges sorted
ends_are ranges places sorted all p s = record {
  all = subst (λ xs. IsPermutation xs (map (end_at ranges) sorted)) all (IsPermutation-map (end_at ranges) places sorted p);
  by_greatest = λ j k le low.
      not_before (end_at ranges (get_or sorted j 0)) (end_at ranges (get_or sorted k 0)) (sorted_far (ends_first ranges) (ends_weak ranges) sorted s j k 0 le low);
}

by_not : (b : Bool) → not b ≡ true → b ≡ false
by_not true e = sym e
by_not false e = refl

by_not_false : (b : Bool) → not b ≡ false → b ≡ true
by_not_false true e = refl
by_not_false false e = sym e

not_by : (b : Bool) → (b ≡ true → ⊥) → not b ≡ true
not_by true h = absurd (h refl)
not_by false h = refl

-- whether the range at the place that stands here ends before the key
abbrev pub Past : List Range → List ℕ → List ℕ → ℕ → Bool → Type 0
Past ranges ends key k b = not (is_upto key (end_at ranges (get_or ends k 0))) ≡ b

module _ (ranges : List Range) (ends : List ℕ) (are : AreEnds ranges ends) (key : List ℕ) where
  pub past_below : (mid : ℕ) → mid < length ends → Past ranges ends key mid true → (k : ℕ) → k < mid + 1 → Past ranges ends key k true
  past_below mid inside e k low = not_by (is_upto key (end_at ranges (get_or ends k 0))) (λ h.
      false≢true (sym (by_not (is_upto key (end_at ranges (get_or ends mid 0))) e)
      ∙ upto_trans key (end_at ranges (get_or ends k 0)) (end_at ranges (get_or ends mid 0)) h (are.by_greatest k mid (omega arith) inside)))

  pub past_above : (mid : ℕ) → Past ranges ends key mid false → (k : ℕ) → mid ≤ k → k < length ends → Past ranges ends key k false
  past_above mid e k high low =
      ap not (upto_trans key (end_at ranges (get_or ends mid 0)) (end_at ranges (get_or ends k 0)) (by_not_false (is_upto key (end_at ranges (get_or ends mid 0))) e) (are.by_greatest mid k high low))

  pub ended_is : (n : ℕ) → n ≤ length ends → ((k : ℕ) → k < n → Past ranges ends key k true) → ((k : ℕ) → n ≤ k → k < length ends → Past ranges ends key k false) → n ≡ count_by (gone key) ranges
  ended_is n bound front back =
      let p : List ℕ → Bool = λ end. not (is_upto key end) in
      sym (sym (count_map p (λ (r : Range). r.greatest) ranges)
      ∙ sym (sum_by-IsPermutation (λ end. cond (p end) 1 0) (map (λ (r : Range). r.greatest) ranges) (map (end_at ranges) ends) are.all)
      ∙ count_map p (end_at ranges) ends
      ∙ count_front (λ place. p (end_at ranges place)) 0 ends n bound front back)
