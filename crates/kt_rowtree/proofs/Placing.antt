-- Ranges that are numbered by their places.
use Rattle.std.proofs.Common.{◌≡◌, ◌≢◌, ℕ, zero, suc, ◌+◌, ◌-◌, ◌<◌, ◌≤◌, Bool, true, false, cond, List, [], ◌∷◌, ◌++◌, map, length, length-append, append_assoc, get_or, Some, None, refl, sym, ap, subst, ◌∙◌, arith}
use Rattle.std.specs.Prelude.{not, nat_lt, ◌==◌, ◌||◌, ◌&&◌, All, slice_get}
use Rattle.std.specs.List.{filter, list_any, count_by}
use Rattle.std.specs.List.Sorted.{IsSorted}
use Rattle.std.specs.Ordering.{nat_cmp, is_lt}
use Rattle.std.specs.declared.cmp.Ordering.TheVariants.{Less, Equal, Greater}
use Rattle.std.proofs.lemmas.Bool.Decides.{nat_tests}
use Rattle.std.proofs.lemmas.List.Elements.{All-cons}
use Rattle.std.proofs.lemmas.List.Folds.{list_any-append}
use Rattle.std.proofs.lemmas.List.Sums.{sum_by-append}
use Rattle.kt_rowtree.proofs.Counted.{count_yes, count_no}
use Rattle.kt_rowtree.proofs.Found.{holders-cons_in, holders-cons_out}
use Rattle.kt_rowtree.specs.Ranges.{holds, holders_of, without, closed, closed_up, raised, placed, places_out}
use Rattle.kt_rowtree.specs.declared.lists.Range.{Range}

some_is : {X : Type 0} (x y : X) → Some x ≡ Some y → x ≡ y
some_is x y e = cc

no_some : {X : Type 0} (x : X) → None ≡ Some x → ⊥
no_some x e = cc

-- a list behind another, and the same list numbered so much higher
pub placed-append : (at : ℕ) (xs ys : List (List ℕ × List ℕ)) → placed at (xs ++ ys) ≡ placed at xs ++ placed (at + length xs) ys
placed-append at [] ys = ap (λ n. placed n ys) (omega arith)
placed-append at (x ∷ xs) ys =
    ap (λ rs. record { rowset = at; least = x.0; greatest = x.1 } ∷ rs) (placed-append (at + 1) xs ys ∙ ap (λ n. placed (at + 1) xs ++ placed n ys) (omega arith))

pub placed-raised : (at more : ℕ) (xs : List (List ℕ × List ℕ)) → map (raised more) (placed at xs) ≡ placed (at + more) xs
placed-raised at more [] = refl
placed-raised at more (x ∷ xs) =
    ap (λ rs. record { rowset = at + more; least = x.0; greatest = x.1 } ∷ rs) (placed-raised (at + 1) more xs ∙ ap (λ n. placed n xs) (omega arith))

-- ---- places that leave

below_no : (a n : ℕ) → n ≤ a → nat_lt a n ≡ false
below_no a n low = grind (arith, nat_tests)

below_yes : (a n : ℕ) → a < n → nat_lt a n ≡ true
below_yes a n low = grind (arith, nat_tests)

same_no : (a n : ℕ) → a ≢ n → (a == n) ≡ false
same_no a n other = grind (arith, nat_tests)

same_yes : (n : ℕ) → (n == n) ≡ true
same_yes n = grind (arith, nat_tests)

or_true : (a : Bool) → (a || true) ≡ true
or_true true = refl
or_true false = refl

-- the places of a list from one on are not below it
out_from : {A : Type 0} (stays : A → Bool) (at n : ℕ) (xs : List A) → n ≤ at → count_by (λ k. nat_lt k n) (places_out stays at xs) ≡ 0
out_from stays at n [] low = refl
out_from stays at n (x ∷ xs) low = by (stays x) (out_from stays (at + 1) n xs (omega arith))
  where
    by : (b : Bool) → count_by (λ k. nat_lt k n) (places_out stays (at + 1) xs) ≡ 0 → count_by (λ k. nat_lt k n) (cond b (places_out stays (at + 1) xs) (at ∷ places_out stays (at + 1) xs)) ≡ 0
    by true h = h
    by false h = count_no (λ k. nat_lt k n) at (places_out stays (at + 1) xs) (below_no at n low) ∙ h

out_other : {A : Type 0} (stays : A → Bool) (at n : ℕ) (xs : List A) → n < at → list_any (λ k. k == n) (places_out stays at xs) ≡ false
out_other stays at n [] low = refl
out_other stays at n (x ∷ xs) low = by (stays x) (out_other stays (at + 1) n xs (omega arith))
  where
    by : (b : Bool) → list_any (λ k. k == n) (places_out stays (at + 1) xs) ≡ false → list_any (λ k. k == n) (cond b (places_out stays (at + 1) xs) (at ∷ places_out stays (at + 1) xs)) ≡ false
    by true h = h
    by false h = ap (λ b. b || list_any (λ k. k == n) (places_out stays (at + 1) xs)) (same_no at n (omega arith)) ∙ h

-- no more leave than there are
pub length-places_out : {A : Type 0} (stays : A → Bool) (at : ℕ) (xs : List A) → length (places_out stays at xs) ≤ length xs
length-places_out stays at [] = omega arith
length-places_out stays at (x ∷ xs) = by (stays x) (length-places_out stays (at + 1) xs)
  where
    by : (b : Bool) → length (places_out stays (at + 1) xs) ≤ length xs → length (cond b (places_out stays (at + 1) xs) (at ∷ places_out stays (at + 1) xs)) ≤ length (x ∷ xs)
    by true h = omega arith
    by false h = omega arith

-- those of a list behind another
pub places_out-append : {A : Type 0} (stays : A → Bool) (at : ℕ) (xs ys : List A) → places_out stays at (xs ++ ys) ≡ places_out stays at xs ++ places_out stays (at + length xs) ys
places_out-append stays at [] ys = ap (λ n. places_out stays n ys) (omega arith)
places_out-append stays at (x ∷ xs) ys = by (stays x) (places_out-append stays (at + 1) xs ys ∙ ap (λ n. places_out stays (at + 1) xs ++ places_out stays n ys) (omega arith))
  where
    by : (b : Bool) → places_out stays (at + 1) (xs ++ ys) ≡ places_out stays (at + 1) xs ++ places_out stays (at + length (x ∷ xs)) ys
        → cond b (places_out stays (at + 1) (xs ++ ys)) (at ∷ places_out stays (at + 1) (xs ++ ys)) ≡ cond b (places_out stays (at + 1) xs) (at ∷ places_out stays (at + 1) xs) ++ places_out stays (at + length (x ∷ xs)) ys
    by true h = h
    by false h = ap (λ ns. at ∷ ns) h

out_low : {A : Type 0} (stays : A → Bool) (at : ℕ) (xs : List A) (k d : ℕ) → k < length (places_out stays at xs) → at ≤ get_or (places_out stays at xs) k d
out_low stays at [] k d low = absurd (omega arith)
out_low stays at (x ∷ xs) k d low = by (stays x) k low (λ j inner. out_low stays (at + 1) xs j d inner)
  where
    by : (b : Bool) (k : ℕ) → k < length (cond b (places_out stays (at + 1) xs) (at ∷ places_out stays (at + 1) xs)) → ((j : ℕ) → j < length (places_out stays (at + 1) xs) → at + 1 ≤ get_or (places_out stays (at + 1) xs) j d)
        → at ≤ get_or (cond b (places_out stays (at + 1) xs) (at ∷ places_out stays (at + 1) xs)) k d
    by true k inner h = let m = h k inner in omega arith
    by false zero inner h = omega arith
    by false (suc k) inner h = let m = h k (omega arith) in omega arith

out_up : {A : Type 0} (stays : A → Bool) (at : ℕ) (xs : List A) (k d : ℕ) → suc k < length (places_out stays at xs) → get_or (places_out stays at xs) k d < get_or (places_out stays at xs) (suc k) d
out_up stays at [] k d low = absurd (omega arith)
out_up stays at (x ∷ xs) k d low = by (stays x) k low (λ j inner. out_up stays (at + 1) xs j d inner)
  where
    by : (b : Bool) (k : ℕ) → suc k < length (cond b (places_out stays (at + 1) xs) (at ∷ places_out stays (at + 1) xs))
        → ((j : ℕ) → suc j < length (places_out stays (at + 1) xs) → get_or (places_out stays (at + 1) xs) j d < get_or (places_out stays (at + 1) xs) (suc j) d)
        → get_or (cond b (places_out stays (at + 1) xs) (at ∷ places_out stays (at + 1) xs)) k d < get_or (cond b (places_out stays (at + 1) xs) (at ∷ places_out stays (at + 1) xs)) (suc k) d
    by true k inner h = h k inner
    by false zero inner h = let m = out_low stays (at + 1) xs 0 d (omega arith) in omega arith
    by false (suc k) inner h = h k (omega arith)

not_below : (a b : ℕ) → b < a → is_lt (nat_cmp a b) ≡ false
not_below a b low =
    ap (λ c. is_lt (cond c Less (cond (a == b) Equal Greater))) (below_no a b (omega arith)) ∙ ap (λ c. is_lt (cond c Equal Greater)) (same_no a b (omega arith))

-- they rise
pub places_rise : {A : Type 0} (stays : A → Bool) (at : ℕ) (xs : List A) → IsSorted nat_cmp (places_out stays at xs)
places_rise stays at xs = λ k d low high.
    let up = out_up stays at xs k d (omega arith) in
    let next : suc k ≡ k + 1 = omega arith in
    not_below _ _ (subst (λ n. get_or (places_out stays at xs) k d < get_or (places_out stays at xs) n d) next up)

-- so many are below each number from one on, and none is one of these
record Before (front : List ℕ) (at : ℕ) : Type 0 where
  below : (n : ℕ) → at ≤ n → count_by (λ k. nat_lt k n) front ≡ length front
  other : (n : ℕ) → at ≤ n → list_any (λ k. k == n) front ≡ false
  few : length front ≤ at

before_more : (front : List ℕ) (at : ℕ) → Before front at → Before front (at + 1)
before_more front at b = let few = b.few in record { below = λ n low. b.below n (omega arith); other = λ n low. b.other n (omega arith); few = omega arith }

before_next : (front : List ℕ) (at : ℕ) → Before front at → Before (front ++ at ∷ []) (at + 1)
before_next front at b =
    let few = b.few in
    let long = length-append front (at ∷ []) in
    record {
      below = λ n low.
          let all = sum_by-append (λ k. cond (nat_lt k n) 1 0) front (at ∷ []) in
          let here = count_yes (λ k. nat_lt k n) at [] (below_yes at n (omega arith)) in
          let front_is = b.below n (omega arith) in
          omega arith;
      other = λ n low.
          list_any-append (λ k. k == n) front (at ∷ []) ∙ ap (λ b. b || list_any (λ k. k == n) (at ∷ [])) (b.other n (omega arith)) ∙ ap (λ b. b || false) (same_no at n (omega arith));
      few = omega arith;
    }

module _ {A : Type 0} (stays : A → Bool) (ends : A → List ℕ × List ℕ) where
  -- the ranges from a place on, closed up by the places that leave, in front of it and from there on
  left_from : (front : List ℕ) (at : ℕ) (xs : List A) → Before front at → closed_up (front ++ places_out stays at xs) (placed at (map ends xs)) ≡ placed (at - length front) (map ends (filter stays xs))
  left_from front at [] b = refl
  left_from front at (x ∷ xs) b = by (stays x) (left_from front (at + 1) xs (before_more front at b)) (left_from (front ++ at ∷ []) (at + 1) xs (before_next front at b))
    where
      behind : List ℕ
      behind = places_out stays (at + 1) xs

      rest : List Range
      rest = placed (at + 1) (map ends xs)

      kept : List (List ℕ × List ℕ)
      kept = map ends (filter stays xs)

      numbered : ℕ → Range
      numbered n = record { rowset = n; least = (ends x).0; greatest = (ends x).1 }

      by : (c : Bool) → closed_up (front ++ behind) rest ≡ placed (at + 1 - length front) kept → closed_up ((front ++ at ∷ []) ++ behind) rest ≡ placed (at + 1 - length (front ++ at ∷ [])) kept
          → closed_up (front ++ cond c behind (at ∷ behind)) (numbered at ∷ rest) ≡ placed (at - length front) (map ends (cond c (x ∷ filter stays xs) (filter stays xs)))
      by true stay leave =
          let out = front ++ behind in
          let few = b.few in
          let none : list_any (λ n. n == at) out ≡ false = list_any-append (λ n. n == at) front behind ∙ ap (λ b. b || list_any (λ n. n == at) behind) (b.other at (omega arith)) ∙ out_other stays (at + 1) at xs (omega arith) in
          let all = sum_by-append (λ k. cond (nat_lt k at) 1 0) front behind in
          let front_is = b.below at (omega arith) in
          let behind_is = out_from stays (at + 1) at xs (omega arith) in
          let count : count_by (λ n. nat_lt n at) out ≡ length front = omega arith in
          let next : at + 1 - length front ≡ at - length front + 1 = omega arith in
          ap (λ b. map (closed out) (cond (not b) (numbered at ∷ without out rest) (without out rest))) none
          ∙ ap (λ n. numbered (at - n) ∷ closed_up out rest) count
          ∙ ap (λ rs. numbered (at - length front) ∷ rs) (stay ∙ ap (λ n. placed n kept) next)
      by false stay leave =
          let out = front ++ at ∷ behind in
          let few = b.few in
          let here : list_any (λ n. n == at) out ≡ true = list_any-append (λ n. n == at) front (at ∷ behind) ∙ ap (λ b. list_any (λ n. n == at) front || (b || list_any (λ n. n == at) behind)) (same_yes at) ∙ or_true (list_any (λ n. n == at) front) in
          let long = length-append front (at ∷ []) in
          let next : at + 1 - length (front ++ at ∷ []) ≡ at - length front = omega arith in
          ap (λ b. map (closed out) (cond (not b) (numbered at ∷ without out rest) (without out rest))) here
          ∙ ap (λ o. closed_up o rest) (sym (append_assoc front (at ∷ []) behind))
          ∙ leave ∙ ap (λ n. placed n kept) next

  pub left_placed : (xs : List A) → closed_up (places_out stays 0 xs) (placed 0 (map ends xs)) ≡ placed 0 (map ends (filter stays xs))
  left_placed xs = left_from [] 0 xs (record { below = λ n low. refl; other = λ n low. refl; few = omega arith })

-- ---- what such ranges are

pub length-placed : (at : ℕ) (bs : List (List ℕ × List ℕ)) → length (placed at bs) ≡ length bs
length-placed at [] = refl
length-placed at (b ∷ bs) = ap (λ n. suc n) (length-placed (at + 1) bs)

pub low-placed : (at most : ℕ) (bs : List (List ℕ × List ℕ)) → at + length bs ≤ most → All (λ (r : Range). r.rowset < most) (placed at bs)
low-placed at most [] fits = λ k d low. absurd (omega arith)
low-placed at most (b ∷ bs) fits = All-cons (λ (r : Range). r.rowset < most) _ _ (omega arith) (low-placed (at + 1) most bs (omega arith))

-- the range at a place passes a test, so one does
pub any-placed : (p : Range → Bool) (at k : ℕ) (b : List ℕ × List ℕ) (bs : List (List ℕ × List ℕ)) → slice_get bs k ≡ Some b → p (record { rowset = at + k; least = b.0; greatest = b.1 }) ≡ true → list_any p (placed at bs) ≡ true
any-placed p at k b [] none e = absurd (no_some b none)
any-placed p at zero b (c ∷ bs) is e =
    let same : c ≡ b = some_is c b is in
    let here : at + 0 ≡ at = omega arith in
    ap (λ x. x || list_any p (placed (at + 1) bs)) (ap (λ (x : List ℕ × List ℕ). p (record { rowset = at; least = x.0; greatest = x.1 })) same ∙ ap (λ n. p (record { rowset = n; least = b.0; greatest = b.1 })) (sym here) ∙ e)
any-placed p at (suc k) b (c ∷ bs) is e =
    let next : at + suc k ≡ at + 1 + k = omega arith in
    ap (λ x. p (record { rowset = at; least = c.0; greatest = c.1 }) || x) (any-placed p (at + 1) k b bs is (ap (λ n. p (record { rowset = n; least = b.0; greatest = b.1 })) (sym next) ∙ e))
    ∙ or_true (p (record { rowset = at; least = c.0; greatest = c.1 }))

-- a rowset is among the holders where a range of its number holds the key
pub any-holder : (key : List ℕ) (k : ℕ) (xs : List Range) → list_any (λ n. n == k) (holders_of key xs) ≡ list_any (λ (r : Range). (r.rowset == k) && holds key r) xs
any-holder key k [] = refl
any-holder key k (r ∷ xs) = by (holds key r) refl (any-holder key k xs)
  where
    with_true : (a : Bool) → (a && true) ≡ a
    with_true true = refl
    with_true false = refl

    with_false : (a : Bool) → (a && false) ≡ false
    with_false true = refl
    with_false false = refl

    by : (b : Bool) → holds key r ≡ b → list_any (λ n. n == k) (holders_of key xs) ≡ list_any (λ (r : Range). (r.rowset == k) && holds key r) xs
        → list_any (λ n. n == k) (holders_of key (r ∷ xs)) ≡ list_any (λ (r : Range). (r.rowset == k) && holds key r) (r ∷ xs)
    by true e h =
        ap (list_any (λ n. n == k)) (holders-cons_in key r xs e)
        ∙ ap (λ b. (r.rowset == k) || b) h
        ∙ ap (λ b. b || list_any (λ (r : Range). (r.rowset == k) && holds key r) xs) (sym (with_true (r.rowset == k)))
        ∙ ap (λ b. ((r.rowset == k) && b) || list_any (λ (r : Range). (r.rowset == k) && holds key r) xs) (sym e)
    by false e h =
        ap (list_any (λ n. n == k)) (holders-cons_out key r xs e) ∙ h
        ∙ ap (λ b. b || list_any (λ (r : Range). (r.rowset == k) && holds key r) xs) (sym (with_false (r.rowset == k)))
        ∙ ap (λ b. ((r.rowset == k) && b) || list_any (λ (r : Range). (r.rowset == k) && holds key r) xs) (sym e)
