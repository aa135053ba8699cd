-- The best set is found among the left bounds.
use Rattle.std.proofs.Common.{◌≡◌, ℕ, suc, ◌+◌, ◌<◌, ◌≤◌, List, [], ◌∷◌, ◌++◌, refl, true, false, Bool, cond, sym, ap, ◌∙◌, subst, length, get_or, take, drop, arith, inl, inr, add-one}
use Rattle.std.specs.Prelude.{nat_le}
use Rattle.std.specs.List.{sum_by, filter}
use Rattle.std.proofs.lemmas.List.{take-append-drop, append-nil}
use Rattle.std.proofs.lemmas.List.Elements.{filter-append}
use Rattle.std.proofs.lemmas.Bool.{cases_lt, leb-true, le-leb}
use Rattle.kt_policy.specs.declared.candidate.Candidate.{Candidate}
use Rattle.kt_policy.specs.Gain.{width, widths, cost, lowest, highest, gain, chosen, is_known, AreCandidates}
use Rattle.kt_policy.specs.Sums.{in_order, from_bound, IsMost, IsPart, IsTable}
use Rattle.kt_policy.specs.Steps.{offer}
use Rattle.kt_policy.specs.Laws.{IsOffered}
use Rattle.kt_policy.proofs.Sets.{In, Distinct, absent_in, one_of, in_at, place_in, in_take, in_filter, filter_in, distinct_filter, distinct_from_pairs, member_of}
use Rattle.kt_policy.proofs.InOrder.{in_order_from, distinct_order, total_order, order_ascends, ascends_filter, ends_last}

-- the hull

pub lowest_le : (c : Candidate) (cs : List Candidate) (x : Candidate) → In x (c ∷ cs) → lowest c cs ≤ x.least
lowest_le c [] x (inl e) = omega (arith, ap (λ (y : Candidate). y.least) e)
lowest_le c [] x (inr i) = absurd i
lowest_le c (d ∷ ds) x (inl e) = omega (arith, ap (λ (y : Candidate). y.least) e)
lowest_le c (d ∷ ds) x (inr i) = omega (arith, lowest_le d ds x i)

pub le_highest : (c : Candidate) (cs : List Candidate) (x : Candidate) → In x (c ∷ cs) → x.greatest ≤ highest c cs
le_highest c [] x (inl e) = omega (arith, ap (λ (y : Candidate). y.greatest) e)
le_highest c [] x (inr i) = absurd i
le_highest c (d ∷ ds) x (inl e) = omega (arith, ap (λ (y : Candidate). y.greatest) e)
le_highest c (d ∷ ds) x (inr i) = omega (arith, le_highest d ds x i)

pub lowest_member : (c : Candidate) (cs : List Candidate) → (x : Candidate) × In x (c ∷ cs) × (x.least ≡ lowest c cs)
lowest_member c [] = (c, inl refl, refl)
lowest_member c (d ∷ ds) =
    let m = lowest_member d ds in
    elim (cases_lt (lowest d ds) c.least) [
      | inl rest ↦ (m.0, inr m.1, omega (arith, m.2))
      | inr here ↦ (c, inl refl, omega arith)
    ]

from_lowest : (low : ℕ) (c : Candidate) (cs : List Candidate) → ((x : Candidate) → In x (c ∷ cs) → low ≤ x.least) → low ≤ lowest c cs
from_lowest low c cs h = let m = lowest_member c cs in omega (arith, m.2, h m.0 m.1)

upto_highest : (high : ℕ) (c : Candidate) (cs : List Candidate) → ((x : Candidate) → In x (c ∷ cs) → x.greatest ≤ high) → highest c cs ≤ high
upto_highest high c [] h = h c (inl refl)
upto_highest high c (d ∷ ds) h = omega (arith, h c (inl refl), upto_highest high d ds (λ x i. h x (inr i)))

-- parts of a filter

filter_twice : (p q : Candidate → Bool) (cs : List Candidate) → ((x : Candidate) → In x cs → p x ≡ true → q x ≡ true) → filter p (filter q cs) ≡ filter p cs
filter_twice p q [] h = refl
filter_twice p q (c ∷ cs) h = one (q c) refl (filter_twice p q cs (λ x i. h x (inr i)))
  where
    skip : (b : Bool) → p c ≡ b → q c ≡ false → filter p (filter q cs) ≡ filter p cs → filter p (filter q cs) ≡ cond b (c ∷ filter p cs) (filter p cs)
    skip true has lacks rest = let e : true ≡ false = sym (h c (inl refl) has) ∙ lacks in cc
    skip false has lacks rest = rest

    one : (b : Bool) → q c ≡ b → filter p (filter q cs) ≡ filter p cs → filter p (cond b (c ∷ filter q cs) (filter q cs)) ≡ cond (p c) (c ∷ filter p cs) (filter p cs)
    one true e rest = ap (λ r. cond (p c) (c ∷ r) r) rest
    one false e rest = skip (p c) refl e rest

none_chosen : (p : Candidate → Bool) (cs : List Candidate) → ((x : Candidate) → In x cs → p x ≡ true → ⊥) → filter p cs ≡ []
none_chosen p [] h = refl
none_chosen p (c ∷ cs) h = one (p c) refl (none_chosen p cs (λ x i. h x (inr i)))
  where
    one : (b : Bool) → p c ≡ b → filter p cs ≡ [] → cond b (c ∷ filter p cs) (filter p cs) ≡ []
    one true e rest = absurd (h c (inl refl) e)
    one false e rest = rest

apart : (xs ys : List Candidate) → Distinct (xs ++ ys) → (x y : Candidate) → In x xs → In y ys → x.rowset ≡ y.rowset → ⊥
apart [] ys d x y i j e = i
apart (c ∷ xs) ys d x y (inl is) j e = absent_in c.rowset y (xs ++ ys) d.0 (behind xs j) (sym e ∙ ap (λ (z : Candidate). z.rowset) is)
  where
    behind : (zs : List Candidate) → In y ys → In y (zs ++ ys)
    behind [] k = k
    behind (z ∷ zs) k = inr (behind zs k)
apart (c ∷ xs) ys d x y (inr i) j e = apart xs ys d.1 x y i j e

-- a set within the first of a part, told by a test

abbrev pub IsWithin : (ℕ → Bool) → List Candidate → Type 0
IsWithin t cs = (n : ℕ) → t n ≡ true → is_known cs n ≡ true

the_part : (list : List Candidate) (bound : Candidate) (k : ℕ) (t : ℕ → Bool) (x : Candidate) → AreCandidates list → IsWithin t (take k (from_bound bound (in_order list))) → In x list → t x.rowset ≡ true → In x (take k (from_bound bound (in_order list)))
the_part list bound k t x are within i has =
    let m = member_of (take k (from_bound bound (in_order list))) x.rowset (within x.rowset has) in
    let in_part = in_take m.0 k (from_bound bound (in_order list)) m.1 in
    let in_list = in_order_from m.0 list (in_filter m.0 (λ c. nat_le bound.least c.least) (in_order list) in_part).0 in
    subst (λ y. In y (take k (from_bound bound (in_order list)))) (one_of m.0 x list (distinct_from_pairs list are.different) in_list i m.2) m.1

-- it has the same sums in the whole
pub same_total : (f : Candidate → ℕ) (list : List Candidate) (bound : Candidate) (k : ℕ) (t : ℕ → Bool) → AreCandidates list → IsWithin t (take k (from_bound bound (in_order list)))
    → sum_by f (chosen t list) ≡ sum_by f (chosen t (take k (from_bound bound (in_order list))))
same_total f list bound k t are within =
    let part : List Candidate = from_bound bound (in_order list) in
    sym (total_order f t list)
    ∙ ap (sum_by f) (sym (filter_twice (λ c. t c.rowset) (λ c. nat_le bound.least c.least) (in_order list) (λ x i has.
    (in_filter x (λ c. nat_le bound.least c.least) (in_order list) (in_take x k part (the_part list bound k t x are within (in_order_from x list i) has))).1)))
    ∙ ap (λ cs. sum_by f (chosen t cs)) (sym (take-append-drop k part))
    ∙ ap (sum_by f) (filter-append (λ c. t c.rowset) (take k part) (drop k part)
    ∙ ap (λ cs. chosen t (take k part) ++ cs) (none_chosen (λ c. t c.rowset) (drop k part) (λ x i has.
    let m = member_of (take k part) x.rowset (within x.rowset has) in
    apart (take k part) (drop k part) (subst Distinct (sym (take-append-drop k part)) (distinct_filter (λ c. nat_le bound.least c.least) (in_order list) (distinct_order list (distinct_from_pairs list are.different)))) m.0 x m.1 i m.2))
    ∙ append-nil (chosen t (take k part)))

-- what is offered at the last of a part is gained by the set behind it
pub offer_gained : (list : List Candidate) (budget : ℕ) (bound : Candidate) (rows : List (List ℕ)) (k : ℕ) (d : Candidate) (t : ℕ → Bool) → AreCandidates list → k < length (from_bound bound (in_order list))
    → IsWithin t (take (k + 1) (from_bound bound (in_order list))) → widths (chosen t (take (k + 1) (from_bound bound (in_order list)))) ≡ get_or (get_or rows (k + 1) []) budget 0
    → offer bound (from_bound bound (in_order list)) budget rows k d ≤ gain (chosen t list)
offer_gained list budget bound rows k d t are lt within sum = one (chosen t list) refl
  where
    one : (cs : List Candidate) → chosen t list ≡ cs → offer bound (from_bound bound (in_order list)) budget rows k d ≤ gain cs
    one [] is = omega (arith, same_total width list bound (k + 1) t are within, ap widths is, sum)
    one (c ∷ cs) is =
        let total = same_total width list bound (k + 1) t are within in
        let each = λ (x : Candidate) (i : In x (c ∷ cs)).
        (let m = in_filter x (λ y. t y.rowset) list (subst (In x) (sym is) i) in the_part list bound (k + 1) t x are within m.0 m.1) in
        let low = from_lowest bound.least c cs (λ x i. leb-true bound.least x.least (in_filter x (λ y. nat_le bound.least y.least) (in_order list) (in_take x (k + 1) (from_bound bound (in_order list)) (each x i))).1) in
        let high = upto_highest (get_or (from_bound bound (in_order list)) k d).greatest c cs (λ x i. ends_last 0 k (from_bound bound (in_order list)) d x
        (ascends_filter 0 (λ y. nat_le bound.least y.least) (in_order list) (order_ascends list)) lt (subst (λ n. In x (take n (from_bound bound (in_order list)))) (add-one k) (each x i))) in
        omega (arith, total, ap widths is, sum, low, high)

-- the last of a chosen set
pub last_chosen : (t : ℕ → Bool) (cs : List Candidate) → (chosen t cs ≡ [] → ⊥) → (k : ℕ) × (k < length cs) × ((d : Candidate) → t (get_or cs k d).rowset ≡ true) × (chosen t (take (k + 1) cs) ≡ chosen t cs)
last_chosen t [] some = absurd (some refl)
last_chosen t (c ∷ cs) some = one (chosen t cs) refl (last_chosen t cs)
  where
    here : (b : Bool) → t c.rowset ≡ b → chosen t cs ≡ [] → t c.rowset ≡ true
    here true e none = e
    here false e none = absurd (some (ap (λ b. cond b (c ∷ chosen t cs) (chosen t cs)) e ∙ none))

    one : (ds : List Candidate) → chosen t cs ≡ ds → ((chosen t cs ≡ [] → ⊥) → (k : ℕ) × (k < length cs) × ((d : Candidate) → t (get_or cs k d).rowset ≡ true) × (chosen t (take (k + 1) cs) ≡ chosen t cs))
        → (k : ℕ) × (k < length (c ∷ cs)) × ((d : Candidate) → t (get_or (c ∷ cs) k d).rowset ≡ true) × (chosen t (take (k + 1) (c ∷ cs)) ≡ chosen t (c ∷ cs))
    one [] none rest = (0, omega arith, λ d. here (t c.rowset) refl none, ap (λ ds. cond (t c.rowset) (c ∷ ds) ds) (sym none))
    one (d ∷ ds) more rest =
        let r = rest (λ none. let e : d ∷ ds ≡ [] = sym more ∙ none in cc) in
        (suc r.0, omega (arith, r.1), r.2, ap (λ n. chosen t (take n (c ∷ cs))) (add_suc r.0) ∙ ap (λ es. cond (t c.rowset) (c ∷ es) es) r.3)
      where
        add_suc : (n : ℕ) → suc n + 1 ≡ suc (n + 1)
        add_suc n = omega arith

-- the sum at the end of a row
pub sum_at : (list : List Candidate) (budget : ℕ) (table : List (List (List ℕ))) (l k : ℕ) (d x : Candidate) → IsTable list budget table → l < length list → get_or list l d ≡ x → k < length (from_bound x (in_order list))
    → IsMost (take (k + 1) (from_bound x (in_order list))) budget (get_or (get_or (get_or table l []) (k + 1) []) budget 0)
sum_at list budget table l k d x tab in_list e lt =
    let p : IsPart (from_bound x (in_order list)) budget (get_or table l []) = subst (λ b. IsPart (from_bound b (in_order list)) budget (get_or table l [])) e (tab.parts l d in_list) in
    (p.each (k + 1) (omega arith)).sums budget (omega arith)

-- each set within the budget that gains something is offered by a left bound and a last candidate
pub gain_offered : (list : List Candidate) (budget : ℕ) (table : List (List (List ℕ))) (t : ℕ → Bool) → AreCandidates list → IsTable list budget table → cost (chosen t list) ≤ budget → 0 < gain (chosen t list) → IsOffered list budget table (gain (chosen t list))
gain_offered list budget table t are is_table le gains = one (chosen t list) refl
  where
    one : (cs : List Candidate) → chosen t list ≡ cs → IsOffered list budget table (gain (chosen t list))
    one [] is = absurd (omega (arith, gains, ap widths is))
    one (c ∷ cs) is =
        let m = lowest_member c cs in
        let x = m.0 in
        let in_set = λ (y : Candidate) (i : In y list) (has : t y.rowset ≡ true). (subst (In y) is (filter_in y (λ z. t z.rowset) list i has)) in
        let x_in = in_filter x (λ z. t z.rowset) list (subst (In x) (sym is) m.1) in
        let at = place_in x list x_in.0 in
        let part : List Candidate = from_bound x (in_order list) in
        let kept : chosen t part ≡ chosen t (in_order list) = filter_twice (λ z. t z.rowset) (λ z. nat_le x.least z.least) (in_order list)
        (λ y i has. le-leb x.least y.least (omega (arith, m.2, lowest_le c cs y (in_set y (in_order_from y list i) has)))) in
        let some = λ (none : chosen t part ≡ []). (let zero_is : widths (chosen t list) ≡ 0 = sym (ap widths kept ∙ total_order width t list) ∙ ap widths none in absurd (omega (arith, gains, zero_is))) in
        let l = last_chosen t part some in
        let sums = λ (d : Candidate). (sum_at list budget table at.0 l.0 d x is_table at.1 (at.2 d) l.1) in
        record {
          bound = at.0;
          last = l.0;
          in_list = at.1;
          in_part = λ d. subst (λ b. l.0 < length (from_bound b (in_order list))) (sym (at.2 d)) l.1;
          offers = λ d.
              let y_in = in_at part l.0 d l.1 in
              let y_list = in_order_from (get_or part l.0 d) list (in_filter (get_or part l.0 d) (λ z. nat_le x.least z.least) (in_order list) y_in).0 in
              let high = le_highest c cs (get_or part l.0 d) (in_set (get_or part l.0 d) y_list (l.2 d)) in
              let most = (sums d).most t (omega (arith, ap cost l.3, ap cost kept, total_order (λ (z : Candidate). z.units) t list, le)) in
              let here : gain (chosen t list) ≤ offer x part budget (get_or table at.0 []) l.0 d = omega (arith, most, ap widths l.3, ap widths kept, total_order width t list, ap gain is, ap widths is, high, m.2) in
              subst (λ b. gain (chosen t list) ≤ offer b (from_bound b (in_order list)) budget (get_or table at.0 []) l.0 d) (sym (at.2 d)) here;
        }
