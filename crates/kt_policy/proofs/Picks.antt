-- The set behind the greatest offer is a best one, and no other gain is a best one's.
use Rattle.std.proofs.Common.{◌≡◌, ℕ, ◌+◌, ◌<◌, ◌≤◌, List, [], refl, true, false, Bool, ◌&&◌, sym, ap, ◌∙◌, subst, get_or, take, arith, inl, inr}
use Rattle.std.specs.Prelude.{◌==◌, nat_le}
use Rattle.std.specs.List.{All, AllPairs}
use Rattle.std.proofs.lemmas.List.Folds.{list_any_at}
use Rattle.std.proofs.lemmas.Bool.{cases_lt, eq-eqb}
use Rattle.kt_policy.specs.declared.candidate.Candidate.{Candidate}
use Rattle.kt_policy.specs.declared.picking.Picked.{Picked}
use Rattle.kt_policy.specs.Gain.{widths, cost, gain, chosen, is_in, is_known, AreCandidates, IsBest, NothingGains}
use Rattle.kt_policy.specs.Sums.{in_order, from_bound, IsTable}
use Rattle.kt_policy.specs.Choice.{IsPicked}
use Rattle.kt_policy.specs.Steps.{IsTop, IsBehind}
use Rattle.kt_policy.specs.Laws.{offers_are_gained}
use Rattle.kt_policy.proofs.Sets.{blank, in_take, in_filter, member_of, known_of, filter_alike}
use Rattle.kt_policy.proofs.InOrder.{in_order_from}
use Rattle.kt_policy.proofs.Bounds.{IsWithin, same_total, offer_gained, sum_at, gain_offered}

-- a test cut to these candidates
abbrev pub cut_to : List Candidate → (ℕ → Bool) → ℕ → Bool
cut_to cs t n = t n && is_known cs n

cut_within : (cs : List Candidate) (t : ℕ → Bool) → IsWithin (cut_to cs t) cs
cut_within cs t n h = right (t n) h
  where
    right : (a : Bool) → (a && is_known cs n) ≡ true → is_known cs n ≡ true
    right true e = e
    right false e = cc

cut_same : (cs : List Candidate) (t : ℕ → Bool) → chosen (cut_to cs t) cs ≡ chosen t cs
cut_same cs t = filter_alike (λ c. cut_to cs t c.rowset) (λ c. t c.rowset) cs (λ x i. ap (λ b. t x.rowset && b) (known_of cs x i) ∙ and_true (t x.rowset))
  where
    and_true : (b : Bool) → (b && true) ≡ b
    and_true true = refl
    and_true false = refl

pub offers_gained : offers_are_gained
offers_gained list budget table bound last d are tab in_list in_part =
    let x : Candidate = get_or list bound d in
    let cs : List Candidate = take (last + 1) (from_bound x (in_order list)) in
    let m = sum_at list budget table bound last d x tab in_list refl in_part in
    let t = cut_to cs m.test in
    let same = cut_same cs m.test in
    record {
      test = t;
      within = omega (arith, same_total (λ (c : Candidate). c.units) list x (last + 1) t are (cut_within cs m.test), ap cost same, m.within);
      gains = offer_gained list budget x (get_or table bound []) last d t are in_part (cut_within cs m.test) (ap widths same ∙ m.reached);
    }

-- no set within the budget gains more than the greatest offer
pub top_most : (list : List Candidate) (budget : ℕ) (table : List (List (List ℕ))) (n bound last : ℕ) (t : ℕ → Bool) → AreCandidates list → IsTable list budget table → IsTop list budget table n bound last → cost (chosen t list) ≤ budget → gain (chosen t list) ≤ n
top_most list budget table n bound last t are tab top le = elim (cases_lt 0 (gain (chosen t list))) [
  | inl some ↦ let o = gain_offered list budget table t are tab le some in omega (arith, o.offers blank, top.most o.bound o.last blank o.in_list (o.in_part blank))
  | inr none ↦ omega arith
]

pub nothing_gains : (list : List Candidate) (budget : ℕ) (table : List (List (List ℕ))) (n bound last : ℕ) → AreCandidates list → IsTable list budget table → IsTop list budget table n bound last → n ≡ 0 → NothingGains list budget
nothing_gains list budget table n bound last are tab top zero_is t le = omega (arith, top_most list budget table n bound last t are tab top le, zero_is)

-- and some set gains it
best_gains : (list : List Candidate) (budget : ℕ) (table : List (List (List ℕ))) (n bound last : ℕ) (set : List ℕ) → AreCandidates list → IsTable list budget table → IsTop list budget table n bound last → IsBest list budget set → gain (chosen (is_in set) list) ≡ n
best_gains list budget table n bound last set are tab top best = elim (cases_lt 0 n) [
  | inl some ↦
      let m = top.made some in
      let g = offers_gained list budget table bound last blank are tab m.0 (m.1 blank) in
      omega (arith, top_most list budget table n bound last (is_in set) are tab top best.within, m.2 blank, g.gains, best.most g.test g.within)
  | inr none ↦ omega (arith, top_most list budget table n bound last (is_in set) are tab top best.within)
]

-- what a checker finds
pub record AreRight (list : List Candidate) (budget n : ℕ) (set : List ℕ) : Type 0 where
  pub gains : gain (chosen (is_in set) list) ≡ n
  pub within : cost (chosen (is_in set) list) ≤ budget
  pub rises : AllPairs (λ m k. m < k) set
  pub known : All (λ id. is_known list id ≡ true) set

pub picked_from : (list : List Candidate) (budget n bound last : ℕ) (picked : Picked) → AreCandidates list → IsTable list budget picked.table → IsTop list budget picked.table n bound last → 0 < n → picked.gain ≡ n → AreRight list budget n picked.set → IsPicked list budget picked
picked_from list budget n bound last picked are tab top some is r = record {
  best = record { rises = r.rises; known = r.known; within = r.within; most = λ t le. omega (arith, top_most list budget picked.table n bound last t are tab top le, r.gains) };
  gain = is ∙ sym r.gains;
  gains = omega (arith, is);
  table = tab;
}

pub picked_gains : (list : List Candidate) (budget n bound last : ℕ) (picked : Picked) → AreCandidates list → IsTop list budget picked.table n bound last → IsPicked list budget picked → (0 < n) × (picked.gain ≡ n) × AreRight list budget n picked.set
picked_gains list budget n bound last picked are top p =
    let e = best_gains list budget picked.table n bound last picked.set are p.table top p.best in
    (omega (arith, e, p.gain, p.gains), p.gain ∙ e, record { gains = e; within = p.best.within; rises = p.best.rises; known = p.best.known })

-- the set behind the greatest offer
pub behind_top : (list : List Candidate) (budget n bound last : ℕ) (picked : Picked) (part : List Candidate) (rows : List (List ℕ)) → AreCandidates list → IsTable list budget picked.table → IsTop list budget picked.table n bound last → 0 < n → picked.gain ≡ n
    → part ≡ from_bound (get_or list bound blank) (in_order list) → rows ≡ get_or picked.table bound []
    → IsBehind (take (last + 1) part) budget (get_or (get_or rows (last + 1) []) budget 0) picked.set → IsPicked list budget picked
behind_top list budget n bound last picked part rows are tab top some is part_is rows_are b =
    let x : Candidate = get_or list bound blank in
    let m = top.made some in
    let cs : List Candidate = take (last + 1) (from_bound x (in_order list)) in
    let c : IsBehind cs budget (get_or (get_or (get_or picked.table bound []) (last + 1) []) budget 0) picked.set =
    subst (λ p. IsBehind (take (last + 1) p) budget (get_or (get_or (get_or picked.table bound []) (last + 1) []) budget 0) picked.set) part_is
    (subst (λ r. IsBehind (take (last + 1) part) budget (get_or (get_or r (last + 1) []) budget 0) picked.set) rows_are b) in
    let within : cost (chosen (is_in picked.set) list) ≤ budget = omega (arith, same_total (λ (y : Candidate). y.units) list x (last + 1) (is_in picked.set) are c.drawn, c.within) in
    let low = offer_gained list budget x (get_or picked.table bound []) last blank (is_in picked.set) are (m.1 blank) c.drawn c.reached in
    picked_from list budget n bound last picked are tab top some is record {
      gains = omega (arith, top_most list budget picked.table n bound last (is_in picked.set) are tab top within, low, m.2 blank);
      within = within;
      rises = c.rises;
      known = λ k d lt.
          let id : ℕ = get_or picked.set k d in
          let at = member_of cs id (c.drawn id (list_any_at (λ i. i == id) picked.set k d lt (eq-eqb id id refl))) in
          let in_list = in_order_from at.0 list (in_filter at.0 (λ c. nat_le x.least c.least) (in_order list) (in_take at.0 (last + 1) (from_bound x (in_order list)) at.1)).0 in
          subst (λ i. is_known list i ≡ true) at.2 (known_of list at.0 in_list);
    }

-- the same with the table and the set as the code reads them
pub found : (list : List Candidate) (budget n bound last : ℕ) (picked : Picked) (table : List (List (List ℕ))) → AreCandidates list → table ≡ picked.table → IsTop list budget table n bound last → IsPicked list budget picked
    → (0 < n) × (picked.gain ≡ n) × AreRight list budget n picked.set
found list budget n bound last picked table are e top is = picked_gains list budget n bound last picked are (subst (λ t. IsTop list budget t n bound last) e top) is

pub from_found : (list : List Candidate) (budget n bound last : ℕ) (picked : Picked) (table : List (List (List ℕ))) → AreCandidates list → table ≡ picked.table → IsTable list budget picked.table → IsTop list budget table n bound last → 0 < n → picked.gain ≡ n
    → AreRight list budget n picked.set → IsPicked list budget picked
from_found list budget n bound last picked table are e tab top some is r = picked_from list budget n bound last picked are tab (subst (λ t. IsTop list budget t n bound last) e top) some is r

pub right_set : (list : List Candidate) (budget n : ℕ) (picked : Picked) (set : List ℕ) (cost_is gain_is : ℕ) (rising known : Bool) → set ≡ picked.set → cost_is ≡ cost (chosen (is_in set) list) → gain_is ≡ gain (chosen (is_in set) list) → gain_is ≡ n → cost_is ≤ budget
    → (rising ≡ true → AllPairs (λ m k. m < k) set) → rising ≡ true → (known ≡ true → All (λ id. is_known list id ≡ true) set) → known ≡ true → AreRight list budget n picked.set
right_set list budget n picked set cost_is gain_is rising known e costs gains same le rises up knows are = subst (AreRight list budget n) e (record {
  gains = sym gains ∙ same;
  within = omega (arith, costs, le);
  rises = rises up;
  known = knows are;
})

-- the answer of a search
pub none_to_pick : (list cs : List Candidate) (budget n bound last : ℕ) (table read : List (List (List ℕ))) → cs ≡ list → read ≡ table → AreCandidates list → IsTable cs budget table → IsTop cs budget read n bound last → n ≡ 0 → NothingGains list budget
none_to_pick list cs budget n bound last table read e f are tab top zero_is =
    nothing_gains list budget table n bound last are (subst (λ l. IsTable l budget table) e tab) (subst (λ l. IsTop l budget table n bound last) e (subst (λ t. IsTop cs budget t n bound last) f top)) zero_is

pub one_to_pick : (list cs : List Candidate) (budget n bound last : ℕ) (picked : Picked) (read : List (List (List ℕ))) (part : List Candidate) (rows : List (List ℕ)) → cs ≡ list → read ≡ picked.table → AreCandidates list → IsTable cs budget picked.table → IsTop cs budget read n bound last
    → 0 < n → picked.gain ≡ n → part ≡ from_bound (get_or cs bound blank) (in_order cs) → rows ≡ get_or picked.table bound []
    → IsBehind (take (last + 1) part) budget (get_or (get_or rows (last + 1) []) budget 0) picked.set → IsPicked list budget picked
one_to_pick list cs budget n bound last picked read part rows e f are tab top some is part_is rows_are b =
    behind_top list budget n bound last picked part rows are (subst (λ l. IsTable l budget picked.table) e tab) (subst (λ l. IsTop l budget picked.table n bound last) e (subst (λ t. IsTop cs budget t n bound last) f top)) some is
    (part_is ∙ ap (λ l. from_bound (get_or l bound blank) (in_order l)) e) rows_are b
