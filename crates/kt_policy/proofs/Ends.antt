-- The ends of a set, member by member.
use Rattle.std.proofs.Common.{◌≡◌, ℕ, ◌+◌, ◌-◌, ◌*◌, ◌^◌, ◌<◌, ◌≤◌, List, [], ◌∷◌, ◌++◌, refl, true, false, Bool, cond, sym, ap, ◌∙◌, subst, length, get_or, take, arith, min, max, inl, inr, add-zero}
use Rattle.std.specs.List.{sum_by, AllPairs}
use Rattle.std.proofs.lemmas.List.{append-nil, take_all, take_more, length-take-le, get_or-take, get_or_default}
use Rattle.std.proofs.lemmas.List.Elements.{filter-append}
use Rattle.std.proofs.lemmas.Bool.{cases_lt}
use Rattle.kt_policy.specs.declared.candidate.Candidate.{Candidate}
use Rattle.kt_policy.specs.Gain.{width, widths, cost, lowest, highest, hull, gain, chosen, IsCandidate, AreCandidates}
use Rattle.kt_policy.proofs.Sets.{In, in_filter, in_take, in_from_all, total_push, total_le}

abbrev pub low_of : List Candidate → ℕ
low_of [] = 2 ^ 32 - 1
low_of (c ∷ cs) = min c.least (low_of cs)

abbrev pub high_of : List Candidate → ℕ
high_of [] = 0
high_of (c ∷ cs) = max c.greatest (high_of cs)

low_push : (cs : List Candidate) (x : Candidate) → IsCandidate x → low_of (cs ++ x ∷ []) ≡ min (low_of cs) x.least
low_push [] x h = omega (arith, h.rises, h.ranks)
low_push (c ∷ cs) x h = omega (arith, low_push cs x h)

high_push : (cs : List Candidate) (x : Candidate) → high_of (cs ++ x ∷ []) ≡ max (high_of cs) x.greatest
high_push [] x = omega arith
high_push (c ∷ cs) x = omega (arith, high_push cs x)

low_is : (c : Candidate) (cs : List Candidate) → IsCandidate c → ((x : Candidate) → In x cs → IsCandidate x) → low_of (c ∷ cs) ≡ lowest c cs
low_is c [] h each = omega (arith, h.rises, h.ranks)
low_is c (d ∷ ds) h each = ap (min c.least) (low_is d ds (each d (inl refl)) (λ x i. each x (inr i)))

high_is : (c : Candidate) (cs : List Candidate) → high_of (c ∷ cs) ≡ highest c cs
high_is c [] = omega arith
high_is c (d ∷ ds) = ap (max c.greatest) (high_is d ds)

-- the hull by its ends
pub hull_is : (cs : List Candidate) → ((x : Candidate) → In x cs → IsCandidate x) → (high_of cs + 1) - low_of cs ≡ hull cs
hull_is [] each = omega arith
hull_is (c ∷ cs) each =
    let h = each c (inl refl) in
    let rest = λ (x : Candidate) (i : In x cs). (each x (inr i)) in
    omega (arith, low_is c cs h rest, high_is c cs, up c cs h)
  where
    up : (c : Candidate) (cs : List Candidate) → IsCandidate c → lowest c cs ≤ highest c cs
    up c [] h = h.rises
    up c (d ∷ ds) h = omega (arith, h.rises)

-- the set goes on to the next candidate
pub chosen_more : (t : ℕ → Bool) (list : List Candidate) (i : ℕ) (d : Candidate) → i < length list → chosen t (take (i + 1) list) ≡ chosen t (take i list) ++ cond (t (get_or list i d).rowset) (get_or list i d ∷ []) []
chosen_more t list i d lt = ap (chosen t) (take_more list i d lt) ∙ filter-append (λ c. t c.rowset) (take i list) (get_or list i d ∷ [])

pub total_more : (f : Candidate → ℕ) (t : ℕ → Bool) (list : List Candidate) (i : ℕ) (d : Candidate) → i < length list → sum_by f (chosen t (take (i + 1) list)) ≡ sum_by f (chosen t (take i list)) + cond (t (get_or list i d).rowset) (f (get_or list i d)) 0
total_more f t list i d lt = ap (λ cs. sum_by f (chosen t cs)) (take_more list i d lt) ∙ total_push f t (take i list) (get_or list i d)

pub each_chosen : (t : ℕ → Bool) (list : List Candidate) (i : ℕ) → AreCandidates list → (x : Candidate) → In x (chosen t (take i list)) → IsCandidate x
each_chosen t list i are x h = in_from_all IsCandidate list are.each x (in_take x i list (in_filter x (λ c. t c.rowset) (take i list) h).0)

pub low_more : (t : ℕ → Bool) (list : List Candidate) (i : ℕ) (d : Candidate) (b : Bool) → AreCandidates list → i < length list → t (get_or list i d).rowset ≡ b → low_of (chosen t (take (i + 1) list)) ≡ cond b (min (low_of (chosen t (take i list))) (get_or list i d).least) (low_of (chosen t (take i list)))
low_more t list i d true are lt e = ap low_of (chosen_more t list i d lt ∙ ap (λ b. chosen t (take i list) ++ cond b (get_or list i d ∷ []) []) e) ∙ low_push (chosen t (take i list)) (get_or list i d) (are.each i d lt)
low_more t list i d false are lt e = ap low_of (chosen_more t list i d lt ∙ ap (λ b. chosen t (take i list) ++ cond b (get_or list i d ∷ []) []) e ∙ append-nil (chosen t (take i list)))

pub high_more : (t : ℕ → Bool) (list : List Candidate) (i : ℕ) (d : Candidate) (b : Bool) → i < length list → t (get_or list i d).rowset ≡ b → high_of (chosen t (take (i + 1) list)) ≡ cond b (max (high_of (chosen t (take i list))) (get_or list i d).greatest) (high_of (chosen t (take i list)))
high_more t list i d true lt e = ap high_of (chosen_more t list i d lt ∙ ap (λ b. chosen t (take i list) ++ cond b (get_or list i d ∷ []) []) e) ∙ high_push (chosen t (take i list)) (get_or list i d)
high_more t list i d false lt e = ap high_of (chosen_more t list i d lt ∙ ap (λ b. chosen t (take i list) ++ cond b (get_or list i d ∷ []) []) e ∙ append-nil (chosen t (take i list)))

-- the sums fit
pub widths_fit : (t : ℕ → Bool) (list : List Candidate) (i : ℕ) → AreCandidates list → i < length list → widths (chosen t (take i list)) < 2 ^ 20
widths_fit t list i are lt = omega (arith, total_le width t 128 (take i list) (λ x h. let c = in_from_all IsCandidate list are.each x (in_take x i list h) in omega (arith, c.rises, c.ranks)), length-take-le i list (omega arith), are.few)

pub cost_fits : (t : ℕ → Bool) (list : List Candidate) (i : ℕ) → AreCandidates list → ((x : Candidate) → In x list → x.units < 2 ^ 32) → i < length list → cost (chosen t (take i list)) < 2 ^ 40
cost_fits t list i are small lt = omega (arith, total_le (λ (c : Candidate). c.units) t (2 ^ 32) (take i list) (λ x h. let s = small x (in_take x i list h) in omega arith), length-take-le i list (omega arith), are.few)

-- numbers that rise, and one more above the last of them
pub rising_more : (set : List ℕ) (k : ℕ) → 1 ≤ k → k < length set → get_or set (k - 1) 0 < get_or set k 0 → AllPairs (λ m n. m < n) (take k set) → AllPairs (λ m n. m < n) (take (k + 1) set)
rising_more set k pos lt up h i j d ij in_list =
    let len = length-take-le (k + 1) set (omega arith) in
    let len_k = length-take-le k set (omega arith) in
    subst (λ n. n < get_or (take (k + 1) set) j d) (sym (get_or-take (k + 1) set i d (omega (arith, len))))
    (subst (λ n. get_or set i d < n) (sym (get_or-take (k + 1) set j d (omega (arith, len))))
    (elim (cases_lt j k) [
      | inl below ↦ subst (λ n. n < get_or set j d) (get_or-take k set i d (omega arith)) (subst (λ n. get_or (take k set) i d < n) (get_or-take k set j d below) (h i j d ij (omega (arith, len_k))))
      | inr from ↦
          let same : k ≡ j = omega (arith, len) in
          let top : get_or set (k - 1) d < get_or set k d = omega (arith, up, get_or_default set (k - 1) 0 d (omega arith), get_or_default set k 0 d lt) in
          subst (λ n. get_or set i d < get_or set n d) same (elim (cases_lt i (k - 1)) [
            | inl lower ↦ let step : get_or (take k set) i d < get_or (take k set) (k - 1) d = h i (k - 1) d lower (omega (arith, len_k)) in
                omega (arith, step, get_or-take k set i d (omega arith), get_or-take k set (k - 1) d (omega arith), top)
            | inr last ↦ let is : k - 1 ≡ i = omega arith in subst (λ n. get_or set n d < get_or set k d) is top
          ])
    ]))

pub high_fits : (t : ℕ → Bool) (list : List Candidate) (i : ℕ) → AreCandidates list → high_of (chosen t (take i list)) < 128
high_fits t list i are = upto (chosen t (take i list)) (λ x h. (each_chosen t list i are x h).ranks)
  where
    upto : (cs : List Candidate) → ((x : Candidate) → In x cs → x.greatest < 128) → high_of cs < 128
    upto [] h = omega arith
    upto (c ∷ cs) h = omega (arith, h c (inl refl), upto cs (λ x i. h x (inr i)))

-- the gain from the widths and the ends
pub gain_is : (t : ℕ → Bool) (list : List Candidate) (i sum low high span n : ℕ) → AreCandidates list → length list ≤ i → sum ≡ widths (chosen t (take i list)) → low ≡ low_of (chosen t (take i list)) → high ≡ high_of (chosen t (take i list))
    → span ≡ (high + 1) - low → n ≡ sum - span → n ≡ gain (chosen t list)
gain_is t list i sum low high span n are all sums lows highs spans is =
    let h = hull_is (chosen t (take i list)) (each_chosen t list i are) in
    is ∙ (let e : sum - span ≡ gain (chosen t (take i list)) = omega (arith, h) in e) ∙ ap (λ cs. gain (chosen t cs)) (take_all i list all)

-- one candidate more, in the set or not
pub record Measured (t : ℕ → Bool) (list : List Candidate) (i cost_is sum low high : ℕ) : Type 0 where
  pub small : cost_is ≤ 2 ^ 32 * i
  pub costs : cost_is ≡ cost (chosen t (take i list))
  pub sums : sum ≡ widths (chosen t (take i list))
  pub low_is : low ≡ low_of (chosen t (take i list))
  pub high_is : high ≡ high_of (chosen t (take i list))

pub measured_with : (t : ℕ → Bool) (list : List Candidate) (i : ℕ) (d : Candidate) (cost_is sum low high c w l h : ℕ) → AreCandidates list → i < length list → t (get_or list i d).rowset ≡ true → Measured t list i cost_is sum low high
    → (get_or list i d).units < 2 ^ 32 → c ≡ cost_is + (get_or list i d).units → w ≡ sum + width (get_or list i d) → l ≡ min low (get_or list i d).least → h ≡ max high (get_or list i d).greatest → Measured t list (i + 1) c w l h
measured_with t list i d cost_is sum low high c w l h are lt has m small ec ew el eh =
    let tc = total_more (λ (y : Candidate). y.units) t list i d lt ∙ ap (λ b. cost (chosen t (take i list)) + cond b (get_or list i d).units 0) has in
    let tw = total_more width t list i d lt ∙ ap (λ b. widths (chosen t (take i list)) + cond b (width (get_or list i d)) 0) has in
    record {
      small = omega (arith, ec, m.small, small);
      costs = ec ∙ ap (λ n. n + (get_or list i d).units) m.costs ∙ sym tc;
      sums = ew ∙ ap (λ n. n + width (get_or list i d)) m.sums ∙ sym tw;
      low_is = el ∙ ap (λ n. min n (get_or list i d).least) m.low_is ∙ sym (low_more t list i d true are lt has);
      high_is = eh ∙ ap (λ n. max n (get_or list i d).greatest) m.high_is ∙ sym (high_more t list i d true lt has);
    }

pub measured_without : (t : ℕ → Bool) (list : List Candidate) (i : ℕ) (d : Candidate) (cost_is sum low high c w l h : ℕ) → AreCandidates list → i < length list → t (get_or list i d).rowset ≡ false → Measured t list i cost_is sum low high
    → c ≡ cost_is → w ≡ sum → l ≡ low → h ≡ high → Measured t list (i + 1) c w l h
measured_without t list i d cost_is sum low high c w l h are lt has m ec ew el eh =
    let tc = total_more (λ (y : Candidate). y.units) t list i d lt ∙ ap (λ b. cost (chosen t (take i list)) + cond b (get_or list i d).units 0) has ∙ add-zero (cost (chosen t (take i list))) in
    let tw = total_more width t list i d lt ∙ ap (λ b. widths (chosen t (take i list)) + cond b (width (get_or list i d)) 0) has ∙ add-zero (widths (chosen t (take i list))) in
    record {
      small = omega (arith, ec, m.small);
      costs = ec ∙ m.costs ∙ sym tc;
      sums = ew ∙ m.sums ∙ sym tw;
      low_is = el ∙ m.low_is ∙ sym (low_more t list i d false are lt has);
      high_is = eh ∙ m.high_is ∙ sym (high_more t list i d false lt has);
    }
