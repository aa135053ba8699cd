-- The greatest sums, with one candidate after the other.
use Rattle.std.proofs.Common.{◌≡◌, ℕ, zero, suc, ◌+◌, ◌-◌, ◌^◌, ◌<◌, ◌≤◌, List, [], ◌∷◌, ◌++◌, refl, true, false, Bool, cond, sym, ap, ◌∙◌, subst, length, get_or, arith, max, inl, inr}
use Rattle.std.specs.Prelude.{nat_le}
use Rattle.std.specs.List.{All}
use Rattle.std.proofs.lemmas.Bool.{cases_lt, cases_Bool, leb-true, leb-false}
use Rattle.kt_policy.specs.declared.candidate.Candidate.{Candidate}
use Rattle.kt_policy.specs.Gain.{width, widths, cost, chosen}
use Rattle.kt_policy.specs.Sums.{IsMost, IsRow}
use Rattle.kt_policy.specs.Steps.{with_more, IsNext}
use Rattle.kt_policy.proofs.Sets.{In, Absent, total_push, total_le, with_number, without_number, chosen_with, chosen_without, has_with, lacks_without}

abbrev units : Candidate → ℕ
units c = c.units

pub most_of_none : (b : ℕ) → IsMost [] b 0
most_of_none b = record { test = λ n. false; within = omega arith; reached = refl; most = λ other le. omega arith }

-- one greatest sum there is
pub most_once : (cs : List Candidate) (b v w : ℕ) → IsMost cs b v → IsMost cs b w → v ≡ w
most_once cs b v w m n = omega (arith, m.most n.test n.within, n.reached, n.most m.test m.within, m.reached)

-- without the candidate
most_without : (cs : List Candidate) (x : Candidate) (b v : ℕ) → Absent x.rowset cs → IsMost cs b v
    → ((other : ℕ → Bool) → cost (chosen other (cs ++ x ∷ [])) ≤ b → widths (chosen other (cs ++ x ∷ [])) ≤ v) → IsMost (cs ++ x ∷ []) b v
most_without cs x b v absent m most =
    let t = without_number x.rowset m.test in
    let same = chosen_without x.rowset m.test cs absent in
    let lacks = lacks_without x.rowset m.test in
    record {
      test = t;
      within = subst (λ n. n ≤ b) (sym (total_push units t cs x ∙ ap (λ k. cost (chosen t cs) + cond k x.units 0) lacks)) (omega (arith, ap cost same, m.within));
      reached = total_push width t cs x ∙ ap (λ k. widths (chosen t cs) + cond k (width x) 0) lacks ∙ omega (arith, ap widths same, m.reached);
      most = most;
    }

-- with it
most_with : (cs : List Candidate) (x : Candidate) (b w : ℕ) → Absent x.rowset cs → x.units ≤ b → IsMost cs (b - x.units) w
    → ((other : ℕ → Bool) → cost (chosen other (cs ++ x ∷ [])) ≤ b → widths (chosen other (cs ++ x ∷ [])) ≤ w + width x) → IsMost (cs ++ x ∷ []) b (w + width x)
most_with cs x b w absent fits m most =
    let t = with_number x.rowset m.test in
    let same = chosen_with x.rowset m.test cs absent in
    let has = has_with x.rowset m.test in
    record {
      test = t;
      within = subst (λ n. n ≤ b) (sym (total_push units t cs x ∙ ap (λ k. cost (chosen t cs) + cond k x.units 0) has)) (omega (arith, ap cost same, m.within));
      reached = total_push width t cs x ∙ ap (λ k. widths (chosen t cs) + cond k (width x) 0) has ∙ ap (λ n. n + width x) (ap widths same ∙ m.reached);
      most = most;
    }

-- a set has the candidate or not
bound_by : (cs : List Candidate) (x : Candidate) (b v w top : ℕ) → IsMost cs b v → (x.units ≤ b → IsMost cs (b - x.units) w) → v ≤ top → (x.units ≤ b → w + width x ≤ top)
    → (other : ℕ → Bool) → cost (chosen other (cs ++ x ∷ [])) ≤ b → widths (chosen other (cs ++ x ∷ [])) ≤ top
bound_by cs x b v w top m n low high other le = elim (cases_Bool (other x.rowset)) [
  | inl has ↦
      let c = total_push units other cs x ∙ ap (λ k. cost (chosen other cs) + cond k x.units 0) has in
      let s = total_push width other cs x ∙ ap (λ k. widths (chosen other cs) + cond k (width x) 0) has in
      let fits : x.units ≤ b = omega (arith, c, le) in
      omega (arith, c, s, (n fits).most other (omega (arith, c, le)), high fits)
  | inr lacks ↦
      let c = total_push units other cs x ∙ ap (λ k. cost (chosen other cs) + cond k x.units 0) lacks in
      let s = total_push width other cs x ∙ ap (λ k. widths (chosen other cs) + cond k (width x) 0) lacks in
      omega (arith, c, s, m.most other (omega (arith, c, le)), low)
]

pub most_more : (cs : List Candidate) (x : Candidate) (b v w : ℕ) → Absent x.rowset cs → IsMost cs b v → (x.units ≤ b → IsMost cs (b - x.units) w)
    → IsMost (cs ++ x ∷ []) b (cond (nat_le x.units b) (max v (w + width x)) v)
most_more cs x b v w absent m n = one (nat_le x.units b) refl
  where
    one : (k : Bool) → nat_le x.units b ≡ k → IsMost (cs ++ x ∷ []) b (cond k (max v (w + width x)) v)
    one true e =
        let fits = leb-true x.units b e in
        elim (cases_lt v (w + width x)) [
          | inl better ↦ subst (IsMost (cs ++ x ∷ []) b) (let is : w + width x ≡ max v (w + width x) = omega arith in is)
              (most_with cs x b w absent fits (n fits) (bound_by cs x b v w (w + width x) m n (omega arith) (λ f. omega arith)))
          | inr worse ↦ subst (IsMost (cs ++ x ∷ []) b) (let is : v ≡ max v (w + width x) = omega arith in is)
              (most_without cs x b v absent m (bound_by cs x b v w v m n (omega arith) (λ f. worse)))
        ]
    one false e = let dear = leb-false x.units b e in most_without cs x b v absent m (bound_by cs x b v w v m n (omega arith) (λ f. absurd (omega (arith, dear, f))))

-- the next row, and no other
pub row_more : (cs : List Candidate) (x : Candidate) (budget : ℕ) (row next : List ℕ) → Absent x.rowset cs → IsRow cs budget row → IsNext x row next → IsRow (cs ++ x ∷ []) budget next
row_more cs x budget row next absent r n = record {
  count = n.count ∙ r.count;
  sums = λ b le. subst (IsMost (cs ++ x ∷ []) b) (sym (n.sums b (omega (arith, r.count))))
      (most_more cs x b (get_or row b 0) (get_or row (b - x.units) 0) absent (r.sums b le) (λ fits. r.sums (b - x.units) (omega arith)));
}

pub next_from_row : (cs : List Candidate) (x : Candidate) (budget : ℕ) (row next : List ℕ) → Absent x.rowset cs → IsRow cs budget row → IsRow (cs ++ x ∷ []) budget next → IsNext x row next
next_from_row cs x budget row next absent r n = record {
  count = n.count ∙ sym r.count;
  sums = λ b lt. most_once (cs ++ x ∷ []) b (get_or next b 0) (with_more x row b) (n.sums b (omega (arith, r.count)))
      (most_more cs x b (get_or row b 0) (get_or row (b - x.units) 0) absent (r.sums b (omega (arith, r.count))) (λ fits. r.sums (b - x.units) (omega (arith, r.count))));
}

-- the sums are small
pub row_small : (cs : List Candidate) (budget : ℕ) (row : List ℕ) → length cs ≤ 64 → ((x : Candidate) → In x cs → x.greatest < 128) → IsRow cs budget row → All (λ n. n < 2 ^ 31) row
row_small cs budget row few ranks r k d lt =
    let m = r.sums k (omega (arith, r.count)) in
    let le = total_le width m.test 128 cs (λ x i. omega (arith, ranks x i)) in
    let at : get_or row k 0 ≡ get_or row k d = get_same row k lt in
    omega (arith, le, m.reached, at, few)
  where
    get_same : (xs : List ℕ) (i : ℕ) → i < length xs → get_or xs i 0 ≡ get_or xs i d
    get_same [] i l = absurd (omega arith)
    get_same (x ∷ xs) zero l = refl
    get_same (x ∷ xs) (suc i) l = get_same xs i (omega arith)
