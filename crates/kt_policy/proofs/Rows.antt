-- The rows of one left bound, and the parts of a table.
use Rattle.std.proofs.Common.{◌≡◌, ℕ, zero, suc, ◌+◌, ◌^◌, ◌<◌, ◌≤◌, List, [], ◌∷◌, ◌++◌, refl, true, false, sym, ap, ◌∙◌, subst, length, get_or, take, arith, inl, inr, Bool, replicate}
use Rattle.std.specs.List.{All}
use Rattle.std.proofs.lemmas.List.{take_more, length-take-le, get_or_append_left, get_or_push, get_or-replicate, length-replicate, get_or_read}
use Rattle.std.proofs.lemmas.Bool.{cases_lt}
use Rattle.kt_policy.specs.declared.candidate.Candidate.{Candidate}
use Rattle.kt_policy.specs.Gain.{IsCandidate, AreCandidates}
use Rattle.kt_policy.specs.Sums.{IsMost, IsRow, IsPart}
use Rattle.kt_policy.specs.Steps.{IsNext}
use Rattle.kt_policy.proofs.Sets.{In, Absent, in_take, in_from_all, absent_from, place_in}
use Rattle.kt_policy.proofs.Greatest.{most_of_none, most_once, row_more, next_from_row, row_small}

-- the row of no candidates
pub first_row : (budget : ℕ) (row : List ℕ) → length row ≡ budget + 1 → ((k : ℕ) → k < length row → get_or row k 0 ≡ 0) → IsRow [] budget row
first_row budget row count zeros = record { count = count; sums = λ b le. subst (IsMost [] b) (sym (zeros b (omega (arith, count)))) (most_of_none b) }

pub zeros_in_first : (budget : ℕ) (row : List ℕ) → IsRow [] budget row → (k : ℕ) → k < length row → get_or row k 0 ≡ 0
zeros_in_first budget row r k lt = most_once [] k (get_or row k 0) 0 (r.sums k (omega (arith, r.count))) (most_of_none k)

-- the candidates before one have other numbers
pub absent_before : (part : List Candidate) (k : ℕ) (d : Candidate) → AreCandidates part → k < length part → Absent (get_or part k d).rowset (take k part)
absent_before part k d are lt = absent_from (get_or part k d).rowset (take k part) (λ x i e.
    let p = place_in x (take k part) i in
    let below : p.0 < k = omega (arith, p.1, length-take-le k part (omega arith)) in
    are.different p.0 k d below lt (ap (λ (y : Candidate). y.rowset) (sym (get_take k p.0 below) ∙ p.2 d) ∙ e))
  where
    get_take : (n i : ℕ) → i < n → get_or (take n part) i d ≡ get_or part i d
    get_take n i l = get_at n i part l
      where
        get_at : (n i : ℕ) (xs : List Candidate) → i < n → get_or (take n xs) i d ≡ get_or xs i d
        get_at zero i xs h = absurd (omega arith)
        get_at (suc n) i [] h = refl
        get_at (suc n) zero (x ∷ xs) h = refl
        get_at (suc n) (suc i) (x ∷ xs) h = get_at n i xs (omega arith)

pub ranks_of : (part : List Candidate) → AreCandidates part → (x : Candidate) → In x part → x.greatest < 128
ranks_of part are x i = (in_from_all IsCandidate part are.each x i).ranks

-- so the sums are small
pub sums_small : (part : List Candidate) (budget k : ℕ) (row : List ℕ) → AreCandidates part → k ≤ length part → IsRow (take k part) budget row → All (λ n. n < 2 ^ 31) row
sums_small part budget k row are le r = row_small (take k part) budget row (omega (arith, length-take-le k part le, are.few)) (λ x i. ranks_of part are x (in_take x k part i)) r

-- the row after it, and no other
pub row_follows : (part : List Candidate) (budget k : ℕ) (d : Candidate) (row next : List ℕ) → AreCandidates part → k < length part → IsRow (take k part) budget row → IsNext (get_or part k d) row next → IsRow (take (k + 1) part) budget next
row_follows part budget k d row next are lt r n = subst (λ cs. IsRow cs budget next) (sym (take_more part k d lt)) (row_more (take k part) (get_or part k d) budget row next (absent_before part k d are lt) r n)

pub follows_row : (part : List Candidate) (budget k : ℕ) (d : Candidate) (row next : List ℕ) → AreCandidates part → k < length part → IsRow (take k part) budget row → IsRow (take (k + 1) part) budget next → IsNext (get_or part k d) row next
follows_row part budget k d row next are lt r n = next_from_row (take k part) (get_or part k d) budget row next (absent_before part k d are lt) r (subst (λ cs. IsRow cs budget next) (take_more part k d lt) n)

-- the first rows are right
abbrev pub AreRows : List Candidate → ℕ → ℕ → List (List ℕ) → Type 0
AreRows part budget n rows = (k : ℕ) → k < n → IsRow (take k part) budget (get_or rows k [])

pub rows_more : (part : List Candidate) (budget k : ℕ) (rows : List (List ℕ)) → AreRows part budget k rows → IsRow (take k part) budget (get_or rows k []) → AreRows part budget (k + 1) rows
rows_more part budget k rows h r j lt = elim (cases_lt j k) [
  | inl below ↦ h j below
  | inr from ↦ let e : k ≡ j = omega arith in subst (λ n. IsRow (take n part) budget (get_or rows n [])) e r
]

pub rows_push : (part : List Candidate) (budget k : ℕ) (rows : List (List ℕ)) (row : List ℕ) → length rows ≡ k → AreRows part budget k rows → IsRow (take k part) budget row → AreRows part budget (k + 1) (rows ++ row ∷ [])
rows_push part budget k rows row count h r = rows_more part budget k (rows ++ row ∷ [])
    (λ j lt. subst (IsRow (take j part) budget) (sym (get_or_append_left rows (row ∷ []) [] j (omega (arith, count)))) (h j lt))
    (subst (IsRow (take k part) budget) (sym (get_or_push rows row [] k count)) r)

pub part_is : (part : List Candidate) (budget : ℕ) (rows : List (List ℕ)) → length rows ≡ length part + 1 → AreRows part budget (length part + 1) rows → IsPart part budget rows
part_is part budget rows count h = record { count = count; each = λ k le. h k (omega arith) }

pub same_next : (x : Candidate) (row next old new : List ℕ) → row ≡ old → next ≡ new → IsNext x row next → IsNext x old new
same_next x row next old new e f n = subst (λ r. IsNext x r new) e (subst (IsNext x row) f n)

-- a row that does not follow refuses the part
pub part_refused : (part : List Candidate) (budget k : ℕ) (d : Candidate) (rows : List (List ℕ)) (row next : List ℕ) (r : Bool) → AreCandidates part → k < length part → AreRows part budget (k + 1) rows
    → row ≡ get_or rows k [] → next ≡ get_or rows (k + 1) [] → (IsNext (get_or part k d) row next → r ≡ true) → r ≡ false → IsPart part budget rows → false ≡ true
part_refused part budget k d rows row next r are lt h e f says refused is =
    sym refused ∙ says (same_next (get_or part k d) (get_or rows k []) (get_or rows (k + 1) []) row next (sym e) (sym f)
    (follows_row part budget k d (get_or rows k []) (get_or rows (k + 1) []) are lt (h k (omega arith)) (is.each (k + 1) (omega arith))))

pub part_goes_on : (part : List Candidate) (budget k : ℕ) (d : Candidate) (rows : List (List ℕ)) (row next : List ℕ) → AreCandidates part → k < length part → AreRows part budget (k + 1) rows
    → row ≡ get_or rows k [] → next ≡ get_or rows (k + 1) [] → IsNext (get_or part k d) row next → AreRows part budget (k + 1 + 1) rows
part_goes_on part budget k d rows row next are lt h e f n = rows_more part budget (k + 1) rows h
    (row_follows part budget k d (get_or rows k []) (get_or rows (k + 1) []) are lt (h k (omega arith)) (same_next (get_or part k d) row next (get_or rows k []) (get_or rows (k + 1) []) e f n))

-- a part that is made row by row
pub part_begins : (part : List Candidate) (budget : ℕ) (rows : List (List ℕ)) (row : List ℕ) → rows ≡ row ∷ [] → row ≡ replicate (budget + 1) 0 → AreRows part budget 1 rows
part_begins part budget rows row e zeros = subst (AreRows part budget 1) (sym e) (λ k lt. let zero_is : 0 ≡ k = omega arith in subst (λ n. IsRow (take n part) budget (get_or (row ∷ []) n [])) zero_is
    (subst (IsRow [] budget) (sym zeros) (first_row budget (replicate (budget + 1) 0) (length-replicate {A = ℕ} (budget + 1) 0) (λ j l. get_or-replicate (budget + 1) j 0 0 (omega (arith, length-replicate {A = ℕ} (budget + 1) 0))))))

pub part_grows : (part : List Candidate) (budget k : ℕ) (d : Candidate) (rows new : List (List ℕ)) (row next : List ℕ) → AreCandidates part → k < length part → length rows ≡ k + 1 → AreRows part budget (k + 1) rows
    → row ≡ get_or rows k row → IsNext (get_or part k d) row next → new ≡ rows ++ next ∷ [] → AreRows part budget (k + 1 + 1) new
part_grows part budget k d rows new row next are lt count h e n is = subst (AreRows part budget (k + 1 + 1)) (sym is) (rows_push part budget (k + 1) rows next count h
    (row_follows part budget k d (get_or rows k []) next are lt (h k (omega arith)) (subst (λ r. IsNext (get_or part k d) r next) (get_or_read rows k row (omega (arith, count)) e []) n)))
