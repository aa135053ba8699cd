-- The parts of a table.
use Rattle.std.proofs.Common.{◌≡◌, ℕ, ◌+◌, ◌<◌, List, [], ◌∷◌, ◌++◌, sym, ◌∙◌, subst, length, get_or, arith, inl, inr, true, false, Bool}
use Rattle.std.proofs.lemmas.List.{get_or_append_left, get_or_push, get_or_default}
use Rattle.std.proofs.lemmas.Bool.{cases_lt}
use Rattle.kt_policy.specs.declared.candidate.Candidate.{Candidate}
use Rattle.kt_policy.specs.Sums.{IsPart, IsTable, in_order, from_bound}

-- the first parts are right
abbrev pub AreParts : List Candidate → ℕ → ℕ → List (List (List ℕ)) → Type 0
AreParts list budget n table = (l : ℕ) (d : Candidate) → l < n → IsPart (from_bound (get_or list l d) (in_order list)) budget (get_or table l [])

pub parts_more : (list : List Candidate) (budget l : ℕ) (d : Candidate) (table : List (List (List ℕ))) → l < length list → AreParts list budget l table → IsPart (from_bound (get_or list l d) (in_order list)) budget (get_or table l []) → AreParts list budget (l + 1) table
parts_more list budget l d table in_list h p k e lt = elim (cases_lt k l) [
  | inl below ↦ h k e below
  | inr from ↦
      let same : l ≡ k = omega arith in
      subst (λ n. IsPart (from_bound (get_or list n e) (in_order list)) budget (get_or table n [])) same
      (subst (λ x. IsPart (from_bound x (in_order list)) budget (get_or table l [])) (get_or_default list l d e in_list) p)
]

pub parts_push : (list : List Candidate) (budget l : ℕ) (d : Candidate) (table : List (List (List ℕ))) (part : List (List ℕ)) → length table ≡ l → l < length list → AreParts list budget l table
    → IsPart (from_bound (get_or list l d) (in_order list)) budget part → AreParts list budget (l + 1) (table ++ part ∷ [])
parts_push list budget l d table part count in_list h p = parts_more list budget l d (table ++ part ∷ []) in_list
    (λ k e lt. subst (IsPart (from_bound (get_or list k e) (in_order list)) budget) (sym (get_or_append_left table (part ∷ []) [] k (omega (arith, count)))) (h k e lt))
    (subst (IsPart (from_bound (get_or list l d) (in_order list)) budget) (sym (get_or_push table part [] l count)) p)

part_at : (list : List Candidate) (budget l : ℕ) (d : Candidate) (table : List (List (List ℕ))) (part : List Candidate) (rows : List (List ℕ)) → from_bound (get_or list l d) (in_order list) ≡ part → get_or table l [] ≡ rows
    → IsPart (from_bound (get_or list l d) (in_order list)) budget (get_or table l []) → IsPart part budget rows
part_at list budget l d table part rows e f p = subst (λ x. IsPart x budget rows) e (subst (IsPart (from_bound (get_or list l d) (in_order list)) budget) f p)

at_part : (list : List Candidate) (budget l : ℕ) (d : Candidate) (table : List (List (List ℕ))) (part : List Candidate) (rows : List (List ℕ)) → part ≡ from_bound (get_or list l d) (in_order list) → rows ≡ get_or table l []
    → IsPart part budget rows → IsPart (from_bound (get_or list l d) (in_order list)) budget (get_or table l [])
at_part list budget l d table part rows e f p = subst (λ x. IsPart x budget (get_or table l [])) e (subst (IsPart part budget) f p)

-- a part that is not right refuses the table
pub table_refused : (list : List Candidate) (budget l : ℕ) (d : Candidate) (table : List (List (List ℕ))) (part : List Candidate) (rows : List (List ℕ)) (r : Bool) → l < length list
    → part ≡ from_bound (get_or list l d) (in_order list) → rows ≡ get_or table l [] → (IsPart part budget rows → r ≡ true) → r ≡ false → IsTable list budget table → false ≡ true
table_refused list budget l d table part rows r lt e f says refused is = sym refused ∙ says (part_at list budget l d table part rows (sym e) (sym f) (is.parts l d lt))

pub table_goes_on : (list : List Candidate) (budget l : ℕ) (d : Candidate) (table : List (List (List ℕ))) (part : List Candidate) (rows : List (List ℕ)) → l < length list → AreParts list budget l table
    → part ≡ from_bound (get_or list l d) (in_order list) → rows ≡ get_or table l [] → IsPart part budget rows → AreParts list budget (l + 1) table
table_goes_on list budget l d table part rows lt h e f p = parts_more list budget l d table lt h (at_part list budget l d table part rows e f p)

pub table_grows : (list : List Candidate) (budget l : ℕ) (d : Candidate) (table new : List (List (List ℕ))) (part : List Candidate) (rows : List (List ℕ)) → l < length list → length table ≡ l → AreParts list budget l table
    → part ≡ from_bound (get_or list l d) (in_order list) → IsPart part budget rows → new ≡ table ++ rows ∷ [] → AreParts list budget (l + 1) new
table_grows list budget l d table new part rows lt count h e p is = subst (AreParts list budget (l + 1)) (sym is) (parts_push list budget l d table rows count lt h (subst (λ x. IsPart x budget rows) e p))
