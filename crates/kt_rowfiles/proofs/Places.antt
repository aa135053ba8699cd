-- The row of a key, and the records of a row, among others.
use Rattle.std.proofs.Common.{◌≡◌, ◌≢◌, ◌+◌, ℕ, suc, true, false, cond, List, [], ◌∷◌, ◌++◌, length, Some, None, refl, sym, ap, ◌∙◌, arith}
use Rattle.std.specs.List.{AllByRecursion}
use Rattle.std.specs.Prelude.{◌==◌}
use Rattle.std.specs.Ordering.{eq_by_cmp, is_eq, nat_cmp, ordering_then}
use Rattle.std.specs.Cmp.{nat_cmp_is}
use Rattle.std.specs.Cmp.Lexicographic.{slice_cmp}
use Rattle.std.specs.FinMap.{nat_cmp-IsAntisymmetric, slice_cmp-IsAntisymmetric}
use Rattle.std.specs.declared.cmp.Ordering.{Ordering}
use Rattle.std.specs.declared.cmp.Ordering.TheVariants.{Less, Equal, Greater}
use Rattle.std.proofs.lemmas.Bool.Decides.{nat_tests}
use Rattle.kt_history.specs.declared.changes.Delta.{Delta}
use Rattle.kt_history.specs.Rows.{Row, Rows, key_cmp}
use Rattle.kt_rowfiles.specs.Files.{row_under, records_for}
use Rattle.kt_rowfiles.specs.Reading.{steps_in}
use Rattle.kt_rowfiles.specs.Laws.{AreOf, AreOfOthers}

-- ---- keys

itself : (key : List ℕ) → key_cmp key key ≡ Equal
itself [] = refl
itself (x ∷ xs) = ap (λ o. ordering_then o (slice_cmp nat_cmp xs xs)) (sym (nat_cmp_is x x Equal refl)) ∙ itself xs

tied : (key : List ℕ) → eq_by_cmp key_cmp key key ≡ true
tied key = ap is_eq (itself key)

apart : (q key : List ℕ) → key ≢ q → eq_by_cmp key_cmp q key ≡ false
apart q key ne = by (key_cmp q key) refl
  where
    by : (o : Ordering) → key_cmp q key ≡ o → is_eq o ≡ false
    by Less e = refl
    by Equal e = absurd (ne (sym (slice_cmp-IsAntisymmetric nat_cmp-IsAntisymmetric q key e)))
    by Greater e = refl

pub row_found_at : (q : List ℕ) (n : ℕ) (front : Rows) (row : Row) (behind : Rows) → AllByRecursion (λ (r : List ℕ × Row). r.0 ≢ q) front → row_under q n (front ++ (q, row) ∷ behind) ≡ Some (n + length front, row)
row_found_at q n [] row behind h = ap (λ b. cond b (Some (n, row)) (row_under q (suc n) behind)) (tied q) ∙ (let e : n ≡ n + 0 = omega arith in ap (λ k. Some (k, row)) e)
row_found_at q n (r ∷ front) row behind h =
    ap (λ b. cond b (Some (n, r.1)) (row_under q (suc n) (front ++ (q, row) ∷ behind))) (apart q r.0 h.0)
    ∙ row_found_at q (suc n) front row behind h.1 ∙ (let e : suc n + length front ≡ n + suc (length front) = omega arith in ap (λ k. Some (k, row)) e)

pub row_missed : (q : List ℕ) (n : ℕ) (rows : Rows) → AllByRecursion (λ (r : List ℕ × Row). r.0 ≢ q) rows → row_under q n rows ≡ None
row_missed q n [] h = refl
row_missed q n (r ∷ rows) h = ap (λ b. cond b (Some (n, r.1)) (row_under q (suc n) rows)) (apart q r.0 h.0) ∙ row_missed q (suc n) rows h.1

-- ---- records

same : (a b : ℕ) → a ≡ b → (a == b) ≡ true
same a b e = grind (arith, nat_tests)

other : (a b : ℕ) → a ≢ b → (a == b) ≡ false
other a b ne = grind (arith, nat_tests)

none_for : (n : ℕ) (records : List Delta) → AreOfOthers n records → records_for n records ≡ []
none_for n [] h = refl
none_for n (d ∷ records) h = ap (λ b. cond b ((d.ts, d.change) ∷ records_for n records) (records_for n records)) (other d.ordinal n h.0) ∙ none_for n records h.1

own_for : (n : ℕ) (own behind : List Delta) → AreOf n own → AreOfOthers n behind → records_for n (own ++ behind) ≡ steps_in own
own_for n [] behind h k = none_for n behind k
own_for n (d ∷ own) behind h k = ap (λ b. cond b ((d.ts, d.change) ∷ records_for n (own ++ behind)) (records_for n (own ++ behind))) (same d.ordinal n h.0) ∙ ap (λ steps. (d.ts, d.change) ∷ steps) (own_for n own behind h.1 k)

pub together : (n : ℕ) (front own behind : List Delta) → AreOfOthers n front → AreOf n own → AreOfOthers n behind → records_for n (front ++ own ++ behind) ≡ steps_in own
together n [] own behind f o b = own_for n own behind o b
together n (d ∷ front) own behind f o b = ap (λ t. cond t ((d.ts, d.change) ∷ records_for n (front ++ own ++ behind)) (records_for n (front ++ own ++ behind))) (other d.ordinal n f.0) ∙ together n front own behind f.1 o b
