-- A limit on the entries is one on the items.
use Rattle.std.proofs.Common.{◌≡◌, ℕ, zero, suc, ◌<◌, ◌≤◌, true, false, cond, List, [], ◌∷◌, ◌++◌, length, get_or, All, ap, arith}
use Rattle.std.specs.List.{AllByRecursion}
use Rattle.std.proofs.lemmas.List.Elements.{All-from_recursion, recursion_from_All}
use Rattle.kt_dict.specs.Spelling.{has, place, with_entry, entries_after, dictionary}
use Rattle.kt_dict.proofs.Words.{has_place}
use Rattle.kt_dict.proofs.Places.{all_had}

abbrev IsShort : ℕ → List ℕ → Type 0
IsShort most x = length x ≤ most

entry_at : (most : ℕ) (ds : List (List ℕ)) (k : ℕ) → AllByRecursion (IsShort most) ds → k < length ds → length (get_or ds k []) ≤ most
entry_at most [] k all lt = absurd (omega arith)
entry_at most (d ∷ ds) zero all lt = all.0
entry_at most (d ∷ ds) (suc k) all lt = entry_at most ds k all.1 (omega arith)

had_short : (most : ℕ) (ds xs : List (List ℕ)) → AllByRecursion (IsShort most) ds → AllByRecursion (λ x. has ds x ≡ true) xs → AllByRecursion (IsShort most) xs
had_short most ds [] short had = tt
had_short most ds (x ∷ xs) short had =
    let p = has_place ds x had.0 in
    (omega (arith, ap length p.1, entry_at most ds (place ds x) short p.0), had_short most ds xs short had.1)

pub items_short : (most : ℕ) (items : List (List ℕ)) → AllByRecursion (λ x. length x ≤ most) (dictionary items) → All (λ x. length x ≤ most) items
items_short most items short = All-from_recursion (IsShort most) items (had_short most (dictionary items) items short (all_had [] items))

push_short : (most : ℕ) (ds : List (List ℕ)) (x : List ℕ) → AllByRecursion (IsShort most) ds → length x ≤ most → AllByRecursion (IsShort most) (ds ++ x ∷ [])
push_short most [] x all le = (le, tt)
push_short most (d ∷ ds) x all le = (all.0, push_short most ds x all.1 le)

with_short : (most : ℕ) (ds : List (List ℕ)) (x : List ℕ) → AllByRecursion (IsShort most) ds → length x ≤ most → AllByRecursion (IsShort most) (with_entry ds x)
with_short most ds x all le = elim (has ds x) as (λ b. AllByRecursion (IsShort most) (cond b ds (ds ++ x ∷ []))) [ true ↦ all | false ↦ push_short most ds x all le ]

after_short : (most : ℕ) (ds xs : List (List ℕ)) → AllByRecursion (IsShort most) ds → AllByRecursion (IsShort most) xs → AllByRecursion (IsShort most) (entries_after ds xs)
after_short most ds [] all each = all
after_short most ds (x ∷ xs) all each = after_short most (with_entry ds x) xs (with_short most ds x all each.0) each.1

pub entries_short : (most : ℕ) (items : List (List ℕ)) → All (λ x. length x ≤ most) items → AllByRecursion (λ x. length x ≤ most) (dictionary items)
entries_short most items short = after_short most [] items tt (recursion_from_All (IsShort most) items short)
