-- All items of a block, one behind the other.
use Rattle.std.proofs.Common.{◌≡◌, ℕ, zero, suc, ◌+◌, ◌-◌, ◌%◌, ◌<◌, ◌≤◌, true, false, cond, List, [], ◌∷◌, ◌++◌, length, get_or, take, refl, sym, ap, ◌∙◌, append_assoc, subst, arith}
use Rattle.std.specs.Prelude.{◌==◌}
use Rattle.std.proofs.lemmas.List.{take_more, length-append}
use Rattle.kt_bytes.specs.Cuts.{last}
use Rattle.kt_front.specs.Spelling.{base, shared}
use Rattle.kt_front.specs.Walking.{before_at}
use Rattle.kt_front.proofs.Shared.{shared-le}

last_at : (xs : List (List ℕ)) (x : List ℕ) → get_or (xs ++ x ∷ []) (length xs) [] ≡ x
last_at [] x = refl
last_at (y ∷ xs) x = last_at xs x

last_push : (xs : List (List ℕ)) (x : List ℕ) → last (xs ++ x ∷ []) ≡ x
last_push xs x =
    let at : length (xs ++ x ∷ []) - 1 ≡ length xs = omega (arith, length-append xs (x ∷ [])) in
    ap (λ (k : ℕ). get_or (xs ++ x ∷ []) k []) at ∙ last_at xs x

-- behind others, the items up to one more
more : (old items : List (List ℕ)) (j : ℕ) → j < length items → old ++ take (j + 1) items ≡ (old ++ take j items) ++ get_or items j [] ∷ []
more old items j lt = ap (λ (t : List (List ℕ)). old ++ t) (take_more items j [] lt) ∙ sym (append_assoc old (take j items) (get_or items j [] ∷ []))

base_len : (j : ℕ) (b : List ℕ) → length (base j b) ≤ length b
base_len j b = elim (j % 16 == 0) as (λ t. length (cond t [] b) ≤ length b) [ true ↦ omega arith | false ↦ omega arith ]

-- what an item shares is the front of the last one
front_of : (old items : List (List ℕ)) (j s : ℕ) → s ≡ shared (base j (before_at j [] items)) (get_or items j []) → j < length items
    → (s ≤ length (last (old ++ take j items))) × (take s (last (old ++ take j items)) ≡ take s (before_at j [] items))
front_of old items zero s is lt =
    let none : s ≡ 0 = is in
    ((omega arith), ap (λ (k : ℕ). take k (last (old ++ take 0 items))) none ∙ sym (ap (λ (k : ℕ). take k []) none))
front_of old items (suc j) s is lt =
    let one : suc j ≡ j + 1 = omega arith in
    let at : last (old ++ take (suc j) items) ≡ get_or items j [] = ap (λ (k : ℕ). last (old ++ take k items)) one ∙ ap last (more old items j (omega arith)) ∙ last_push (old ++ take j items) (get_or items j []) in
    let le : s ≤ length (get_or items j []) = omega (arith, (shared-le (base (suc j) (get_or items j [])) (get_or items (suc j) [])).0, base_len (suc j) (get_or items j [])) in
    (subst (λ (t : List ℕ). s ≤ length t) (sym at) le, ap (take s) at)

pub shares : (old items out : List (List ℕ)) (j s : ℕ) → out ≡ old ++ take j items → s ≡ shared (base j (before_at j [] items)) (get_or items j []) → j < length items → s ≤ length (last out)
shares old items out j s out_is is lt = subst (λ (xs : List (List ℕ)). s ≤ length (last xs)) (sym out_is) (front_of old items j s is lt).0

pub pushed : (old items out new : List (List ℕ)) (j s : ℕ) (rest : List ℕ) → out ≡ old ++ take j items → s ≡ shared (base j (before_at j [] items)) (get_or items j [])
    → j < length items → new ≡ out ++ (take s (last out) ++ rest) ∷ [] → (take s (before_at j [] items) ++ rest ≡ get_or items j []) → new ≡ old ++ take (j + 1) items
pushed old items out new j s rest out_is is lt new_is item =
    new_is ∙ ap (λ (t : List ℕ). out ++ (t ++ rest) ∷ []) (ap (λ (xs : List (List ℕ)). take s (last xs)) out_is ∙ (front_of old items j s is lt).1)
    ∙ ap (λ (t : List ℕ). out ++ t ∷ []) item ∙ ap (λ (xs : List (List ℕ)). xs ++ get_or items j [] ∷ []) out_is ∙ sym (more old items j lt)
