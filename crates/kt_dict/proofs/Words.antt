-- Entries and their places.
use Rattle.std.proofs.Common.{◌≡◌, ℕ, zero, suc, ◌+◌, ◌<◌, ◌≤◌, Bool, true, false, cond, ◌||◌, List, [], ◌∷◌, ◌++◌, length, get_or, take, drop, map, refl, sym, ap, ◌∙◌, append_assoc, arith, inl, inr}
use Rattle.std.specs.Prelude.{nat_eq, ◌&&◌}
use Rattle.std.specs.List.{list_any}
use Rattle.std.specs.Cmp.Lexicographic.{pointwise}
use Rattle.std.specs.Borrow.{Bor}
use Rattle.std.proofs.lemmas.Bool.{eqb-true, cases_lt, ltb-false}
use Rattle.std.proofs.lemmas.Bool.Decides.{nat_tests}
use Rattle.std.proofs.lemmas.List.{append-nil, get_or_append_left, get_or_push, length_push, get_or-take, length-take-le, take-append-drop, map_push, length-append, length-map}
use Rattle.std.proofs.lemmas.List.Recursion.{is_position_or_len}
use Rattle.std.proofs.Common.{Option, Some, None}
use Rattle.std.specs.Prelude.{nat_lt, position}
use Rattle.std.specs.List.{position_or_len}
use Rattle.kt_dict.specs.Spelling.{same, has, place, with_entry, entries_after}

pub same_is : (xs ys : List ℕ) → same xs ys ≡ true → xs ≡ ys
same_is [] [] e = refl
same_is [] (y ∷ ys) e = absurd cc
same_is (x ∷ xs) [] e = absurd cc
same_is (x ∷ xs) (y ∷ ys) e =
    (elim (nat_eq x y) as (λ b. nat_eq x y ≡ b → (b && pointwise nat_eq xs ys) ≡ true → x ∷ xs ≡ y ∷ ys) [
      | true ↦ λ h t. let head : x ≡ y = eqb-true x y h in let tail = same_is xs ys t in cc
      | false ↦ λ h t. absurd cc
    ]) refl e

pub same_self : (xs : List ℕ) → same xs xs ≡ true
same_self [] = refl
same_self (x ∷ xs) =
    let here : nat_eq x x ≡ true = grind (arith, nat_tests) in
    rw here (same_self xs)

pub place-le : (ds : List (List ℕ)) (x : List ℕ) → place ds x ≤ length ds
place-le [] x = omega arith
place-le (d ∷ ds) x = elim (same x d) as (λ b. cond b 0 (suc (place ds x)) ≤ suc (length ds)) [ true ↦ omega arith | false ↦ omega (arith, place-le ds x) ]

-- an item that is there stands at its place
pub has_place : (ds : List (List ℕ)) (x : List ℕ) → has ds x ≡ true → (place ds x < length ds) × (get_or ds (place ds x) [] ≡ x)
has_place [] x e = absurd cc
has_place (d ∷ ds) x e =
    (elim (same x d) as (λ b. same x d ≡ b → (b || has ds x) ≡ true → (cond b 0 (suc (place ds x)) < suc (length ds)) × (get_or (d ∷ ds) (cond b 0 (suc (place ds x))) [] ≡ x)) [
      | true ↦ λ h t. (omega arith, sym (same_is x d h))
      | false ↦ λ h t. let r = has_place ds x t in (omega (arith, r.0), r.1)
    ]) refl e

pub has_not : (ds : List (List ℕ)) (x : List ℕ) → has ds x ≡ false → place ds x ≡ length ds
has_not [] x e = refl
has_not (d ∷ ds) x e =
    (elim (same x d) as (λ b. (b || has ds x) ≡ false → cond b 0 (suc (place ds x)) ≡ suc (length ds)) [
      | true ↦ λ t. absurd cc
      | false ↦ λ t. ap suc (has_not ds x t)
    ]) e

pub has_get : (ds : List (List ℕ)) (i : ℕ) → i < length ds → has ds (get_or ds i []) ≡ true
has_get [] i lt = absurd (omega arith)
has_get (d ∷ ds) zero lt = rw (same_self d) refl
has_get (d ∷ ds) (suc i) lt = elim (same (get_or ds i []) d) as (λ b. (b || has ds (get_or ds i [])) ≡ true) [ true ↦ refl | false ↦ has_get ds i (omega arith) ]

pub place_front : (ds more : List (List ℕ)) (x : List ℕ) → has ds x ≡ true → place (ds ++ more) x ≡ place ds x
place_front [] more x e = absurd cc
place_front (d ∷ ds) more x e =
    (elim (same x d) as (λ b. (b || has ds x) ≡ true → cond b 0 (suc (place (ds ++ more) x)) ≡ cond b 0 (suc (place ds x))) [
      | true ↦ λ t. refl
      | false ↦ λ t. ap suc (place_front ds more x t)
    ]) e

pub place_push : (ds more : List (List ℕ)) (x : List ℕ) → has ds x ≡ false → place (ds ++ x ∷ more) x ≡ length ds
place_push [] more x e = rw (same_self x) refl
place_push (d ∷ ds) more x e =
    (elim (same x d) as (λ b. (b || has ds x) ≡ false → cond b 0 (suc (place (ds ++ x ∷ more) x)) ≡ suc (length ds)) [
      | true ↦ λ t. absurd cc
      | false ↦ λ t. ap suc (place_push ds more x t)
    ]) e

-- each entry stands at its own place, so that no two are the same
pub record Own (ds : List (List ℕ)) : Type 0 where
  pub at : (i : ℕ) → i < length ds → place ds (get_or ds i []) ≡ i

pub own_nil : Own []
own_nil = record { at = λ i lt. absurd (omega arith) }

pub own_push : (ds : List (List ℕ)) (x : List ℕ) → Own ds → has ds x ≡ false → Own (ds ++ x ∷ [])
own_push ds x own e = record {
  at = λ i lt.
      elim (cases_lt i (length ds)) [
        | inl less ↦
            let same_item : get_or (ds ++ x ∷ []) i [] ≡ get_or ds i [] = get_or_append_left ds (x ∷ []) [] i less in
            ap (place (ds ++ x ∷ [])) same_item ∙ (place_front ds (x ∷ []) (get_or ds i []) (has_get ds i less) ∙ own.at i less)
        | inr le ↦
            let here : length ds ≡ i = omega (arith, length_push ds x) in
            ap (place (ds ++ x ∷ [])) (get_or_push ds x [] i here) ∙ (place_push ds [] x e ∙ here)
      ];
}

-- which entries are among the first u
pub has_front : (ds : List (List ℕ)) (u c : ℕ) → c < u → u ≤ length ds → has (take u ds) (get_or ds c []) ≡ true
has_front ds u c lt le =
    let n = length-take-le u ds le in
    rw (sym (get_or-take u ds c [] lt)) (has_get (take u ds) c (omega arith))

pub has_front_not : (ds : List (List ℕ)) (u : ℕ) → Own ds → u < length ds → has (take u ds) (get_or ds u []) ≡ false
has_front_not ds u own lt =
    (elim (has (take u ds) (get_or ds u [])) as (λ b. has (take u ds) (get_or ds u []) ≡ b → b ≡ false) [
      | true ↦ λ e.
          let p = has_place (take u ds) (get_or ds u []) e in
          let q = place_front (take u ds) (drop u ds) (get_or ds u []) e in
          let whole : take u ds ++ drop u ds ≡ ds = take-append-drop u ds in
          let r : place ds (get_or ds u []) ≡ place (take u ds) (get_or ds u []) = ap (λ t. place t (get_or ds u [])) (sym whole) ∙ q in
          absurd (omega (arith, own.at u lt, length-take-le u ds (omega arith)))
      | false ↦ λ e. refl
    ]) refl

own_with : (ds : List (List ℕ)) (x : List ℕ) → Own ds → Own (with_entry ds x)
own_with ds x own =
    (elim (has ds x) as (λ b. has ds x ≡ b → Own (cond b ds (ds ++ x ∷ []))) [
      | true ↦ λ e. own
      | false ↦ λ e. own_push ds x own e
    ]) refl

pub own_after : (ds xs : List (List ℕ)) → Own ds → Own (entries_after ds xs)
own_after ds [] own = own
own_after ds (x ∷ xs) own = own_after (with_entry ds x) xs (own_with ds x own)

-- entries are only added, and at most one for an item
with_grows : (ds : List (List ℕ)) (x : List ℕ) → (more : List (List ℕ)) × (with_entry ds x ≡ ds ++ more) × (length more ≤ 1)
with_grows ds x = elim (has ds x) as (λ b. (more : List (List ℕ)) × (cond b ds (ds ++ x ∷ []) ≡ ds ++ more) × (length more ≤ 1)) [ true ↦ ([], sym (append-nil ds), omega arith) | false ↦ (x ∷ [], refl, omega arith) ]

pub after_grows : (ds xs : List (List ℕ)) → (more : List (List ℕ)) × (entries_after ds xs ≡ ds ++ more) × (length more ≤ length xs)
after_grows ds [] = ([], sym (append-nil ds), omega arith)
after_grows ds (x ∷ xs) =
    let a = with_grows ds x in
    let b = after_grows (with_entry ds x) xs in
    (a.0 ++ b.0, b.1 ∙ (ap (λ t. t ++ b.0) a.1 ∙ append_assoc ds a.0 b.0), omega (arith, a.2, b.2, length-append a.0 b.0))

-- ---- the table's keys

pub any_now : (ks : List (Bor (List ℕ))) (x : List ℕ) → list_any (λ k. pointwise nat_eq x k.now) ks ≡ has (map (λ k. k.now) ks) x
any_now [] x = refl
any_now (k ∷ ks) x = ap (λ b. same x k.now || b) (any_now ks x)

pub keys_now : (ks : List (Bor (List ℕ))) (v : Bor (List ℕ)) → map (λ k. k.now) (cond (list_any (λ k. pointwise nat_eq v.now k.now) ks) ks (ks ++ v ∷ [])) ≡ with_entry (map (λ k. k.now) ks) v.now
keys_now ks v =
    rw (any_now ks v.now) (elim (has (map (λ k. k.now) ks) v.now) as (λ b. map (λ k. k.now) (cond b ks (ks ++ v ∷ [])) ≡ cond b (map (λ k. k.now) ks) (map (λ k. k.now) ks ++ v.now ∷ [])) [ true ↦ refl | false ↦ map_push (λ (k : Bor (List ℕ)). k.now) ks v ])

abbrev pub nows : List (Bor (List ℕ)) → List (List ℕ)
nows ks = map (λ k. k.now) ks

abbrev no_place : Option ℕ
no_place = None

place_now : (x : List ℕ) (ks : List (Bor (List ℕ))) → place (nows ks) x ≡ position_or_len (λ k. pointwise nat_eq x k.now) ks
place_now x ks = is_position_or_len (λ (ks : List (Bor (List ℕ))). place (nows ks) x) (λ k. pointwise nat_eq x k.now) refl (λ k ks. let one : suc (place (nows ks) x) ≡ 1 + place (nows ks) x = omega arith in ap (λ n. cond (same x k.now) 0 n) one) ks

found : (b : Bool) (n at : ℕ) → Some at ≡ cond b (Some n) None → at ≡ n
found true n at e = cc
found false n at e = absurd cc

missed : (b : Bool) (n : ℕ) → no_place ≡ cond b (Some n) None → b ≡ false
missed true n e = absurd cc
missed false n e = refl

pub found_at : (x : List ℕ) (ks : List (Bor (List ℕ))) (at : ℕ) → Some at ≡ position (λ k. pointwise nat_eq x k.now) ks → at ≡ place (nows ks) x
found_at x ks at e = found (nat_lt (position_or_len (λ k. pointwise nat_eq x k.now) ks) (length ks)) (position_or_len (λ k. pointwise nat_eq x k.now) ks) at e ∙ sym (place_now x ks)

pub not_found : (x : List ℕ) (ks : List (Bor (List ℕ))) → no_place ≡ position (λ k. pointwise nat_eq x k.now) ks → place (nows ks) x ≡ length ks
not_found x ks e =
    let past = ltb-false _ _ (missed (nat_lt (position_or_len (λ k. pointwise nat_eq x k.now) ks) (length ks)) (position_or_len (λ k. pointwise nat_eq x k.now) ks) e) in
    omega (arith, place_now x ks, place-le (nows ks) x, length-map ks (λ (k : Bor (List ℕ)). k.now), past)
