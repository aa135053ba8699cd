-- What two byte lists begin with alike: one place on, and at an end.
use Rattle.std.proofs.Common.{◌≡◌, ℕ, zero, suc, ◌+◌, ◌<◌, ◌≤◌, true, false, List, [], ◌∷◌, ◌++◌, length, get_or, take, drop, refl, arith, min, cond}
use Rattle.std.specs.Prelude.{nat_eq}
use Rattle.std.proofs.lemmas.List.Sums.{common_prefix_len-le, common_prefix_len-drop_yes, common_prefix_len-drop_no}
use Rattle.std.proofs.lemmas.List.{length-drop}
use Rattle.std.proofs.lemmas.Bool.Decides.{nat_tests}
use Rattle.std.proofs.lemmas.Bool.{eqb-true}
use Rattle.kt_front.specs.Spelling.{shared}
use Rattle.kt_front.specs.Walk.{begin_alike}

pub shared-le : (xs ys : List ℕ) → (shared xs ys ≤ length xs) × (shared xs ys ≤ length ys)
shared-le xs ys = common_prefix_len-le nat_eq xs ys

same_test : (x y : ℕ) → x ≡ y → nat_eq x y ≡ true
same_test x y e = grind (arith, nat_tests)

other_test : (x y : ℕ) → (x ≡ y → ⊥) → nat_eq x y ≡ false
other_test x y e = grind (arith, nat_tests)

pub shared_more : (xs ys : List ℕ) (i : ℕ) → i < length xs → i < length ys → get_or xs i 0 ≡ get_or ys i 0 → shared xs ys ≡ i + shared (drop i xs) (drop i ys) → shared xs ys ≡ (i + 1) + shared (drop (i + 1) xs) (drop (i + 1) ys)
shared_more xs ys i l m e h = omega (arith, common_prefix_len-drop_yes nat_eq xs ys i 0 0 l m (same_test _ _ e))

pub shared_stops : (xs ys : List ℕ) (i : ℕ) → i < length xs → i < length ys → (get_or xs i 0 ≡ get_or ys i 0 → ⊥) → shared xs ys ≡ i + shared (drop i xs) (drop i ys) → i ≡ shared xs ys
shared_stops xs ys i l m e h = omega (arith, common_prefix_len-drop_no nat_eq xs ys i 0 0 l m (other_test _ _ e))

pub shared_ends : (xs ys : List ℕ) (i : ℕ) → min (length xs) (length ys) ≤ i → shared xs ys ≡ i + shared (drop i xs) (drop i ys) → min (length xs) (length ys) ≡ shared xs ys
shared_ends xs ys i le h = omega (arith, shared-le xs ys, shared-le (drop i xs) (drop i ys), length-drop i xs, length-drop i ys)

-- a front of a list, and then bytes that do not go on as the list does, share that front
pub shared_exact : (with : List ℕ) (n : ℕ) (rest : List ℕ) → n ≤ length with → begin_alike (drop n with) rest ≡ false → shared with (take n with ++ rest) ≡ n
shared_exact [] zero rest le apart = refl
shared_exact (x ∷ xs) zero [] le apart = refl
shared_exact (x ∷ xs) zero (y ∷ ys) le apart = rw apart refl
shared_exact [] (suc n) rest le apart = absurd (omega arith)
shared_exact (x ∷ xs) (suc n) rest le apart =
    let here : nat_eq x x ≡ true = same_test x x refl in
    rw here (omega (arith, shared_exact xs n rest (omega arith) apart))

-- the shared front is the front of both
pub shared_front : (xs ys : List ℕ) → take (shared xs ys) xs ≡ take (shared xs ys) ys
shared_front [] [] = refl
shared_front [] (y ∷ ys) = refl
shared_front (x ∷ xs) [] = refl
shared_front (x ∷ xs) (y ∷ ys) =
    (elim (nat_eq x y) as (λ b. nat_eq x y ≡ b → take (cond b (1 + shared xs ys) 0) (x ∷ xs) ≡ take (cond b (1 + shared xs ys) 0) (y ∷ ys)) [
      | true ↦ λ e. let k : 1 + shared xs ys ≡ suc (shared xs ys) = omega arith in
          let same : x ≡ y = eqb-true x y e in
          rw (k, same, shared_front xs ys) refl
      | false ↦ λ e. refl
    ]) refl

-- and behind it they go apart
pub shared_apart : (xs ys : List ℕ) → begin_alike (drop (shared xs ys) xs) (drop (shared xs ys) ys) ≡ false
shared_apart [] ys = refl
shared_apart (x ∷ xs) [] = refl
shared_apart (x ∷ xs) (y ∷ ys) =
    (elim (nat_eq x y) as (λ b. nat_eq x y ≡ b → begin_alike (drop (cond b (1 + shared xs ys) 0) (x ∷ xs)) (drop (cond b (1 + shared xs ys) 0) (y ∷ ys)) ≡ false) [
      | true ↦ λ e. let k : 1 + shared xs ys ≡ suc (shared xs ys) = omega arith in
          rw k (shared_apart xs ys)
      | false ↦ λ e. e
    ]) refl
