-- Elements of a list by their place.
use Rattle.std.proofs.Common.{◌≡◌, ◌<◌, ◌≤◌, ℕ, zero, suc, List, [], ◌∷◌, ◌++◌, length, Some, refl, subst, sym, ap, ◌∙◌, arith, slice_get, get_or, map, take, drop, append_assoc}
use Rattle.std.proofs.lemmas.List.{drop_all, take_all, append-nil}
use Rattle.std.proofs.lemmas.Option.{slice_get_within, slice_get-get_or, get_or_from_slice_get}
use Rattle.std.specs.Fork.{ChangesAt, ChangesEach}
use denote.Ref.{MutBor}
use denote.Param.Members.{Shared}

pub some_is : {A : Type 0} (x y : A) → Some x ≡ Some y → x ≡ y
some_is x y e = cc

-- a list has an element at each place within
pub at_place : {A : Type 0} (xs : List A) (j : ℕ) → j < length xs → (x : A) × (slice_get xs j ≡ Some x)
at_place [] j lt = absurd (omega arith)
at_place (x ∷ xs) zero lt = (x, refl)
at_place (x ∷ xs) (suc j) lt = at_place xs j (omega arith)

in_snoc : {A : Type 0} (P : ℕ → A → Type 0) (xs : List A) (x : A) → ((j : ℕ) (p : A) → slice_get xs j ≡ Some p → P j p) → P (length xs) x → (j : ℕ) (p : A) → slice_get (xs ++ x ∷ []) j ≡ Some p → P j p
in_snoc P [] x old here zero p e = subst (P zero) (some_is x p e) here
in_snoc P [] x old here (suc j) p e = absurd (cc)
in_snoc P (y ∷ xs) x old here zero p e = old zero p e
in_snoc P (y ∷ xs) x old here (suc j) p e = in_snoc (λ k q. P (suc k) q) xs x (λ k q. old (suc k) q) here j p e

-- what holds of each element by its place holds with one element more
pub each_snoc : {A : Type 0} (P : ℕ → A → Type 0) (xs new : List A) (x : A) (n : ℕ) → new ≡ xs ++ x ∷ [] → n ≡ length xs → ((j : ℕ) (p : A) → slice_get xs j ≡ Some p → P j p) → P n x → (j : ℕ) (p : A) → slice_get new j ≡ Some p → P j p
each_snoc P xs new x n is len old here j p e = in_snoc P xs x old (subst (λ k. P k x) len here) j p (ap (λ l. slice_get l j) (sym is) ∙ e)

-- what a call at each place left of the element there
pub changed_at : {F T : Type 0} (g : Shared F (ℕ × (MutBor T × Unit {0})) ((Unit {0}) × (MutBor T × Unit {0}))) (f : F) (xs ys : List T) → ChangesEach g f xs ys → length ys ≡ length xs
    → (j : ℕ) (p : T) → slice_get xs j ≡ Some p → (q : T) × (slice_get ys j ≡ Some q) × ChangesAt g f j p q
changed_at g f xs ys each same j p e =
    let below : j < length xs = slice_get_within xs j p e in
    let q = get_or ys j p in
    (q, slice_get-get_or ys j p (omega arith), subst (λ x. ChangesAt g f j x q) (get_or_from_slice_get xs j p p e) (each j p below).1)

-- one element more is put behind
pub moves_one : {A B : Type 0} (f : A → B) (all rest : List A) (x : A) (done new : List B) (whole : List B) → all ≡ x ∷ rest → done ++ map f all ≡ whole → new ≡ done ++ f x ∷ [] → new ++ map f rest ≡ whole
moves_one f all rest x done new whole e is adds = ap (λ l. l ++ map f rest) adds ∙ append_assoc done (f x ∷ []) (map f rest) ∙ sym (ap (λ l. done ++ map f l) e) ∙ is

-- what the front of a list has at a place within, and how long it is
pub get_take : {A : Type 0} (n : ℕ) (xs : List A) (j : ℕ) → j < n → slice_get (take n xs) j ≡ slice_get xs j
get_take zero xs j lt = absurd (omega arith)
get_take (suc n) [] j lt = refl
get_take (suc n) (x ∷ xs) zero lt = refl
get_take (suc n) (x ∷ xs) (suc j) lt = get_take n xs j (omega arith)

pub length_take : {A : Type 0} (n : ℕ) (xs : List A) → n ≤ length xs → length (take n xs) ≡ n
length_take zero [] le = refl
length_take zero (x ∷ xs) le = refl
length_take (suc n) [] le = absurd (omega arith)
length_take (suc n) (x ∷ xs) le = ap suc (length_take n xs (omega arith))

-- what stands in a vector after a slice of all of it was written
pub written_back : {A : Type 0} (old new : List A) (n : ℕ) → length old ≤ n → length new ≡ length old → take n (new ++ drop (length new) old) ≡ new
written_back old new n all same = ap (λ l. take n (new ++ l)) (drop_all (length new) old (omega arith)) ∙ ap (take n) (append-nil new) ∙ take_all n new (omega arith)
