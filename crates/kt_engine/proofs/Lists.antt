-- Lists of flying writes and of records.
use Rattle.std.proofs.Common.{◌≡◌, ℕ, suc, zero, ◌<◌, ◌≤◌, List, [], ◌∷◌, ◌++◌, length, map, Some, None, refl, sym, true, false, Bool, cond, ap, ◌∙◌, subst, arith, not, get_or}
use Rattle.std.specs.Prelude.{slice_get}
use Rattle.std.specs.List.{All, Contains, find, filter}
use Rattle.std.proofs.lemmas.List.Elements.{All-append}

pub all_none : {A : Type 0} (P : A → Type 0) → All P []
all_none P k d lt = absurd (omega arith)

pub all_head : {A : Type 0} (P : A → Type 0) (x : A) (xs : List A) → All P (x ∷ xs) → P x
all_head P x xs h = h 0 x (omega arith)

pub all_tail : {A : Type 0} (P : A → Type 0) (x : A) (xs : List A) → All P (x ∷ xs) → All P xs
all_tail P x xs h k d lt = h (suc k) d (omega arith)

pub all_cons : {A : Type 0} (P : A → Type 0) (x : A) (xs : List A) → P x → All P xs → All P (x ∷ xs)
all_cons P x xs p h zero d lt = p
all_cons P x xs p h (suc k) d lt = h k d (omega arith)

pub all_one : {A : Type 0} (P : A → Type 0) (x : A) → P x → All P (x ∷ [])
all_one P x p = all_cons P x [] p (all_none P)

pub all_more : {A : Type 0} (P : A → Type 0) (xs : List A) (x : A) → All P xs → P x → All P (xs ++ x ∷ [])
all_more P xs x h p = All-append P xs (x ∷ []) h (all_one P x p)

-- what holds of each of two lists in turn holds of each of the first
pub all_front : {A : Type 0} (P : A → Type 0) (xs ys : List A) → All P (xs ++ ys) → All P xs
all_front P [] ys h = all_none P
all_front P (x ∷ xs) ys h = all_cons P x xs (all_head P x (xs ++ ys) h) (all_front P xs ys (all_tail P x (xs ++ ys) h))

pub all_each : {A : Type 0} (P Q : A → Type 0) (xs : List A) → ((x : A) → P x → Q x) → All P xs → All Q xs
all_each P Q xs f h k d lt = f (get_or xs k d) (h k d lt)

-- what holds of each holds of each that passes, with that
pub all_passing : {A : Type 0} (P Q : A → Type 0) (t : A → Bool) (xs : List A) → ((x : A) → t x ≡ true → P x → Q x) → All P xs → All Q (filter t xs)
all_passing P Q t [] f h = all_none Q
all_passing P Q t (x ∷ xs) f h = elim (t x) as (λ b. t x ≡ b → All Q (cond b (x ∷ filter t xs) (filter t xs))) [
  | true ↦ λ e. all_cons Q x (filter t xs) (f x e (all_head P x xs h)) (all_passing P Q t xs f (all_tail P x xs h))
  | false ↦ λ e. all_passing P Q t xs f (all_tail P x xs h)
] refl

-- what holds of each holds of the one that is found
pub all_found : {A : Type 0} (P : A → Type 0) (t : A → Bool) (xs : List A) (x : A) → find t xs ≡ Some x → All P xs → P x
all_found P t [] x h all = absurd (let e : None ≡ Some x = h in cc)
all_found P t (y ∷ ys) x h all = elim (t y) as (λ b. cond b (Some y) (find t ys) ≡ Some x → P x) [
  | true ↦ λ e. let is : y ≡ x = cc in subst P is (all_head P y ys all)
  | false ↦ λ e. all_found P t ys x e (all_tail P y ys all)
] h

-- the one that is found passes
pub found_passes : {A : Type 0} (t : A → Bool) (xs : List A) (x : A) → find t xs ≡ Some x → t x ≡ true
found_passes t [] x h = absurd (let e : None ≡ Some x = h in cc)
found_passes t (y ∷ ys) x h = elim (t y) as (λ b. t y ≡ b → cond b (Some y) (find t ys) ≡ Some x → t x ≡ true) [
  | true ↦ λ p e. let is : y ≡ x = cc in ap t (sym is) ∙ p
  | false ↦ λ p e. found_passes t ys x e
] refl h

not_longer : {A : Type 0} (t : A → Bool) (xs : List A) → length (filter t xs) ≤ length xs
not_longer t [] = omega arith
not_longer t (x ∷ xs) = let ih = not_longer t xs in elim (t x) as (λ b. length (cond b (x ∷ filter t xs) (filter t xs)) ≤ suc (length xs)) [ true ↦ omega arith | false ↦ omega arith ]

-- without the one that is found, they are fewer
pub fewer : {A : Type 0} (t : A → Bool) (xs : List A) (x : A) → find t xs ≡ Some x → length (filter (λ y. not (t y)) xs) < length xs
fewer t [] x h = absurd (let e : None ≡ Some x = h in cc)
fewer t (y ∷ ys) x h = elim (t y) as (λ b. cond b (Some y) (find t ys) ≡ Some x → length (cond (not b) (y ∷ filter (λ z. not (t z)) ys) (filter (λ z. not (t z)) ys)) < suc (length ys)) [
  | true ↦ λ e. let few = not_longer (λ z. not (t z)) ys in omega arith
  | false ↦ λ e. let ih = fewer t ys x e in omega arith
] h

pub map-filter : {A B : Type 0} (f : A → B) (p : B → Bool) (xs : List A) → map f (filter (λ x. p (f x)) xs) ≡ filter p (map f xs)
map-filter f p [] = refl
map-filter f p (x ∷ xs) = elim (p (f x)) as (λ b. map f (cond b (x ∷ filter (λ y. p (f y)) xs) (filter (λ y. p (f y)) xs)) ≡ cond b (f x ∷ filter p (map f xs)) (filter p (map f xs))) [
  | true ↦ ap (λ r. f x ∷ r) (map-filter f p xs)
  | false ↦ map-filter f p xs
]

-- an element of a front
pub get_front : {A : Type 0} (xs ys : List A) (n : ℕ) (x : A) → slice_get xs n ≡ Some x → slice_get (xs ++ ys) n ≡ Some x
get_front [] ys n x h = absurd (let e : None ≡ Some x = h in cc)
get_front (y ∷ xs) ys zero x h = h
get_front (y ∷ xs) ys (suc n) x h = get_front xs ys n x h

pub get_end : {A : Type 0} (xs : List A) (x : A) → slice_get (xs ++ x ∷ []) (length xs) ≡ Some x
get_end [] x = refl
get_end (y ∷ xs) x = get_end xs x

pub get_among : {A : Type 0} (xs ys : List A) (n : ℕ) (x : A) → slice_get (xs ++ ys) n ≡ Some x → n < length xs → Contains xs x
get_among [] ys n x h lt = absurd (omega arith)
get_among (y ∷ xs) ys zero x h lt = (0, omega arith, let e : y ≡ x = cc in e)
get_among (y ∷ xs) ys (suc n) x h lt = let r = get_among xs ys n x h (omega arith) in (suc r.0, let low = r.1 in omega arith, r.2)

-- what holds of each holds of the one at a place
pub all_at : {A : Type 0} (P : A → Type 0) (xs : List A) (n : ℕ) (x : A) → slice_get xs n ≡ Some x → All P xs → P x
all_at P [] n x at h = absurd (let e : None ≡ Some x = at in cc)
all_at P (y ∷ ys) zero x at h = let e : y ≡ x = cc in subst P e (all_head P y ys h)
all_at P (y ∷ ys) (suc n) x at h = all_at P ys n x at (all_tail P y ys h)

-- of two lists of one length the second has an element where the first has
pub beside_it : {A B : Type 0} (xs : List A) (ys : List B) (n : ℕ) (x : A) → length ys ≡ length xs → slice_get xs n ≡ Some x → (y : B) × (slice_get ys n ≡ Some y)
beside_it [] ys n x many at = absurd (let e : None ≡ Some x = at in cc)
beside_it (z ∷ xs) [] n x many at = absurd (let e : 0 ≡ suc (length xs) = many in omega arith)
beside_it (z ∷ xs) (y ∷ ys) zero x many at = (y, refl)
beside_it (z ∷ xs) (y ∷ ys) (suc n) x many at = beside_it xs ys n x (let e : suc (length ys) ≡ suc (length xs) = many in omega arith) at

pub some_one : {A : Type 0} (x y : A) → Some x ≡ Some y → x ≡ y
some_one x y e = cc

-- the one that is found has a place
pub found_place : {A : Type 0} (t : A → Bool) (xs : List A) (x : A) → find t xs ≡ Some x → (n : ℕ) × (slice_get xs n ≡ Some x)
found_place t [] x h = absurd (let e : None ≡ Some x = h in cc)
found_place t (y ∷ ys) x h = elim (t y) as (λ b. cond b (Some y) (find t ys) ≡ Some x → (n : ℕ) × (slice_get (y ∷ ys) n ≡ Some x)) [
  | true ↦ λ e. (0, e)
  | false ↦ λ e. let rest = found_place t ys x e in (suc rest.0, rest.1)
] h
