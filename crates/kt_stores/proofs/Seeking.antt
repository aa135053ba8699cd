-- Where the first element that passes a test stands.
use Rattle.std.proofs.Common.{◌≡◌, ℕ, zero, suc, ◌+◌, ◌<◌, Bool, true, false, cond, List, [], ◌∷◌, ◌++◌, map, length, Option, Some, None, is_some, refl, sym, ap, ◌∙◌, inl, inr, arith}
use Rattle.std.specs.Prelude.{slice_get, not, nat_lt}
use Rattle.std.specs.List.{position, position_or_len}
use Rattle.std.specs.Option.{option_map}
use Rattle.std.proofs.lemmas.Bool.{cases_lt}
use Rattle.std.proofs.lemmas.Bool.Decides.{nat_tests}
use Rattle.kt_histlaws.specs.Histories.{or_else}
use Rattle.kt_stores.proofs.Beside.{none_some, some_is}

-- the place, if there is one
abbrev pub seek : {X : Type 0} → (X → Bool) → List X → Option ℕ
seek p [] = None
seek p (x ∷ xs) = cond (p x) (Some 0) (option_map (λ n. suc n) (seek p xs))

lt-suc : (n l : ℕ) → nat_lt (1 + n) (suc l) ≡ nat_lt n l
lt-suc n l = grind (arith, nat_tests)

zero_low : (l : ℕ) → nat_lt 0 (suc l) ≡ true
zero_low l = grind (arith, nat_tests)

next : (b : Bool) (n : ℕ) → cond b (Some (1 + n)) None ≡ option_map (λ n. suc n) (cond b (Some n) None)
next true n = let e : 1 + n ≡ suc n = omega arith in ap (λ n. Some n) e
next false n = refl

first_step : (b : Bool) (n l : ℕ) → cond (nat_lt (cond (not b) (1 + n) 0) (suc l)) (Some (cond (not b) (1 + n) 0)) None ≡ cond b (Some 0) (option_map (λ n. suc n) (cond (nat_lt n l) (Some n) None))
first_step true n l = ap (λ b. cond b (Some 0) None) (zero_low l)
first_step false n l = ap (λ b. cond b (Some (1 + n)) None) (lt-suc n l) ∙ next (nat_lt n l) n

pub position_is : {X : Type 0} (p : X → Bool) (xs : List X) → position p xs ≡ seek p xs
position_is p [] = refl
position_is p (x ∷ xs) = first_step (p x) (position_or_len p xs) (length xs) ∙ ap (λ o. cond (p x) (Some 0) (option_map (λ n. suc n) o)) (position_is p xs)

shift_none : (l : ℕ) (b : Option ℕ) → option_map (λ n. suc n) (option_map (λ j. l + j) b) ≡ option_map (λ j. suc l + j) b
shift_none l None = refl
shift_none l (Some j) = let e : suc (l + j) ≡ suc l + j = omega arith in ap (λ n. Some n) e

shift : (l : ℕ) (a b : Option ℕ) → option_map (λ n. suc n) (or_else a (option_map (λ j. l + j) b)) ≡ or_else (option_map (λ n. suc n) a) (option_map (λ j. suc l + j) b)
shift l None b = shift_none l b
shift l (Some i) b = refl

none_before : (o : Option ℕ) → o ≡ option_map (λ j. 0 + j) o
none_before None = refl
none_before (Some j) = let e : j ≡ 0 + j = omega arith in ap (λ n. Some n) e

pub seek-append : {X : Type 0} (p : X → Bool) (xs ys : List X) → seek p (xs ++ ys) ≡ or_else (seek p xs) (option_map (λ j. length xs + j) (seek p ys))
seek-append p [] ys = none_before (seek p ys)
seek-append p (x ∷ xs) ys = ap (λ o. cond (p x) (Some 0) (option_map (λ n. suc n) o)) (seek-append p xs ys) ∙ by (p x)
  where
    by : (b : Bool) → cond b (Some 0) (option_map (λ n. suc n) (or_else (seek p xs) (option_map (λ j. length xs + j) (seek p ys)))) ≡ or_else (cond b (Some 0) (option_map (λ n. suc n) (seek p xs))) (option_map (λ j. suc (length xs) + j) (seek p ys))
    by true = refl
    by false = shift (length xs) (seek p xs) (seek p ys)

pub seek-map : {X Y : Type 0} (p : Y → Bool) (f : X → Y) (xs : List X) → seek p (map f xs) ≡ seek (λ x. p (f x)) xs
seek-map p f [] = refl
seek-map p f (x ∷ xs) = ap (λ o. cond (p (f x)) (Some 0) (option_map (λ n. suc n) o)) (seek-map p f xs)

-- what stands there passes
pub seek_at : {X : Type 0} (p : X → Bool) (xs : List X) (i : ℕ) (y : X) → seek p xs ≡ Some i → slice_get xs i ≡ Some y → p y ≡ true
seek_at p [] i y e at = none_some y at
seek_at p (x ∷ xs) i y e at = by (λ j more here. seek_at p xs j y more here) (p x) (seek p xs) refl refl e
  where
    by : ((j : ℕ) → seek p xs ≡ Some j → slice_get xs j ≡ Some y → p y ≡ true) → (b : Bool) (o : Option ℕ) → p x ≡ b → seek p xs ≡ o → cond b (Some 0) (option_map (λ n. suc n) o) ≡ Some i → p y ≡ true
    by again true o is more e =
        let here : Some x ≡ Some y = ap (slice_get (x ∷ xs)) (some_is 0 i e) ∙ at in
        ap p (sym (some_is x y here)) ∙ is
    by again false None is more e = none_some i e
    by again false (Some j) is more e =
        let here : slice_get xs j ≡ Some y = ap (slice_get (x ∷ xs)) (some_is (suc j) i e) ∙ at in
        again j more here

-- and where nothing passes, nothing that stands anywhere does
pub seek_none : {X : Type 0} (p : X → Bool) (xs : List X) (i : ℕ) (y : X) → seek p xs ≡ None → slice_get xs i ≡ Some y → p y ≡ false
seek_none p [] i y e at = none_some y at
seek_none p (x ∷ xs) i y e at = by (λ i more here. seek_none p xs i y more here) (p x) (seek p xs) refl refl e i at
  where
    by : ((i : ℕ) → seek p xs ≡ None → slice_get xs i ≡ Some y → p y ≡ false) → (b : Bool) (o : Option ℕ) → p x ≡ b → seek p xs ≡ o → cond b (Some 0) (option_map (λ n. suc n) o) ≡ None → (i : ℕ) → slice_get (x ∷ xs) i ≡ Some y → p y ≡ false
    by again true o is more e i at = none_some 0 (sym e)
    by again false (Some j) is more e i at = none_some (suc j) (sym e)
    by again false None is more e zero at = ap p (sym (some_is x y at)) ∙ is
    by again false None is more e (suc i) at = again i more at

pub some_suc : (o : Option ℕ) → is_some (option_map (λ n. suc n) o) ≡ is_some o
some_suc None = refl
some_suc (Some n) = refl

-- ---- a search from the front on

-- each element before place i fails
abbrev pub FailBelow : {X : Type 0} → (X → Bool) → ℕ → List X → Type 0
FailBelow {X} p i xs = (k : ℕ) (x : X) → k < i → slice_get xs k ≡ Some x → p x ≡ false

false_true : {G : Type 0} (b : Bool) → b ≡ true → b ≡ false → G
false_true b t f = cc

pub fail_next : {X : Type 0} (p : X → Bool) (i : ℕ) (xs : List X) (x : X) → FailBelow p i xs → slice_get xs i ≡ Some x → p x ≡ false → FailBelow p (i + 1) xs
fail_next p i xs x below at fails k y low here = elim (cases_lt k i) [
  | inl before ↦ below k y before here
  | inr past ↦
      let same : k ≡ i = omega arith in
      ap p (some_is y x (sym here ∙ ap (slice_get xs) same ∙ at)) ∙ fails
]

pub seek_here : {X : Type 0} (p : X → Bool) (i : ℕ) (xs : List X) (x : X) → FailBelow p i xs → slice_get xs i ≡ Some x → p x ≡ true → seek p xs ≡ Some i
seek_here p i [] x below at is = none_some x at
seek_here p zero (z ∷ xs) x below at is = ap (λ b. cond b (Some 0) (option_map (λ n. suc n) (seek p xs))) (ap p (some_is z x at) ∙ is)
seek_here p (suc i) (z ∷ xs) x below at is =
    ap (λ b. cond b (Some 0) (option_map (λ n. suc n) (seek p xs))) (below 0 z (omega arith) refl)
    ∙ ap (option_map (λ n. suc n)) (seek_here p i xs x (λ k y low here. below (suc k) y (omega arith) here) at is)

pub seek_past : {X : Type 0} (p : X → Bool) (xs : List X) → FailBelow p (length xs) xs → seek p xs ≡ None
seek_past p [] below = refl
seek_past p (z ∷ xs) below =
    ap (λ b. cond b (Some 0) (option_map (λ n. suc n) (seek p xs))) (below 0 z (omega arith) refl)
    ∙ ap (option_map (λ n. suc n)) (seek_past p xs (λ k y low here. below (suc k) y (omega arith) here))

pub seek_low : {X : Type 0} (p : X → Bool) (xs : List X) (i : ℕ) → seek p xs ≡ Some i → i < length xs
seek_low p [] i e = none_some i e
seek_low p (x ∷ xs) i e = by (λ j more. seek_low p xs j more) (p x) (seek p xs) refl e
  where
    by : ((j : ℕ) → seek p xs ≡ Some j → j < length xs) → (b : Bool) (o : Option ℕ) → seek p xs ≡ o → cond b (Some 0) (option_map (λ n. suc n) o) ≡ Some i → i < suc (length xs)
    by again true o more e = let f = some_is 0 i e in omega arith
    by again false None more e = none_some i e
    by again false (Some j) more e = let f = some_is (suc j) i e in let low = again j more in omega arith
