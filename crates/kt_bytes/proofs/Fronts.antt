-- Lists of fields, taken apart, and what the place of a fault says of the whole.
use Rattle.std.proofs.Common.{◌≡◌, ℕ, ◌<◌, Bool, true, false, List, [], ◌∷◌, ◌++◌, length, take, drop, refl, sym, ap, subst, ◌∙◌, append_assoc, arith, map}
use Rattle.std.specs.List.{concat, flat_map}
use Rattle.std.proofs.lemmas.List.{append-nil, take_at, drop_at}
use Rattle.kt_bytes.specs.Places.{Begins, GoesOn, Stands, IsFault, Delimited}
use Rattle.kt_bytes.proofs.Places.{goes_on}

-- ---- lists of fields

pub concat-map : {X : Type 0} (f : X → List ℕ) (xs : List X) → concat (map f xs) ≡ flat_map f xs
concat-map f [] = refl
concat-map f (x ∷ xs) = ap (λ (l : List ℕ). f x ++ l) (concat-map f xs)

-- the bytes of a list of fields and one more
pub concat-push : (front : List (List ℕ)) (field : List ℕ) → concat (front ++ field ∷ []) ≡ concat front ++ field
concat-push [] field = append-nil field
concat-push (x ∷ front) field = ap (λ (l : List ℕ). x ++ l) (concat-push front field) ∙ sym (append_assoc x (concat front) field)

-- one field more
pub parts_push : (front : List (List ℕ)) (field bytes rest after : List ℕ) → bytes ≡ concat front ++ rest → rest ≡ field ++ after → bytes ≡ concat (front ++ field ∷ []) ++ after
parts_push front field bytes rest after p q =
    p ∙ (ap (λ (t : List ℕ). concat front ++ t) q ∙ (sym (append_assoc (concat front) field after) ∙ ap (λ (t : List ℕ). t ++ after) (sym (concat-push front field))))

pub no_bool : (b : Bool) → b ≡ false → b ≡ true → ⊥
no_bool true f t = absurd cc
no_bool false f t = absurd cc

-- what a function gives for each of some values, taken apart at one of them
pub record MapSplit {X : Type 0} (f : X → List ℕ) (xs : List X) (front : List (List ℕ)) (field : List ℕ) (more : List (List ℕ)) : Type 0 where
  pub before : List X
  pub at : X
  pub after : List X
  pub whole : xs ≡ before ++ at ∷ after
  pub is_front : map f before ≡ front
  pub is_field : f at ≡ field
  pub is_more : map f after ≡ more

pub map_split : {X : Type 0} (f : X → List ℕ) (xs : List X) (front : List (List ℕ)) (field : List ℕ) (more : List (List ℕ)) → map f xs ≡ front ++ field ∷ more → MapSplit f xs front field more
map_split f [] [] field more e = absurd cc
map_split f [] (y ∷ front) field more e = absurd cc
map_split f (x ∷ xs) [] field more e = record { before = []; at = x; after = xs; whole = refl; is_front = refl; is_field = cc; is_more = cc }
map_split f (x ∷ xs) (y ∷ front) field more e =
    let same : map f xs ≡ front ++ field ∷ more = cc in
    let one : f x ≡ y = cc in
    let s = map_split f xs front field more same in
    record {
      before = x ∷ s.before;
      at = s.at;
      after = s.after;
      whole = ap (λ (l : List _). x ∷ l) s.whole;
      is_front = ap (λ (l : List (List ℕ)). f x ∷ l) s.is_front ∙ ap (λ (b : List ℕ). b ∷ front) one;
      is_field = s.is_field;
      is_more = s.is_more;
    }

-- ---- the whole and its first fault

-- no spelling goes on behind another
abbrev pub IsWhole : (List (List ℕ) → Type 0) → Type 0
IsWhole Spelled = (front : List (List ℕ)) (field : List ℕ) → Spelled front → ¬ GoesOn Spelled front field

record Against (S : List (List ℕ) → Type 0) (front f fs : List (List ℕ)) (rest : List ℕ) : Type 0 where
  begins : Begins S (front ++ f)
  ends : (field : List ℕ) → GoesOn S (front ++ f) field → ¬ Stands field rest
  more : S (front ++ f) → 0 < length rest
  spelled : S (front ++ fs)
  same : concat f ++ rest ≡ concat fs

next : {A : Type 0} (front : List A) (a : A) (f : List A) → front ++ a ∷ f ≡ (front ++ a ∷ []) ++ f
next front a f = sym (append_assoc front (a ∷ []) f)

against : (S : List (List ℕ) → Type 0) (front f fs : List (List ℕ)) (rest : List ℕ) → Delimited S → IsWhole S → Against S front f fs rest → ⊥
against S front [] [] rest d w a =
    let some = a.more a.spelled in
    let none = ap (λ (l : List ℕ). length l) a.same in
    omega (arith, some, none)
against S front [] (b ∷ fs) rest d w a =
    a.ends b (goes_on S (front ++ []) b fs (subst (Begins S) (ap (λ (l : List (List ℕ)). l ++ b ∷ fs) (sym (append-nil front))) ([], rw append-nil a.spelled))) (concat fs, a.same)
against S front (x ∷ f) [] rest d w a = w front x (rw append-nil at a.spelled) (goes_on S front x f a.begins)
against S front (x ∷ f) (b ∷ fs) rest d w a =
    let len : length x ≡ length b = d front x b (goes_on S front x f a.begins) (goes_on S front b fs ([], rw append-nil a.spelled)) in
    let whole : x ++ (concat f ++ rest) ≡ b ++ concat fs = sym (append_assoc x (concat f) rest) ∙ a.same in
    let one : x ≡ b = sym (take_at x (concat f ++ rest) (length b) len) ∙ ap (take (length b)) whole ∙ take_at b (concat fs) (length b) refl in
    let behind : concat f ++ rest ≡ concat fs = sym (drop_at x (concat f ++ rest) (length b) len) ∙ ap (drop (length b)) whole ∙ drop_at b (concat fs) (length b) refl in
    let left : front ++ x ∷ f ≡ (front ++ x ∷ []) ++ f = next front x f in
    let right : front ++ b ∷ fs ≡ (front ++ x ∷ []) ++ fs = ap (λ (y : List ℕ). front ++ y ∷ fs) (sym one) ∙ next front x fs in
    against S (front ++ x ∷ []) f fs rest d w (record {
      begins = subst (Begins S) left a.begins;
      ends = λ field on. a.ends field (subst (λ (l : List (List ℕ)). GoesOn S l field) (sym left) on);
      more = λ s. a.more (subst S (sym left) s);
      spelled = subst S right a.spelled;
      same = behind;
    })

-- bytes with a fault are no spelling
pub refused : (S : List (List ℕ) → Type 0) (bytes : List ℕ) (place : ℕ) → Delimited S → IsWhole S → IsFault S bytes place → (fs : List (List ℕ)) → S fs → bytes ≡ concat fs → ⊥
refused S bytes place d w p fs s e =
    against S [] p.front fs p.rest d w (record { begins = p.begins; ends = p.ends; more = p.more; spelled = s; same = sym p.parts ∙ e })
