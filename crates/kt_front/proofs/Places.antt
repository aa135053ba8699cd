-- What the fields of a list are: which of them can follow others, and how long they are.
use Rattle.std.proofs.Common.{◌≡◌, ℕ, zero, suc, ◌+◌, ◌*◌, ◌-◌, ◌^◌, ◌<◌, ◌≤◌, true, false, cond, List, [], ◌∷◌, ◌++◌, length, take, drop, refl, sym, ap, subst, ◌∙◌, append_assoc, arith, length-append, length-drop}
use Rattle.std.specs.Prelude.{replicate, nat_eq, ◌==◌}
use Rattle.std.specs.List.{AllByRecursion, concat}
use Rattle.std.proofs.lemmas.Bool.Decides.{nat_tests}
use Rattle.std.proofs.lemmas.List.{take-append-drop, length-take, length_push, drop_at}
use Rattle.kt_bytes.specs.Places.{Begins, GoesOn, Delimited}
use Rattle.kt_bytes.proofs.Numbers.{IsBytes-take}
use Rattle.kt_front.specs.Spelling.{AreBytes, base, shared, number, cell, cells, cell_fields, fields_from, fields, spelling, SpelledWithin}
use Rattle.kt_front.specs.Walk.{begin_alike}
use Rattle.kt_front.proofs.Shared.{shared_exact, shared_front}
use Rattle.kt_front.proofs.Fields.{length-number, number_one, bytes_both}
use Rattle.kt_front.proofs.Cells.{last_or, AllShort, shared_small, rest_small}

-- ---- the fields are the spelling

cell_spells : (w x tail : List ℕ) (more : List (List ℕ)) → concat more ≡ tail → concat (cell_fields w x ++ more) ≡ cell w x ++ tail
unfolding cell
cell_spells w x tail more e =
    let n : ℕ = shared w x in
    let m : ℕ = length x - n in
    ap (λ (t : List ℕ). number n ++ (number m ++ (drop n x ++ t))) e
    ∙ (sym (append_assoc (number n) (number m) (drop n x ++ tail)) ∙ sym (append_assoc (number n ++ number m) (drop n x) tail))

fields_cells : (i : ℕ) (b : List ℕ) (xs : List (List ℕ)) → concat (fields_from i b xs) ≡ cells i b xs
fields_cells i b [] = refl
fields_cells i b (x ∷ xs) = cell_spells (base i b) x (cells (suc i) x xs) (fields_from (suc i) x xs) (fields_cells (suc i) x xs)

pub fields_spell : (items : List (List ℕ)) → concat (fields items) ≡ spelling items
unfolding spelling
fields_spell items = fields_cells 0 [] items

-- ---- more items

pub fields_append : (i : ℕ) (b : List ℕ) (xs ys : List (List ℕ)) → fields_from i b (xs ++ ys) ≡ fields_from i b xs ++ fields_from (i + length xs) (last_or b xs) ys
unfolding last_or
fields_append i b [] ys = let at : i ≡ i + 0 = omega arith in ap (λ (k : ℕ). fields_from k b ys) at
fields_append i b (x ∷ xs) ys =
    let at : suc i + length xs ≡ i + suc (length xs) = omega arith in
    ap (λ (t : List (List ℕ)). cell_fields (base i b) x ++ t) (fields_append (suc i) x xs ys ∙ ap (λ (k : ℕ). fields_from (suc i) x xs ++ fields_from k (last_or x xs) ys) at)

all_append : {A : Type 0} (P : A → Type 0) (xs ys : List A) → AllByRecursion P xs → AllByRecursion P ys → AllByRecursion P (xs ++ ys)
all_append P [] ys p q = q
all_append P (x ∷ xs) ys p q = (p.0, all_append P xs ys p.1 q)

all_back : {A : Type 0} (P : A → Type 0) (xs ys : List A) → AllByRecursion P (xs ++ ys) → AllByRecursion P ys
all_back P [] ys all = all
all_back P (x ∷ xs) ys all = all_back P xs ys all.1

-- empty items always fit
empties_fit : (most m : ℕ) → AllShort most (replicate m [])
empties_fit most zero = tt
empties_fit most (suc m) = (omega arith, empties_fit most m)

empty_bytes : (m : ℕ) → AllByRecursion AreBytes (replicate m [])
empty_bytes zero = tt
empty_bytes (suc m) = ((λ i. omega arith), empty_bytes m)

length-empties : (m : ℕ) → length {A = List ℕ} (replicate m []) ≡ m
length-empties zero = refl
length-empties (suc m) = ap suc (length-empties m)

-- so many items were read, and m of n are left
pub record Sofar (most n m : ℕ) (xs : List (List ℕ)) : Type 0 where
  pub room : most < 2 ^ 32
  pub total : length xs + m ≡ n
  pub fits : AllShort most xs
  pub bytes : AllByRecursion AreBytes xs

pub sofar_push : (most n m : ℕ) (xs : List (List ℕ)) (x : List ℕ) → Sofar most n (suc m) xs → length x ≤ most → AreBytes x → Sofar most n m (xs ++ x ∷ [])
sofar_push most n m xs x s fits bytes = record { room = s.room; total = omega (arith, s.total, length_push xs x); fits = all_append (λ y. length y ≤ most) xs (x ∷ []) s.fits (fits, tt); bytes = all_append AreBytes xs (x ∷ []) s.bytes (bytes, tt) }

pub begins : (most n m : ℕ) (xs : List (List ℕ)) → Sofar most n m xs → Begins (SpelledWithin most n) (fields xs)
begins most n m xs s = (
  fields_from (0 + length xs) (last_or [] xs) (replicate m []),
  record {
    items = xs ++ replicate m [];
    count = omega (arith, s.total, length-append xs (replicate m []), length-empties m);
    fits = record { each = all_append (λ y. length y ≤ most) xs (replicate m []) s.fits (empties_fit most m) };
    bytes = all_append AreBytes xs (replicate m []) s.bytes (empty_bytes m);
    is = sym (fields_append 0 [] xs (replicate m []));
  },
)

-- ---- an item that shares so much and has so many bytes more

abbrev unlike : List ℕ → ℕ
unlike [] = 0
unlike (x ∷ xs) = cond (nat_eq x 0) 1 0

unlike_apart : (u : List ℕ) (r : ℕ) → begin_alike u (replicate r (unlike u)) ≡ false
unlike_apart [] r = refl
unlike_apart (x ∷ xs) zero = refl
unlike_apart (x ∷ xs) (suc r) = other_one x
  where
    other_one : (x : ℕ) → (x == cond (nat_eq x 0) 1 0) ≡ false
    other_one x = grind (arith, nat_tests)

times_bytes : (k r : ℕ) → k < 256 → AreBytes (replicate r k)
times_bytes k zero lt i = omega arith
times_bytes k (suc r) lt zero = lt
times_bytes k (suc r) lt (suc i) = times_bytes k r lt i

length-times : (r k : ℕ) → length {A = ℕ} (replicate r k) ≡ r
length-times zero k = refl
length-times (suc r) k = ap suc (length-times r k)

unlike_small : (u : List ℕ) → unlike u < 256
unlike_small [] = omega arith
unlike_small (x ∷ xs) = elim (nat_eq x 0) as (λ b. cond b 1 0 < 256) [ true ↦ omega arith | false ↦ omega arith ]

pub record Made (w : List ℕ) (s r : ℕ) (y : List ℕ) : Type 0 where
  pub shares : shared w y ≡ s
  pub left : length y - s ≡ r
  pub bytes : AreBytes y
  pub tail : length (drop s y) ≡ r

pub made : (w : List ℕ) (s r : ℕ) → AreBytes w → s ≤ length w → (y : List ℕ) × Made w s r y
made w s r bytes le =
    let rest : List ℕ = replicate r (unlike (drop s w)) in
    let y : List ℕ = take s w ++ rest in
    let front : length (take s w) ≡ s = omega (arith, length-take s w) in
    let len : length rest ≡ r = length-times r (unlike (drop s w)) in (
      y,
      record {
        shares = shared_exact w s rest le (unlike_apart (drop s w) r);
        left = omega (arith, length-append (take s w) rest);
        bytes = bytes_both (take s w) rest (IsBytes-take s w bytes) (times_bytes (unlike (drop s w)) r (unlike_small (drop s w)));
        tail = ap length (drop_at (take s w) rest s front) ∙ len;
      },
    )

-- ---- what follows

pub record Inside (most i : ℕ) (b : List ℕ) (xs tail ys : List (List ℕ)) : Type 0 where
  pub rest : List (List ℕ)
  pub is : ys ≡ xs ++ rest
  pub tail_is : tail ≡ fields_from (i + length xs) (last_or b xs) rest
  pub fits : AllShort most rest

one_item : (most : ℕ) (w x y : List ℕ) → most < 2 ^ 32 → length x ≤ most → length y ≤ most → number (shared w x) ≡ number (shared w y) → drop (shared w x) x ≡ drop (shared w y) y → y ≡ x
one_item most w x y room p q e r =
    let s : shared w y ≡ shared w x = sym (number_one (shared w x) (shared w y) (shared_small most w x room p) (shared_small most w y room q) e) in
    let front : take (shared w x) y ≡ take (shared w x) x = ap (λ (k : ℕ). take k y) (sym s) ∙ (sym (shared_front w y) ∙ (ap (λ (k : ℕ). take k w) s ∙ shared_front w x)) in
    let back : drop (shared w x) y ≡ drop (shared w x) x = ap (λ (k : ℕ). drop k y) (sym s) ∙ sym r in
    sym (take-append-drop (shared w x) y) ∙ (ap (λ (t : List ℕ). t ++ drop (shared w x) y) front ∙ (ap (λ (t : List ℕ). take (shared w x) x ++ t) back ∙ take-append-drop (shared w x) x))

pub inside : (most i : ℕ) (b : List ℕ) (xs tail ys : List (List ℕ)) → most < 2 ^ 32 → AllShort most xs → AllShort most ys → fields_from i b xs ++ tail ≡ fields_from i b ys → length xs ≤ length ys → Inside most i b xs tail ys
unfolding last_or
inside most i b [] tail ys room p q e le =
    let at : i ≡ i + 0 = omega arith in
    record { rest = ys; is = refl; tail_is = e ∙ ap (λ (k : ℕ). fields_from k b ys) at; fits = q }
inside most i b (x ∷ xs) tail [] room p q e le = absurd (omega arith)
inside most i b (x ∷ xs) tail (y ∷ ys) room p q e le =
    let w : List ℕ = base i b in
    let whole : number (shared w x) ∷ number (length x - shared w x) ∷ drop (shared w x) x ∷ (fields_from (suc i) x xs ++ tail) ≡ number (shared w y) ∷ number (length y - shared w y) ∷ drop (shared w y) y ∷ fields_from (suc i) y ys = e in
    let first : number (shared w x) ≡ number (shared w y) = cc in
    let third : drop (shared w x) x ≡ drop (shared w y) y = cc in
    let rest : fields_from (suc i) x xs ++ tail ≡ fields_from (suc i) y ys = cc in
    let one : y ≡ x = one_item most w x y room p.0 q.0 first third in
    let r = inside most (suc i) x xs tail ys room p.1 q.1 (rest ∙ ap (λ (z : List ℕ). fields_from (suc i) z ys) one) (omega arith) in
    let at : suc i + length xs ≡ i + suc (length xs) = omega arith in
    record {
      rest = r.rest;
      is = ap (λ (z : List ℕ). z ∷ ys) one ∙ ap (λ (t : List (List ℕ)). x ∷ t) r.is;
      tail_is = r.tail_is ∙ ap (λ (k : ℕ). fields_from k (last_or x xs) r.rest) at;
      fits = r.fits;
    }

-- the next item of a list whose fields begin with those of these
pub record Next (most n m : ℕ) (xs tail : List (List ℕ)) : Type 0 where
  pub item : List ℕ
  pub others : List (List ℕ)
  pub some : 0 < m
  pub fits : length item ≤ most
  pub bytes : AreBytes item
  pub tail_is : tail ≡ cell_fields (base (0 + length xs) (last_or [] xs)) item ++ others

pub next : (most n m : ℕ) (xs tail : List (List ℕ)) → Sofar most n m xs → SpelledWithin most n (fields xs ++ tail) → 0 < length tail → Next most n m xs tail
next most n m xs tail s t some = at (inside most 0 [] xs tail t.items s.room s.fits t.fits.each t.is (omega (arith, s.total, t.count)))
  where
    from : (rest : List (List ℕ)) → t.items ≡ xs ++ rest → tail ≡ fields_from (0 + length xs) (last_or [] xs) rest → AllShort most rest → Next most n m xs tail
    from [] is e fits = absurd (omega (arith, ap length e))
    from (y ∷ rest) is e fits = record {
      item = y;
      others = fields_from (suc (0 + length xs)) y rest;
      some = omega (arith, s.total, t.count, ap length is, length-append xs (y ∷ rest));
      fits = fits.0;
      bytes = (all_back AreBytes xs (y ∷ rest) (subst (AllByRecursion AreBytes) is t.bytes)).0;
      tail_is = e;
    }

    at : Inside most 0 [] xs tail t.items → Next most n m xs tail
    at i = from i.rest i.is i.tail_is i.fits

-- ---- how long fields are

record Alike (most : ℕ) (front : List (List ℕ)) (a b : List ℕ) (i j : ℕ) (p q : List ℕ) (xs ys more others : List (List ℕ)) : Type 0 where
  pub room : most < 2 ^ 32
  pub fits : AllShort most xs
  pub suits : AllShort most ys
  pub first : front ++ a ∷ more ≡ fields_from i p xs
  pub second : front ++ b ∷ others ≡ fields_from j q ys

last_len : (most : ℕ) (w v x y g : List ℕ) → most < 2 ^ 32 → length x ≤ most → length y ≤ most → g ≡ number (length x - shared w x) → g ≡ number (length y - shared v y) → length (drop (shared w x) x) ≡ length (drop (shared v y) y)
last_len most w v x y g room p q e f =
    let same : length x - shared w x ≡ length y - shared v y = number_one (length x - shared w x) (length y - shared v y) (rest_small most w x room p) (rest_small most v y room q) (sym e ∙ f) in
    omega (arith, length-drop (shared w x) x, length-drop (shared v y) y)

alike : (most : ℕ) (front : List (List ℕ)) (a b : List ℕ) (i j : ℕ) (p q : List ℕ) (xs ys more others : List (List ℕ)) → Alike most front a b i j p q xs ys more others → length a ≡ length b
alike most front a b i j p q [] ys more others l = absurd (omega (arith, ap length l.first, length-append front (a ∷ more)))
alike most front a b i j p q (x ∷ xs) [] more others l = absurd (omega (arith, ap length l.second, length-append front (b ∷ others)))
alike most [] a b i j p q (x ∷ xs) (y ∷ ys) more others l =
    let e : a ≡ number (shared (base i p) x) = first_is l.first in
    let f : b ≡ number (shared (base j q) y) = first_is l.second in
    omega (arith, ap length e, ap length f, length-number (shared (base i p) x), length-number (shared (base j q) y))
  where
    first_is : {u v : List ℕ} {us vs : List (List ℕ)} → u ∷ us ≡ v ∷ vs → u ≡ v
    first_is e = cc
alike most (f ∷ []) a b i j p q (x ∷ xs) (y ∷ ys) more others l =
    let e : a ≡ number (length x - shared (base i p) x) = second_is l.first in
    let g : b ≡ number (length y - shared (base j q) y) = second_is l.second in
    omega (arith, ap length e, ap length g, length-number (length x - shared (base i p) x), length-number (length y - shared (base j q) y))
  where
    second_is : {u v w z : List ℕ} {us vs : List (List ℕ)} → u ∷ w ∷ us ≡ v ∷ z ∷ vs → w ≡ z
    second_is e = cc
alike most (f ∷ g ∷ []) a b i j p q (x ∷ xs) (y ∷ ys) more others l =
    ap length (third_is l.first) ∙ (last_len most (base i p) (base j q) x y g l.room l.fits.0 l.suits.0 (second_is l.first) (second_is l.second) ∙ sym (ap length (third_is l.second)))
  where
    second_is : {u v w z : List ℕ} {us vs : List (List ℕ)} → u ∷ w ∷ us ≡ v ∷ z ∷ vs → w ≡ z
    second_is e = cc

    third_is : {u v w z s t : List ℕ} {us vs : List (List ℕ)} → u ∷ w ∷ s ∷ us ≡ v ∷ z ∷ t ∷ vs → s ≡ t
    third_is e = cc
alike most (f ∷ g ∷ h ∷ front) a b i j p q (x ∷ xs) (y ∷ ys) more others l =
    alike most front a b (suc i) (suc j) x y xs ys more others (record { room = l.room; fits = l.fits.1; suits = l.suits.1; first = rest_is l.first; second = rest_is l.second })
  where
    rest_is : {u v w z s t : List ℕ} {us vs : List (List ℕ)} → u ∷ w ∷ s ∷ us ≡ v ∷ z ∷ t ∷ vs → us ≡ vs
    rest_is e = cc

pub delimited : (most n : ℕ) → most < 2 ^ 32 → Delimited (SpelledWithin most n)
delimited most n room front a b p q =
    alike most front a b 0 0 [] [] p.1.items q.1.items p.0 q.0 (record {
      room = room;
      fits = p.1.fits.each;
      suits = q.1.fits.each;
      first = sym (append_assoc front (a ∷ []) p.0) ∙ p.1.is;
      second = sym (append_assoc front (b ∷ []) q.0) ∙ q.1.is;
    })

pub length-fields : (i : ℕ) (b : List ℕ) (xs : List (List ℕ)) → length (fields_from i b xs) ≡ 3 * length xs
length-fields i b [] = refl
length-fields i b (x ∷ xs) = omega (arith, length-fields (suc i) x xs)

-- what is whole doesn't go on
pub whole_ends : (most n : ℕ) (front : List (List ℕ)) (w : List ℕ) → GoesOn (SpelledWithin most n) front w → ¬ SpelledWithin most n front
whole_ends most n front w on s =
    absurd (omega (arith, ap length s.is, ap length on.1.is, length-fields 0 [] s.items, length-fields 0 [] on.1.items, s.count, on.1.count, length-append (front ++ w ∷ []) on.0, length_push front w))
