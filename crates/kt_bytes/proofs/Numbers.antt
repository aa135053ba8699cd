-- A field that is read is the field that was written, and what was written is read again.
use Rattle.std.proofs.Common.{◌≡◌, ℕ, suc, ◌+◌, ◌%◌, ◌^◌, ◌<◌, ◌≤◌, Bool, true, false, cond, ltb, List, [], ◌∷◌, ◌++◌, length, get_or, take, drop, Result, Ok, Err, refl, sym, ap, subst, ◌∙◌, append_assoc, arith, inl, inr}
use Rattle.std.specs.Int.{Width, w8, w16, w32, w64, byte_len, from_le_bytes, to_le_bytes}
use Rattle.std.proofs.lemmas.Bool.{cases_lt, ltb-false, le-ltb}
use Rattle.std.proofs.lemmas.List.{take_at, drop_at, take-append-drop, length-append, length-take, get_or-drop, get_or-take, get_or_past}
use Rattle.std.proofs.lemmas.Nat.{le_bytes_2, le_bytes_4, le_bytes_8, from_le_bytes-to_le_bytes_2, from_le_bytes-to_le_bytes_4, from_le_bytes-to_le_bytes_8}
use Rattle.kt_bytes.specs.Reading.{◌>>=◌, number_at, checked_at, bytes_at}

-- one step of a reader that did not fail
pub then_is : {A B : Type 0} (r : Result A ℕ) (f : A → Result B ℕ) (x : A) → r ≡ Ok x → (r >>= f) ≡ f x
then_is r f x e = ap (λ (s : Result _ ℕ). s >>= f) e

-- the value of a step that did not fail
pub bind_ok : {A B : Type 0} (r : Result A ℕ) (f : A → Result B ℕ) (y : B) → (r >>= f) ≡ Ok y → (x : A) × (r ≡ Ok x) × (f x ≡ Ok y)
bind_ok (Ok x) f y e = (x, refl, e)
bind_ok (Err d) f y e = absurd cc

-- the same, for what follows from it
pub with_ok : {A B P : Type 0} (r : Result A ℕ) (f : A → Result B ℕ) (y : B) → (r >>= f) ≡ Ok y → ((x : A) → r ≡ Ok x → f x ≡ Ok y → P) → P
with_ok (Ok x) f y e k = k x refl e
with_ok (Err d) f y e k = absurd cc

-- a test that did not fail
pub passed : {A : Type 0} (b : Bool) (left : ℕ) (r : Result A ℕ) (y : A) → cond b (Err left) r ≡ Ok y → (b ≡ false) × (r ≡ Ok y)
passed true left r y e = absurd cc
passed false left r y e = (refl, e)

pub allowed : {A : Type 0} (b : Bool) (left : ℕ) (r : Result A ℕ) (y : A) → cond b r (Err left) ≡ Ok y → (b ≡ true) × (r ≡ Ok y)
allowed true left r y e = (refl, e)
allowed false left r y e = absurd cc

pub guard_ok : {A : Type 0} (b : Bool) (d : ℕ) (x y : A) → cond b (Err d) (Ok x) ≡ Ok y → (b ≡ false) × (x ≡ y)
guard_ok true d x y e = absurd cc
guard_ok false d x y e = (refl, cc)

pub pass_ok : {A : Type 0} (b : Bool) (d : ℕ) (x y : A) → cond b (Ok x) (Err d) ≡ Ok y → (b ≡ true) × (x ≡ y)
pass_ok true d x y e = (refl, cc)
pass_ok false d x y e = absurd cc

abbrev pub done : {A : Type 0} → A → Result A ℕ
done x = Ok x

pub ok_is : {A : Type 0} (x y : A) → done x ≡ done y → x ≡ y
ok_is x y e = cc

-- a fact of what a reader gave
pub carried : {A : Type 0} (P : A → Type 0) (x y : A) → done x ≡ done y → P x → P y
carried P x y e p = subst P (ok_is x y e) p

-- ---- bytes

abbrev pub IsBytes : List ℕ → Type 0
IsBytes bytes = (i : ℕ) → get_or bytes i 0 < 256

pub IsBytes-drop : (n : ℕ) (bytes : List ℕ) → IsBytes bytes → IsBytes (drop n bytes)
IsBytes-drop n bytes h i = rw get_or-drop (h (n + i))

pub IsBytes-take : (n : ℕ) (bytes : List ℕ) → IsBytes bytes → IsBytes (take n bytes)
IsBytes-take n bytes h i =
    elim (cases_lt i n) [
      | inl lt ↦ rw (get_or-take n bytes i 0 lt) (h i)
      | inr le ↦ rw (get_or_past (take n bytes) i 0 (omega (arith, length-take n bytes))) (omega arith)
    ]

pub IsBytes-rest : (b : ℕ) (bytes : List ℕ) → IsBytes (b ∷ bytes) → IsBytes bytes
IsBytes-rest b bytes h i = h (suc i)

-- what a reader took from the front
pub record Takes (bytes text rest : List ℕ) : Type 0 where
  pub parts : bytes ≡ text ++ rest
  pub rest_fits : IsBytes rest

pub Takes-then : (a x b y c : List ℕ) → Takes a x b → Takes b y c → Takes a (x ++ y) c
Takes-then a x b y c p q = record { parts = p.parts ∙ ap (λ (t : List ℕ). x ++ t) q.parts ∙ sym (append_assoc x y c); rest_fits = q.rest_fits }

-- ---- numbers

pub record IsWide (w : Width) (limit : ℕ) : Type 0 where
  pub len : (n : ℕ) → length (to_le_bytes w n) ≡ byte_len w
  pub again : (n : ℕ) → n < limit → from_le_bytes w (to_le_bytes w n) ≡ n
  pub back : (bytes : List ℕ) → length bytes ≡ byte_len w → IsBytes bytes → to_le_bytes w (from_le_bytes w bytes) ≡ bytes
  pub below : (bytes : List ℕ) → IsBytes bytes → from_le_bytes w bytes < limit

one_byte : (bytes : List ℕ) → length bytes ≡ 1 → IsBytes bytes → to_le_bytes w8 (from_le_bytes w8 bytes) ≡ bytes
one_byte [] len fits = absurd (omega (arith, len))
one_byte (b ∷ []) len fits = let lt : b < 256 = fits 0 in let is : b % 256 ≡ b = omega (arith, lt) in ap (λ (k : ℕ). k ∷ []) is
one_byte (b ∷ c ∷ bytes) len fits = absurd (omega (arith, len))

pub wide8 : IsWide w8 (2 ^ 8)
wide8 = record { len = λ n. refl; again = λ n lt. omega arith; back = one_byte; below = λ bytes fits. omega (arith, fits 0) }

pub wide16 : IsWide w16 (2 ^ 16)
wide16 = record { len = λ n. refl; again = λ n lt. from_le_bytes-to_le_bytes_2 n lt; back = λ bytes len fits. le_bytes_2 bytes _ len fits refl; below = λ bytes fits. omega (arith, fits 0, fits 1) }

pub wide32 : IsWide w32 (2 ^ 32)
wide32 = record { len = λ n. refl; again = λ n lt. from_le_bytes-to_le_bytes_4 n lt; back = λ bytes len fits. le_bytes_4 bytes _ len fits refl; below = λ bytes fits. omega (arith, fits 0, fits 1, fits 2, fits 3) }

pub wide64 : IsWide w64 (2 ^ 64)
wide64 = record {
  len = λ n. refl;
  again = λ n lt. from_le_bytes-to_le_bytes_8 n lt;
  back = λ bytes len fits. le_bytes_8 bytes _ len fits refl;
  below = λ bytes fits. omega (arith, fits 0, fits 1, fits 2, fits 3, fits 4, fits 5, fits 6, fits 7);
}

pub number_takes : (w : Width) (limit : ℕ) (wide : IsWide w limit) (bytes : List ℕ) (x : ℕ × List ℕ) → IsBytes bytes → number_at w bytes ≡ Ok x → Takes bytes (to_le_bytes w x.0) x.1 × (x.0 < limit)
number_takes w limit wide bytes x fits e =
    let g = guard_ok (ltb (length bytes) (byte_len w)) 0 (from_le_bytes w (take (byte_len w) bytes), drop (byte_len w) bytes) x e in
    let long : byte_len w ≤ length bytes = ltb-false _ _ g.0 in
    let front : to_le_bytes w (from_le_bytes w (take (byte_len w) bytes)) ≡ take (byte_len w) bytes = wide.back (take (byte_len w) bytes) (omega (arith, length-take (byte_len w) bytes)) (IsBytes-take (byte_len w) bytes fits) in
    subst (λ (y : ℕ × List ℕ). Takes bytes (to_le_bytes w y.0) y.1 × (y.0 < limit)) g.1
    (record { parts = sym (take-append-drop (byte_len w) bytes) ∙ ap (λ (l : List ℕ). l ++ drop (byte_len w) bytes) (sym front); rest_fits = IsBytes-drop (byte_len w) bytes fits }, wide.below (take (byte_len w) bytes) (IsBytes-take (byte_len w) bytes fits))

pub checked_takes : (w : Width) (limit : ℕ) (wide : IsWide w limit) (passes : ℕ → Bool) (bytes : List ℕ) (x : ℕ × List ℕ) → IsBytes bytes → checked_at w passes bytes ≡ Ok x
    → Takes bytes (to_le_bytes w x.0) x.1 × (passes x.0 ≡ true) × (x.0 < limit)
checked_takes w limit wide passes bytes x fits e =
    let b = bind_ok (number_at w bytes) (λ m. cond (passes m.0) (Ok m) (Err (length bytes))) x e in
    let g = pass_ok (passes b.0.0) ((length bytes)) b.0 x b.2 in
    let t = number_takes w limit wide bytes b.0 fits b.1 in
    subst (λ (y : ℕ × List ℕ). Takes bytes (to_le_bytes w y.0) y.1 × (passes y.0 ≡ true) × (y.0 < limit)) g.1 (t.0, g.0, t.1)

pub bytes_takes : (n : ℕ) (bytes : List ℕ) (x : List ℕ × List ℕ) → IsBytes bytes → bytes_at n bytes ≡ Ok x → Takes bytes x.0 x.1 × (length x.0 ≡ n)
bytes_takes n bytes x fits e =
    let g = guard_ok (ltb (length bytes) n) 0 (take n bytes, drop n bytes) x e in
    let long : n ≤ length bytes = ltb-false _ _ g.0 in
    subst (λ (y : List ℕ × List ℕ). Takes bytes y.0 y.1 × (length y.0 ≡ n)) g.1 (record { parts = sym (take-append-drop n bytes); rest_fits = IsBytes-drop n bytes fits }, omega (arith, length-take n bytes))

pub number_again : (w : Width) (limit : ℕ) (wide : IsWide w limit) (n : ℕ) (rest : List ℕ) → n < limit → number_at w (to_le_bytes w n ++ rest) ≡ Ok (n, rest)
number_again w limit wide n rest lt =
    let len = wide.len n in
    let long : ltb (length (to_le_bytes w n ++ rest)) (byte_len w) ≡ false = le-ltb _ _ (omega (arith, length-append (to_le_bytes w n) rest)) in
    rw (long, take_at (to_le_bytes w n) rest (byte_len w) len, drop_at (to_le_bytes w n) rest (byte_len w) len, wide.again n lt) refl

pub checked_again : (w : Width) (limit : ℕ) (wide : IsWide w limit) (passes : ℕ → Bool) (n : ℕ) (rest : List ℕ) → n < limit → passes n ≡ true → checked_at w passes (to_le_bytes w n ++ rest) ≡ Ok (n, rest)
checked_again w limit wide passes n rest lt passed =
    then_is (number_at w (to_le_bytes w n ++ rest)) (λ m. cond (passes m.0) (Ok m) (Err ((length (to_le_bytes w n ++ rest))))) (n, rest) (number_again w limit wide n rest lt)
    ∙ ap (λ (b : Bool). cond b (Ok (n, rest)) (Err ((length (to_le_bytes w n ++ rest))))) passed

-- a number that was read has passed its test
pub checked_passes : (w : Width) (passes : ℕ → Bool) (bytes : List ℕ) (x : ℕ × List ℕ) → checked_at w passes bytes ≡ Ok x → passes x.0 ≡ true
checked_passes w passes bytes x e =
    let b = bind_ok (number_at w bytes) (λ m. cond (passes m.0) (Ok m) (Err (length bytes))) x e in
    let g = pass_ok (passes b.0.0) ((length bytes)) b.0 x b.2 in
    subst (λ (y : ℕ × List ℕ). passes y.0 ≡ true) g.1 g.0

pub bytes_again : (text rest : List ℕ) → bytes_at (length text) (text ++ rest) ≡ Ok (text, rest)
bytes_again text rest =
    let long : ltb (length (text ++ rest)) (length text) ≡ false = le-ltb _ _ (omega (arith, length-append text rest)) in
    rw (long, take_at text rest (length text) refl, drop_at text rest (length text) refl) refl
