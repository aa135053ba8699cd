-- The first fault as a reader meets it: a field with bytes missing, or one that is wrong.
use Rattle.std.proofs.Common.{◌≡◌, ℕ, ◌-◌, ◌<◌, ◌≤◌, Bool, true, false, cond, ltb, List, [], ◌∷◌, ◌++◌, length, take, drop, Result, Ok, Err, refl, sym, ap, subst, arith, inl, inr, length-append, append_assoc}
use Rattle.std.specs.Prelude.{◌⊎◌}
use Rattle.std.specs.List.{concat}
use Rattle.std.specs.Int.{Width, byte_len, from_le_bytes}
use Rattle.std.proofs.lemmas.Bool.{ltb-true, ltb-false}
use Rattle.kt_bytes.specs.Places.{Begins, GoesOn, Stands, IsFault, Delimited}
use Rattle.kt_bytes.specs.Reading.{◌>>=◌, number_at, checked_at, bytes_at}
use Rattle.kt_bytes.proofs.Numbers.{guard_ok}

-- ---- where a reader stopped

-- a step that failed, or the one behind it
pub bind_err : {A B : Type 0} (r : Result A ℕ) (f : A → Result B ℕ) (left : ℕ) → (r >>= f) ≡ Err left → (r ≡ Err left) ⊎ ((x : A) × (r ≡ Ok x) × (f x ≡ Err left))
bind_err (Ok x) f left e = inr (x, refl, e)
bind_err (Err d) f left e = inl cc

-- a test that failed, or the step behind it
pub guard_err : {A : Type 0} (b : Bool) (d left : ℕ) (r : Result A ℕ) → cond b (Err d) r ≡ Err left → ((b ≡ true) × (d ≡ left)) ⊎ ((b ≡ false) × (r ≡ Err left))
guard_err true d left r e = inl (refl, cc)
guard_err false d left r e = inr (refl, e)

pub pass_err : {A : Type 0} (b : Bool) (d left : ℕ) (x : A) → cond b (Ok x) (Err d) ≡ Err left → (b ≡ false) × (d ≡ left)
pass_err true d left x e = absurd cc
pass_err false d left x e = (refl, cc)

pub never_err : {A : Type 0} (x : A) (left : ℕ) → Ok x ≡ Err left → ⊥
never_err x left e = absurd cc

pub number_fails : (w : Width) (bytes : List ℕ) (left : ℕ) → number_at w bytes ≡ Err left → (length bytes < byte_len w) × (left ≡ 0)
number_fails w bytes left e =
    elim (guard_err (ltb (length bytes) (byte_len w)) 0 left (Ok (from_le_bytes w (take (byte_len w) bytes), drop (byte_len w) bytes)) e) [
      | inl short ↦ (ltb-true _ _ short.0, sym short.1)
      | inr read ↦ absurd (never_err _ left read.1)
    ]

pub number_long : (w : Width) (bytes : List ℕ) (x : ℕ × List ℕ) → number_at w bytes ≡ Ok x → byte_len w ≤ length bytes
number_long w bytes x e = let g = guard_ok (ltb (length bytes) (byte_len w)) 0 (from_le_bytes w (take (byte_len w) bytes), drop (byte_len w) bytes) x e in ltb-false _ _ g.0

-- a number with bytes missing, or one that does not pass
pub checked_fails : (w : Width) (passes : ℕ → Bool) (bytes : List ℕ) (left : ℕ) → checked_at w passes bytes ≡ Err left
    → ((length bytes < byte_len w) × (left ≡ 0)) ⊎ ((x : ℕ × List ℕ) × (number_at w bytes ≡ Ok x) × (passes x.0 ≡ false) × (left ≡ length bytes))
checked_fails w passes bytes left e =
    elim (bind_err (number_at w bytes) (λ n. cond (passes n.0) (Ok n) (Err (length bytes))) left e) [
      | inl short ↦ inl (number_fails w bytes left short)
      | inr got ↦ let p = pass_err (passes got.0.0) (length bytes) left got.0 got.2 in inr (got.0, got.1, p.0, sym p.1)
    ]

pub bytes_fail : (n : ℕ) (bytes : List ℕ) (left : ℕ) → bytes_at n bytes ≡ Err left → (length bytes < n) × (left ≡ 0)
bytes_fail n bytes left e =
    elim (guard_err (ltb (length bytes) n) 0 left (Ok (take n bytes, drop n bytes)) e) [
      | inl short ↦ (ltb-true _ _ short.0, sym short.1)
      | inr read ↦ absurd (never_err _ left read.1)
    ]

-- ---- what fault that is

-- the fault of these bytes that is told by how many stand from it on
abbrev pub FaultLeft : (List (List ℕ) → Type 0) → List ℕ → ℕ → Type 0
FaultLeft S bytes left = IsFault S bytes (length bytes - left)

-- what goes on with a field begins with those in front of it
pub begins_of : (S : List (List ℕ) → Type 0) (front : List (List ℕ)) (w : List ℕ) → GoesOn S front w → Begins S front
begins_of S front w on = (w ∷ on.0, subst S (append_assoc front (w ∷ []) on.0) on.1)

-- a field that can follow is longer than what is left
pub is_missing : (S : List (List ℕ) → Type 0) (front : List (List ℕ)) (bytes rest w : List ℕ) (left : ℕ) → Delimited S → bytes ≡ concat front ++ rest → left ≡ 0
    → GoesOn S front w → length rest < length w → ¬ S front → FaultLeft S bytes left
is_missing S front bytes rest w left d parts none on lt not_whole = record {
  front = front;
  rest = rest;
  parts = parts;
  begins = begins_of S front w on;
  ends = λ field goes stands. absurd (omega (arith, d front field w goes on, ap length stands.1, length-append field stands.0));
  more = λ whole. absurd (not_whole whole);
  at = inl (w, on, lt, omega (arith, ap length parts, length-append (concat front) rest));
}

-- what stands there is no field that can follow
pub is_wrong : (S : List (List ℕ) → Type 0) (front : List (List ℕ)) (bytes rest : List ℕ) (left : ℕ) → bytes ≡ concat front ++ rest → left ≡ length rest
    → Begins S front → ((field : List ℕ) → GoesOn S front field → length field ≤ length rest) → ((field : List ℕ) → GoesOn S front field → ¬ Stands field rest) → 0 < length rest → FaultLeft S bytes left
is_wrong S front bytes rest left parts at begins fits ends some = record {
  front = front;
  rest = rest;
  parts = parts;
  begins = begins;
  ends = ends;
  more = λ whole. some;
  at = inr (fits, omega (arith, ap length parts, length-append (concat front) rest));
}

-- the same where one field that can follow is known
pub is_wrong_field : (S : List (List ℕ) → Type 0) (front : List (List ℕ)) (bytes rest w : List ℕ) (left : ℕ) → Delimited S → bytes ≡ concat front ++ rest → left ≡ length rest
    → GoesOn S front w → length w ≤ length rest → ((field : List ℕ) → GoesOn S front field → ¬ Stands field rest) → 0 < length rest → FaultLeft S bytes left
is_wrong_field S front bytes rest w left d parts at on le ends some = is_wrong S front bytes rest left parts at (begins_of S front w on) (λ field goes. omega (arith, d front field w goes on)) ends some
