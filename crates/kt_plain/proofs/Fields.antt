-- A number is its field's bytes, and each field is a number's.
use Rattle.std.proofs.Common.{◌≡◌, ◌⊎◌, ℕ, zero, suc, ◌+◌, ◌*◌, ◌/◌, ◌^◌, ◌<◌, ◌≤◌, List, [], ◌∷◌, ◌++◌, length, take, drop, get_or, ℤ, pos, negsuc, refl, sym, ap, ◌∙◌, subst, arith, rules, inl, inr}
use Rattle.std.specs.Prelude.{FitsSigned, All, Some, slice_get}
use Rattle.std.specs.List.{flat_map}
use Rattle.std.specs.Int.{w8, w16, w32, w64, to_le_bytes, from_le_bytes, cast_unsigned, cast_signed}
use Rattle.std.proofs.Math.Nat.{mul-le-mul_right}
use Rattle.std.proofs.Math.Seq.{take-add}
use Rattle.std.proofs.lemmas.Option.{slice_get-get_or}
use Rattle.std.proofs.lemmas.Int.{to_z-of_z, of_z-to_z}
use Rattle.std.proofs.lemmas.Nat.{le_bytes_2, le_bytes_4, le_bytes_8}
use Rattle.std.proofs.lemmas.List.{drop_at, drop-drop, length-append, length-drop, length-take}
use Rattle.std.proofs.lemmas.List.Elements.{All-nil, All-cons, All-head, All-tail}
use borrow.Author.Gap.{read_sfits}
use Rattle.byteorder.specs.Endian.{little_number}
use Rattle.byteorder.specs.Numbers.{little_number-reads_back, little_from-lt, little_from-take}
use Rattle.kt_bytes.proofs.Numbers.{IsBytes, IsBytes-take, IsBytes-drop}
use Rattle.kt_plain.specs.declared.widths.NumberWidth.{NumberWidth}
use Rattle.kt_plain.specs.declared.widths.NumberWidth.TheVariants.{Bit, One, Two, Four, Eight}
use Rattle.kt_plain.specs.Widths.{field_len, number, value, IsInWidth, AreNumbers, values, numbers_in}

-- the bytes at the front may be a number's field
abbrev pub IsField : NumberWidth → List ℕ → Type 0
IsField Bit bytes = get_or bytes 0 0 < 2
IsField _ bytes = Unit {0}

-- the laws of a width
pub record IsExact (w : NumberWidth) : Type 0 where
  pub some : 0 < field_len w
  pub len : (z : ℤ) → length (number w z) ≡ field_len w
  pub again : (z : ℤ) (rest : List ℕ) → IsInWidth w z → value w (number w z ++ rest) ≡ z
  pub back : (bytes : List ℕ) → field_len w ≤ length bytes → IsBytes bytes → number w (value w bytes) ≡ take (field_len w) bytes
  pub fits : (bytes : List ℕ) → IsField w bytes → IsInWidth w (value w bytes)

bits_of_16 : (z : ℤ) → FitsSigned w16 z → cast_unsigned w16 z < 2 ^ 16
bits_of_16 (pos n) f = omega (arith, f.sfits)
bits_of_16 (negsuc n) f = omega (arith, f.sfits)

bits_of_32 : (z : ℤ) → FitsSigned w32 z → cast_unsigned w32 z < 2 ^ 32
bits_of_32 (pos n) f = omega (arith, f.sfits)
bits_of_32 (negsuc n) f = omega (arith, f.sfits)

bits_of_64 : (z : ℤ) → FitsSigned w64 z → cast_unsigned w64 z < 2 ^ 64
bits_of_64 (pos n) f = omega (arith, f.sfits)
bits_of_64 (negsuc n) f = omega (arith, f.sfits)

bit_again : (z : ℤ) → (z ≡ pos 0) ⊎ (z ≡ pos 1) → pos (cast_unsigned w8 z) ≡ z
bit_again z (inl e) = rw e refl
bit_again z (inr e) = rw e refl

bit_fits : (b : ℕ) → b < 2 → (pos b ≡ pos 0) ⊎ (pos b ≡ pos 1)
bit_fits zero lt = inl refl
bit_fits (suc zero) lt = inr refl
bit_fits (suc (suc b)) lt = absurd (omega arith)

byte_back : (bytes : List ℕ) → 1 ≤ length bytes → get_or bytes 0 0 ∷ [] ≡ take 1 bytes
byte_back [] le = absurd (omega arith)
byte_back (b ∷ bs) le = refl

exact_bit : IsExact Bit
exact_bit = record {
  some = omega arith;
  len = λ z. refl;
  again = λ z rest fits. bit_again z fits;
  back = λ bytes le fits. byte_back bytes le;
  fits = λ bytes field. bit_fits (get_or bytes 0 0) field;
}

exact_one : IsExact One
exact_one = record {
  some = omega arith;
  len = λ z. refl;
  again = λ z rest fits. to_z-of_z w8 z fits;
  back = λ bytes le fits. rw (of_z-to_z w8 (get_or bytes 0 0) (fits 0)) (byte_back bytes le);
  fits = λ bytes field. read_sfits w8 (get_or bytes 0 0);
}

back_two : (bytes : List ℕ) → 2 ≤ length bytes → IsBytes bytes → number Two (value Two bytes) ≡ take 2 bytes
back_two bytes le fits =
    let m : ℕ = little_number 2 bytes in
    let below : m < 2 ^ 16 = little_from-lt 0 2 bytes fits in
    let same : m ≡ from_le_bytes w16 (take 2 bytes) = omega (arith, little_from-take 0 2 2 bytes (omega arith)) in
    ap (to_le_bytes w16) (of_z-to_z w16 m below) ∙ le_bytes_2 (take 2 bytes) m (omega (arith, length-take 2 bytes)) (IsBytes-take 2 bytes fits) same

exact_two : IsExact Two
exact_two = record {
  some = omega arith;
  len = λ z. refl;
  again = λ z rest fits. ap (cast_signed w16) (little_number-reads_back 2 (cast_unsigned w16 z) rest (bits_of_16 z fits)) ∙ to_z-of_z w16 z fits;
  back = back_two;
  fits = λ bytes field. read_sfits w16 (little_number 2 bytes);
}

back_four : (bytes : List ℕ) → 4 ≤ length bytes → IsBytes bytes → number Four (value Four bytes) ≡ take 4 bytes
back_four bytes le fits =
    let m : ℕ = little_number 4 bytes in
    let below : m < 2 ^ 32 = little_from-lt 0 4 bytes fits in
    let same : m ≡ from_le_bytes w32 (take 4 bytes) = omega (arith, little_from-take 0 4 4 bytes (omega arith)) in
    ap (to_le_bytes w32) (of_z-to_z w32 m below) ∙ le_bytes_4 (take 4 bytes) m (omega (arith, length-take 4 bytes)) (IsBytes-take 4 bytes fits) same

exact_four : IsExact Four
exact_four = record {
  some = omega arith;
  len = λ z. refl;
  again = λ z rest fits. ap (cast_signed w32) (little_number-reads_back 4 (cast_unsigned w32 z) rest (bits_of_32 z fits)) ∙ to_z-of_z w32 z fits;
  back = back_four;
  fits = λ bytes field. read_sfits w32 (little_number 4 bytes);
}

back_eight : (bytes : List ℕ) → 8 ≤ length bytes → IsBytes bytes → number Eight (value Eight bytes) ≡ take 8 bytes
back_eight bytes le fits =
    let m : ℕ = little_number 8 bytes in
    let below : m < 2 ^ 64 = little_from-lt 0 8 bytes fits in
    let same : m ≡ from_le_bytes w64 (take 8 bytes) = omega (arith, little_from-take 0 8 8 bytes (omega arith)) in
    ap (to_le_bytes w64) (of_z-to_z w64 m below) ∙ le_bytes_8 (take 8 bytes) m (omega (arith, length-take 8 bytes)) (IsBytes-take 8 bytes fits) same

exact_eight : IsExact Eight
exact_eight = record {
  some = omega arith;
  len = λ z. refl;
  again = λ z rest fits. ap (cast_signed w64) (little_number-reads_back 8 (cast_unsigned w64 z) rest (bits_of_64 z fits)) ∙ to_z-of_z w64 z fits;
  back = back_eight;
  fits = λ bytes field. read_sfits w64 (little_number 8 bytes);
}

pub exact : (w : NumberWidth) → IsExact w
exact Bit = exact_bit
exact One = exact_one
exact Two = exact_two
exact Four = exact_four
exact Eight = exact_eight

pub zero_in_width : (w : NumberWidth) → IsInWidth w (pos 0)
zero_in_width Bit = inl refl
zero_in_width One = search rules
zero_in_width Two = search rules
zero_in_width Four = search rules
zero_in_width Eight = search rules

-- ---- many fields

-- each of n fields may be a number's
abbrev pub AreFields : NumberWidth → ℕ → List ℕ → Type 0
AreFields w n bytes = (i : ℕ) → i < n → IsField w (drop (field_len w * i) bytes)

pub length-values : (w : NumberWidth) (n : ℕ) (bytes : List ℕ) → length (values w n bytes) ≡ n
length-values w zero bytes = refl
length-values w (suc n) bytes = ap suc (length-values w n (drop (field_len w) bytes))

pub get_or-values : (w : NumberWidth) (n : ℕ) (bytes : List ℕ) (k : ℕ) (d : ℤ) → k < n → get_or (values w n bytes) k d ≡ value w (drop (field_len w * k) bytes)
get_or-values w zero bytes k d lt = absurd (omega arith)
get_or-values w (suc n) bytes zero d lt =
    let none : field_len w * 0 ≡ 0 = omega arith in
    rw none refl
get_or-values w (suc n) bytes (suc k) d lt =
    let next : field_len w + field_len w * k ≡ field_len w * suc k = omega arith in
    get_or-values w n (drop (field_len w) bytes) k d (omega arith) ∙ ap (value w) (drop-drop (field_len w * k) (field_len w) bytes ∙ ap (λ (at : ℕ). drop at bytes) next)

pub values-more : (w : NumberWidth) (i : ℕ) (bytes : List ℕ) → values w (i + 1) bytes ≡ values w i bytes ++ value w (drop (field_len w * i) bytes) ∷ []
values-more w zero bytes =
    let none : 0 ≡ field_len w * 0 = omega arith in
    ap (λ (at : ℕ). value w (drop at bytes) ∷ []) none
values-more w (suc i) bytes =
    let e : suc i + 1 ≡ suc (i + 1) = omega arith in
    let next : field_len w + field_len w * i ≡ field_len w * suc i = omega arith in
    ap (λ (k : ℕ). values w k bytes) e
    ∙ ap (λ (zs : List ℤ). value w bytes ∷ zs)
    (values-more w i (drop (field_len w) bytes) ∙ ap (λ (xs : List ℕ). values w i (drop (field_len w) bytes) ++ value w xs ∷ []) (drop-drop (field_len w * i) (field_len w) bytes ∙ ap (λ (at : ℕ). drop at bytes) next))

pub length-spelled : (w : NumberWidth) (zs : List ℤ) → length (flat_map (number w) zs) ≡ length zs * field_len w
length-spelled w [] = omega arith
length-spelled w (z ∷ zs) = omega (arith, length-append (number w z) (flat_map (number w) zs), (exact w).len z, length-spelled w zs)

-- fields are the bytes of their numbers
pub made : (w : NumberWidth) (n : ℕ) (bytes : List ℕ) → n * field_len w ≤ length bytes → IsBytes bytes → AreFields w n bytes
    → (flat_map (number w) (values w n bytes) ≡ take (n * field_len w) bytes) × All (IsInWidth w) (values w n bytes)
made w zero bytes len fits fields =
    let none : zero * field_len w ≡ 0 = omega arith in
    (rw none refl, All-nil (IsInWidth w))
made w (suc n) bytes len fits fields =
    let rest : List ℕ = drop (field_len w) bytes in
    let step : suc n * field_len w ≡ field_len w + n * field_len w = omega arith in
    let rest_len : n * field_len w ≤ length rest = omega (arith, step, length-drop (field_len w) bytes) in
    let first : IsField w bytes =
    let none : field_len w * 0 ≡ 0 = omega arith in
    rw none at (fields 0 (omega arith)) in
    let others : AreFields w n rest = λ i lt.
    let next : field_len w * suc i ≡ field_len w + field_len w * i = omega arith in
    let shifted : drop (field_len w * i) rest ≡ drop (field_len w * suc i) bytes = drop-drop (field_len w * i) (field_len w) bytes ∙ ap (λ (at : ℕ). drop at bytes) (sym next) in
    rw shifted (fields (suc i) (omega arith)) in
    let below = made w n rest rest_len (IsBytes-drop (field_len w) bytes fits) others in
    let one : number w (value w bytes) ≡ take (field_len w) bytes = (exact w).back bytes (omega (arith, step)) fits in (
      ap (λ (xs : List ℕ). xs ++ flat_map (number w) (values w n rest)) one ∙ ap (λ (xs : List ℕ). take (field_len w) bytes ++ xs) below.0
          ∙ sym (take-add (field_len w) (n * field_len w) bytes) ∙ ap (λ (k : ℕ). take k bytes) (sym step),
      All-cons (IsInWidth w) (value w bytes) (values w n rest) ((exact w).fits bytes first) below.1,
    )

-- numbers are read again from their bytes
pub again : (w : NumberWidth) (zs : List ℤ) → All (IsInWidth w) zs → values w (length zs) (flat_map (number w) zs) ≡ zs
again w [] fits = refl
again w (z ∷ zs) fits =
    let rest : List ℕ = flat_map (number w) zs in
    let first : value w (number w z ++ rest) ≡ z = (exact w).again z rest (All-head (IsInWidth w) z zs fits) in
    let others : values w (length zs) (drop (field_len w) (number w z ++ rest)) ≡ zs = rw (drop_at (number w z) rest (field_len w) ((exact w).len z)) (again w zs (All-tail (IsInWidth w) z zs fits)) in
    ap (λ (x : ℤ). x ∷ values w (length zs) (drop (field_len w) (number w z ++ rest))) first ∙ ap (λ (xs : List ℤ). z ∷ xs) others

-- a bit's byte is 0 or 1
pub bits_below : (zs : List ℤ) → All (IsInWidth Bit) zs → (i : ℕ) → get_or (flat_map (number Bit) zs) i 0 < 2
bits_below [] fits i = omega arith
bits_below (z ∷ zs) fits zero = bit_below z (All-head (IsInWidth Bit) z zs fits)
  where
    bit_below : (z : ℤ) → (z ≡ pos 0) ⊎ (z ≡ pos 1) → cast_unsigned w8 z < 2
    bit_below z (inl e) = rw e (omega arith)
    bit_below z (inr e) = rw e (omega arith)
bits_below (z ∷ zs) fits (suc i) = bits_below zs (All-tail (IsInWidth Bit) z zs fits) i

-- how many fields so many numbers have
pub count_fields : (w : NumberWidth) (n : ℕ) → n * field_len w / field_len w ≡ n
count_fields Bit n = omega arith
count_fields One n = omega arith
count_fields Two n = omega arith
count_fields Four n = omega arith
count_fields Eight n = omega arith

-- the numbers whose bytes these are
pub numbers_are : (w : NumberWidth) (zs : List ℤ) (bytes : List ℕ) → AreNumbers w zs bytes → numbers_in w bytes ≡ zs
numbers_are w zs bytes a =
    let len : length bytes ≡ length zs * field_len w = ap (λ (xs : List ℕ). length xs) a.spelled ∙ length-spelled w zs in
    ap (λ (k : ℕ). values w k bytes) (ap (λ (k : ℕ). k / field_len w) len ∙ count_fields w (length zs))
    ∙ ap (values w (length zs)) a.spelled ∙ again w zs a.fit

-- they are those that the bytes are made of
pub numbers_again : (w : NumberWidth) (zs : List ℤ) (bytes : List ℕ) → AreNumbers w zs bytes → AreNumbers w (numbers_in w bytes) bytes
numbers_again w zs bytes a = subst (λ (xs : List ℤ). AreNumbers w xs bytes) (sym (numbers_are w zs bytes a)) a

-- how many bytes numbers have that are held so
pub held_len : (w : NumberWidth) (bytes : List ℕ) (zs : List ℤ) → AreNumbers w (numbers_in w bytes) bytes → numbers_in w bytes ≡ zs
    → (length bytes ≡ length zs * field_len w) × (length bytes / field_len w ≡ length zs)
held_len w bytes zs a e =
    let len : length bytes ≡ length zs * field_len w = ap (λ (xs : List ℕ). length xs) a.spelled ∙ length-spelled w (numbers_in w bytes) ∙ ap (λ (xs : List ℤ). length xs * field_len w) e in
    (len, ap (λ (k : ℕ). k / field_len w) len ∙ count_fields w (length zs))

-- the number at a place, and that its field is there
pub held_at : (w : NumberWidth) (bytes : List ℕ) (zs : List ℤ) (i : ℕ) → AreNumbers w (numbers_in w bytes) bytes → numbers_in w bytes ≡ zs → i < length zs
    → field_len w * i + field_len w ≤ length bytes
held_at w bytes zs i a e lt =
    let len = (held_len w bytes zs a e).0 in
    let step : (i + 1) * field_len w ≤ length zs * field_len w = mul-le-mul_right (field_len w) (omega arith) in
    omega (arith, len, step)

pub held_is : (w : NumberWidth) (bytes : List ℕ) (zs : List ℤ) (i : ℕ) → AreNumbers w (numbers_in w bytes) bytes → numbers_in w bytes ≡ zs → i < length zs
    → slice_get zs i ≡ Some (value w (drop (field_len w * i) bytes))
held_is w bytes zs i a e lt =
    let n = (held_len w bytes zs a e).1 in
    let one : get_or (values w (length bytes / field_len w) bytes) i (pos 0) ≡ value w (drop (field_len w * i) bytes) = get_or-values w (length bytes / field_len w) bytes i (pos 0) (omega (arith, n)) in
    slice_get-get_or zs i (pos 0) lt ∙ ap Some (ap (λ (xs : List ℤ). get_or xs i (pos 0)) (sym e) ∙ one)
