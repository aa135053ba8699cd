-- The texts of numbers.
use Rattle.std.proofs.Common.{◌≡◌, ℕ, zero, suc, cond, nat_lt, ◌+◌, ◌/◌, ◌%◌, ◌<◌, ◌≤◌, ◌^◌, ℤ, List, [], ◌∷◌, ◌++◌, refl, sym, ap, ◌∙◌, subst, arith, length, take, Bool, true, false, ◌&&◌}
use Rattle.std.proofs.lemmas.Bool.{eqb-true}
use Rattle.std.specs.Prelude.{◌≢◌, pos, negsuc, FitsSigned, Result, Ok, nat_eq, ◌==◌}
use Rattle.std.specs.Int.{w64}
use Rattle.std.specs.List.{AllByRecursion}
use Rattle.std.specs.Cmp.Lexicographic.{pointwise, nat_list_eq_equiv}
use Rattle.std.specs.Fmt.{digit_glyph, digits, digits_onto, decimal, signed_decimal}
use Rattle.std.specs.Str.{IsAscii, IsUtf8}
use Rattle.std.specs.Str.Parse.{ParsesSigned}
use Rattle.std.proofs.Math.Seq.{take-append_seam}
use Rattle.std.proofs.lemmas.Str.{IsUtf8-from_ascii}
use Rattle.std.proofs.lemmas.Fmt.{IsAscii-signed, parse-signed_decimal}
use lib.Signed.{mag}

pub mag_fits : (z : ℤ) → FitsSigned w64 z → mag z < 2 ^ 63
mag_fits z h = h.sfits

-- a number's text is read as that number
pub read_back : {E : Type 0} (n : ℤ) (bs : List ℕ) (r : Result ℤ E) → FitsSigned w64 n → bs ≡ signed_decimal n → ParsesSigned w64 10 bs r → r ≡ Ok n
read_back n bs r fits e h = parse-signed_decimal w64 n bs r fits (mag_fits n fits) e h

pub is_ascii : (n : ℤ) (bs : List ℕ) → FitsSigned w64 n → bs ≡ signed_decimal n → IsUtf8 bs
is_ascii n bs fits e = IsUtf8-from_ascii bs (subst IsAscii (sym e) (IsAscii-signed n (mag_fits n fits)))

pub same_number : {E : Type 0} (m n : ℤ) → ◌≡◌ {A = Result ℤ E} (Ok m) (Ok n) → m ≡ n
same_number m n e = cc

pub differ : (xs ys : List ℕ) → false ≡ pointwise nat_eq xs ys → xs ≡ ys → ⊥
differ xs ys h e = let same = nat_list_eq_equiv.refl ys in let here = h ∙ ap (λ z. pointwise nat_eq z ys) e in cc

pub same_text : (xs ys : List ℕ) → pointwise nat_eq xs ys ≡ true → xs ≡ ys
same_text [] [] h = refl
same_text [] (y ∷ ys) h = cc
same_text (x ∷ xs) [] h = cc
same_text (x ∷ xs) (y ∷ ys) h = let heads : x ≡ y = eqb-true x y (left (nat_eq x y) (pointwise nat_eq xs ys) h) in let tails = same_text xs ys (right (nat_eq x y) (pointwise nat_eq xs ys) h) in cc
  where
    left : (a b : Bool) → (a && b) ≡ true → a ≡ true
    left true b g = refl
    left false b g = g

    right : (a b : Bool) → (a && b) ≡ true → b ≡ true
    right true b g = g
    right false b g = cc

-- a front that is not the word
pub not_front : (text word front : List ℕ) → front ≡ take (length word) text → (front ≡ word → ⊥) → (rest : List ℕ) → text ≡ word ++ rest → ⊥
not_front text word front is differ rest e = differ (is ∙ ap (take (length word)) e ∙ take-append_seam word rest)

-- above the space
abbrev pub IsInk : ℕ → Type 0
IsInk c = 32 < c

glyph_ink : (d : ℕ) → IsInk (digit_glyph false d)
glyph_ink d = elim (nat_lt d 10) as (λ b. 32 < cond b (48 + d) (87 + d)) [ true ↦ omega arith | false ↦ omega arith ]

digits_ink : (k n : ℕ) (acc : List ℕ) → AllByRecursion IsInk acc → AllByRecursion IsInk (digits_onto k 10 false n acc)
digits_ink zero n acc h = h
digits_ink (suc k) n acc h = elim (n / 10 == 0) as (λ b. AllByRecursion IsInk (cond b (digit_glyph false (n % 10) ∷ acc) (digits_onto k 10 false (n / 10) (digit_glyph false (n % 10) ∷ acc)))) [
  | true ↦ (glyph_ink (n % 10), h)
  | false ↦ digits_ink k (n / 10) (digit_glyph false (n % 10) ∷ acc) (glyph_ink (n % 10), h)
]

pub decimal_ink : (n : ℕ) → AllByRecursion IsInk (decimal n)
unfolding digits
decimal_ink n = digits_ink 64 n [] tt

pub signed_ink : (z : ℤ) → AllByRecursion IsInk (signed_decimal z)
signed_ink (pos n) = decimal_ink n
signed_ink (negsuc n) = (omega arith, decimal_ink (suc n))

pub no_byte : (byte : ℕ) → byte ≤ 32 → (xs : List ℕ) → AllByRecursion IsInk xs → AllByRecursion (λ c. c ≢ byte) xs
no_byte byte h [] all = tt
no_byte byte h (x ∷ xs) all = (λ same. omega (arith, all.0), no_byte byte h xs all.1)
