-- Bytes that stand for themselves in a string literal.
use Rattle.std.proofs.Common.{◌≡◌, ℕ, suc, ◌+◌, List, [], ◌∷◌, ◌++◌, refl, sym, ap, subst, ◌∙◌, arith, length, Bool, true, false, cond, append_assoc}
use Rattle.std.specs.Prelude.{◌||◌, ◌==◌, nat_lt, nat_le, if◌then◌else◌, not}
use Rattle.std.specs.List.{flat_map, before_first, prefix_len, position, position_or_len}
use Rattle.std.specs.Option.{unwrap_or}
use Rattle.std.proofs.lemmas.List.Sums.{prefix_len-le-length}
use Rattle.std.proofs.lemmas.Grind.{flat_map-append}
use Rattle.std.proofs.lemmas.Bool.Decides.{nat_tests}
use Rattle.std.proofs.Common.{Some, None, take}
use Rattle.kt_base.specs.Literals.{is_escaped, string_byte, hex}

-- where a list ends without a pass, its length stands for the first place
pub front_is : (p : ℕ → Bool) (xs : List ℕ) → unwrap_or (position p xs) (length xs) ≡ position_or_len p xs
front_is p xs = by_test (nat_lt (position_or_len p xs) (length xs)) refl
  where
    by_test : (b : Bool) → nat_lt (position_or_len p xs) (length xs) ≡ b → unwrap_or (cond b (Some (position_or_len p xs)) None) (length xs) ≡ position_or_len p xs
    by_test true e = refl
    by_test false e = let h = prefix_len-le-length (λ x. not (p x)) xs in grind (arith, nat_tests)

-- without a test that holds, a byte stands for itself
stands : (a b c d e : Bool) (x y z : List ℕ) → ((a || b) || ((c || d) || e)) ≡ false → (if a || b then x else (if c || d then y else z)) ≡ z
stands true b c d e x y z h = cc
stands false true c d e x y z h = cc
stands false false true d e x y z h = cc
stands false false false true e x y z h = cc
stands false false false false e x y z h = refl

-- the bytes before the first one that is escaped are spelled by themselves
pub plain_front : (bytes : List ℕ) → flat_map string_byte (before_first is_escaped bytes) ≡ before_first is_escaped bytes
plain_front [] = refl
plain_front (b ∷ bytes) = by_test (plain_front bytes) (is_escaped b) refl
  where
    by_test : flat_map string_byte (before_first is_escaped bytes) ≡ before_first is_escaped bytes → (t : Bool) → is_escaped b ≡ t → flat_map string_byte (take (cond (not t) (1 + prefix_len (λ x. not (is_escaped x)) bytes) 0) (b ∷ bytes)) ≡ take (cond (not t) (1 + prefix_len (λ x. not (is_escaped x)) bytes) 0) (b ∷ bytes)
    by_test later true e = refl
    by_test later false e =
        let n : ℕ = prefix_len (λ x. not (is_escaped x)) bytes in
        let one : 1 + n ≡ suc n = omega arith in
        let itself : string_byte b ≡ b ∷ [] = stands (b == 34) (b == 92) (nat_lt b 32) (b == 127) (nat_le 256 b) (92 ∷ b ∷ []) (92 ∷ 120 ∷ hex b) (b ∷ []) e in
        let front : flat_map string_byte (b ∷ take n bytes) ≡ b ∷ take n bytes = ap (λ x. x ++ flat_map string_byte (take n bytes)) itself ∙ ap (λ x. b ∷ x) later in
        subst (λ k. flat_map string_byte (take k (b ∷ bytes)) ≡ take k (b ∷ bytes)) (sym one) front

-- what is printed and the rest's spelling stay the whole
pub plain_step : (out new rest front back whole : List ℕ) → rest ≡ front ++ back → front ≡ before_first is_escaped rest → new ≡ out ++ front → out ++ flat_map string_byte rest ≡ whole → new ++ flat_map string_byte back ≡ whole
plain_step out new rest front back whole cut plain is so =
    let itself : flat_map string_byte front ≡ front = ap (flat_map string_byte) plain ∙ (plain_front rest ∙ sym plain) in
    let spelled : flat_map string_byte rest ≡ front ++ flat_map string_byte back = ap (flat_map string_byte) cut ∙ (flat_map-append string_byte front back ∙ ap (λ x. x ++ flat_map string_byte back) itself) in
    ap (λ x. x ++ flat_map string_byte back) is ∙ (append_assoc out front (flat_map string_byte back) ∙ (ap (λ x. out ++ x) (sym spelled) ∙ so))

pub byte_step : (out new back after whole : List ℕ) (b : ℕ) → back ≡ b ∷ after → new ≡ out ++ string_byte b → out ++ flat_map string_byte back ≡ whole → new ++ flat_map string_byte after ≡ whole
byte_step out new back after whole b cut is so =
    ap (λ x. x ++ flat_map string_byte after) is ∙ (append_assoc out (string_byte b) (flat_map string_byte after) ∙ (ap (λ x. out ++ flat_map string_byte x) (sym cut) ∙ so))
