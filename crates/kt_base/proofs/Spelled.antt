-- What is read between quotes is spelled so, and what is spelled so is read.
use Rattle.std.proofs.Common.{◌≡◌, inl, inr, ℕ, ◌+◌, ◌-◌, ◌*◌, ◌/◌, ◌%◌, ◌<◌, ◌≤◌, List, [], ◌∷◌, ◌++◌, refl, sym, ap, subst, ◌∙◌, arith, length, Bool, true, false, append_assoc, Option, Some, None}
use Rattle.std.specs.Prelude.{◌⊎◌, ◌||◌, ◌&&◌, ◌==◌, nat_lt, nat_le, if◌then◌else◌}
use Rattle.std.specs.List.{flat_map}
use Rattle.std.proofs.lemmas.Bool.Decides.{nat_tests}
use Rattle.kt_base.specs.Literals.{hex, hex_digit, hex_value, is_hex, is_digit, is_escaped, string_byte, with_byte, unquoted, among, slashed, high, low, pairs, AreBytes, Place}
use Rattle.kt_base.proofs.Values.{both, both_true}

-- what stands in a choice
pub chosen : {X : Type 0} (t : Bool) (x y z : X) → (if t then x else y) ≡ z → ((t ≡ true) × (x ≡ z)) ⊎ ((t ≡ false) × (y ≡ z))
chosen true x y z e = inl (refl, e)
chosen false x y z e = inr (refl, e)

pub pick : {X : Type 0} (t : Bool) (x y : X) → t ≡ true → (if t then x else y) ≡ x
pick true x y e = refl
pick false x y e = absurd cc

pub skip : {X : Type 0} (t : Bool) (x y : X) → t ≡ false → (if t then x else y) ≡ y
skip true x y e = absurd cc
skip false x y e = refl

pub with_some : (b : ℕ) (read : Option (List ℕ)) (all : List ℕ) → with_byte b read ≡ Some all → (rest : List ℕ) × (read ≡ Some rest) × (all ≡ b ∷ rest)
with_some b None all e = absurd cc
with_some b (Some rest) all e = (rest, refl, cc)

-- a digit from 0 to 15 is read as its value
digit_back : (n : ℕ) → n < 16 → (is_hex (hex_digit n) ≡ true) × (hex_value (hex_digit n) ≡ n)
digit_back n h = by (nat_lt n 10) refl
  where
    by : (t : Bool) → nat_lt n 10 ≡ t → (is_hex (if t then 48 + n else 87 + n) ≡ true) × (hex_value (if t then 48 + n else 87 + n) ≡ n)
    by true g =
        let small : n < 10 = grind (arith, nat_tests) in
        let a : nat_le 48 (48 + n) ≡ true = grind (arith, nat_tests) in
        let b : nat_le (48 + n) 57 ≡ true = grind (arith, nat_tests) in
        let below : nat_lt (48 + n) 97 ≡ true = grind (arith, nat_tests) in
        let back : 48 + n - 48 ≡ n = omega arith in
        (ap (λ t. t || (nat_le 97 (48 + n) && nat_le (48 + n) 102)) (both _ _ a b), pick (nat_lt (48 + n) 97) (48 + n - 48) (48 + n - 87) below ∙ back)
    by false g =
        let large : 10 ≤ n = grind (arith, nat_tests) in
        let a : nat_le (87 + n) 57 ≡ false = grind (arith, nat_tests) in
        let b : nat_le 97 (87 + n) ≡ true = grind (arith, nat_tests) in
        let d : nat_le (87 + n) 102 ≡ true = grind (arith, nat_tests) in
        let above : nat_lt (87 + n) 97 ≡ false = grind (arith, nat_tests) in
        let back : 87 + n - 87 ≡ n = omega arith in
        (last (is_digit (87 + n)) (both _ _ b d), skip (nat_lt (87 + n) 97) (87 + n - 48) (87 + n - 87) above ∙ back)
      where
        last : (x : Bool) {y : Bool} → y ≡ true → (x || y) ≡ true
        last true e = refl
        last false e = e

-- a pair of digits of a byte is read as the byte
pair_back : (b : ℕ) → b < 256 → ((is_hex (hex_digit (b / 16)) && is_hex (hex_digit (b % 16))) ≡ true) × (16 * hex_value (hex_digit (b / 16)) + hex_value (hex_digit (b % 16)) ≡ b)
pair_back b h =
    let top = digit_back (b / 16) (omega arith) in
    let bottom = digit_back (b % 16) (omega arith) in
    let whole : 16 * (b / 16) + b % 16 ≡ b = omega arith in
    (both _ _ top.0 bottom.0, ap (λ n. 16 * n + hex_value (hex_digit (b % 16))) top.1 ∙ (ap (λ n. 16 * (b / 16) + n) bottom.1 ∙ whole))

-- bytes in hexadecimal digits are read again
pub pairs_again : (bytes : List ℕ) → AreBytes bytes → pairs (flat_map hex bytes ++ 34 ∷ []) ≡ Some bytes
pairs_again [] p = refl
pairs_again (b ∷ bytes) p =
    let back = pair_back b p.0 in
    pick _ (with_byte (16 * hex_value (hex_digit (b / 16)) + hex_value (hex_digit (b % 16))) (pairs (flat_map hex bytes ++ 34 ∷ []))) None back.0 ∙ (ap (λ n. with_byte n (pairs (flat_map hex bytes ++ 34 ∷ []))) back.1 ∙ ap (with_byte b) (pairs_again bytes p.1))

-- a byte of a string is read again, whatever follows it
byte_again : (b : ℕ) (rest : List ℕ) → b < 256 → unquoted among (string_byte b ++ rest) ≡ with_byte b (unquoted among rest)
byte_again b rest h = quoted ((b == 34) || (b == 92)) refl
  where
    plain : ((b == 34) || (b == 92)) ≡ false → (nat_lt b 32 || (b == 127)) ≡ false → unquoted among (b ∷ rest) ≡ with_byte b (unquoted among rest)
    plain e f =
        let quote : (b == 34) ≡ false = left (b == 34) (b == 92) e in
        let slash : (b == 92) ≡ false = right (b == 34) (b == 92) e in
        let byte : nat_le 256 b ≡ false = grind (arith, nat_tests) in
        let escape : is_escaped b ≡ false = ap (λ t. t || ((nat_lt b 32 || (b == 127)) || nat_le 256 b)) e ∙ (ap (λ t. t || nat_le 256 b) f ∙ byte) in
        skip (b == 34) _ _ quote ∙ (skip (b == 92) _ _ slash ∙ skip (is_escaped b) None (with_byte b (unquoted among rest)) escape)
      where
        left : (x y : Bool) → (x || y) ≡ false → x ≡ false
        left true y g = g
        left false y g = refl

        right : (x y : Bool) → (x || y) ≡ false → y ≡ false
        right true y g = absurd cc
        right false y g = g

    control : (t : Bool) → ((b == 34) || (b == 92)) ≡ false → (nat_lt b 32 || (b == 127)) ≡ t → unquoted among ((if t then 92 ∷ 120 ∷ hex b else b ∷ []) ++ rest) ≡ with_byte b (unquoted among rest)
    control false e f = plain e f
    control true e f =
        let top = digit_back (b / 16) (omega arith) in
        let bottom = digit_back (b % 16) (omega arith) in
        let whole : 16 * hex_value (hex_digit (b / 16)) + hex_value (hex_digit (b % 16)) ≡ b = (pair_back b h).1 in
        let small : (nat_lt (16 * hex_value (hex_digit (b / 16)) + hex_value (hex_digit (b % 16))) 32 || ((16 * hex_value (hex_digit (b / 16)) + hex_value (hex_digit (b % 16))) == 127)) ≡ true = ap (λ n. nat_lt n 32 || (n == 127)) whole ∙ f in
        pick (is_hex (hex_digit (b / 16))) _ None top.0 ∙ (pick _ _ None (both _ _ bottom.0 small) ∙ ap (λ n. with_byte n (unquoted among rest)) whole)

    quoted : (t : Bool) → ((b == 34) || (b == 92)) ≡ t → unquoted among ((if t then 92 ∷ b ∷ [] else (if nat_lt b 32 || (b == 127) then 92 ∷ 120 ∷ hex b else b ∷ [])) ++ rest) ≡ with_byte b (unquoted among rest)
    quoted true e = pick ((b == 34) || (b == 92)) (with_byte b (unquoted among rest)) _ e
    quoted false e = control (nat_lt b 32 || (b == 127)) e refl

pub string_again : (bytes : List ℕ) → AreBytes bytes → unquoted among (flat_map string_byte bytes ++ 34 ∷ []) ≡ Some bytes
string_again [] p = refl
string_again (b ∷ bytes) p =
    ap (unquoted among) (append_assoc (string_byte b) (flat_map string_byte bytes) (34 ∷ [])) ∙ (byte_again b (flat_map string_byte bytes ++ 34 ∷ []) p.0 ∙ ap (with_byte b) (string_again bytes p.1))

-- what stands before a place, of the byte that is being read
abbrev front_of : Place → List ℕ
front_of among = []
front_of slashed = 92 ∷ []
front_of high = 92 ∷ 120 ∷ []
front_of (low digit) = 92 ∷ 120 ∷ hex_digit digit ∷ []

abbrev IsPlace : Place → Type 0
IsPlace (low digit) = digit < 16
IsPlace place = Unit {0}

digit_is : (b : ℕ) → is_hex b ≡ true → (hex_value b < 16) × (hex_digit (hex_value b) ≡ b)
digit_is b h = by (nat_lt b 97) refl
  where
    either : (x y : Bool) → (x || y) ≡ true → (x ≡ true) ⊎ (y ≡ true)
    either true y e = inl refl
    either false y e = inr e

    by : (t : Bool) → nat_lt b 97 ≡ t → ((if t then b - 48 else b - 87) < 16) × (hex_digit (if t then b - 48 else b - 87) ≡ b)
    by true g =
        let below : b < 97 = grind (arith, nat_tests) in
        elim (either (is_digit b) (nat_le 97 b && nat_le b 102) h) [
          | inl d ↦
              let two = both_true (nat_le 48 b) (nat_le b 57) d in
              let a = two.0 in
              let z = two.1 in
              let low_end : 48 ≤ b = grind (arith, nat_tests) in
              let high_end : b ≤ 57 = grind (arith, nat_tests) in
              let small : nat_lt (b - 48) 10 ≡ true = grind (arith, nat_tests) in
              let back : 48 + (b - 48) ≡ b = omega arith in
              (omega arith, pick (nat_lt (b - 48) 10) (48 + (b - 48)) (87 + (b - 48)) small ∙ back)
          | inr d ↦ let a = (both_true (nat_le 97 b) (nat_le b 102) d).0 in absurd (grind (arith, nat_tests))
        ]
    by false g =
        let above : 97 ≤ b = grind (arith, nat_tests) in
        elim (either (is_digit b) (nat_le 97 b && nat_le b 102) h) [
          | inl d ↦ let a = (both_true (nat_le 48 b) (nat_le b 57) d).1 in absurd (grind (arith, nat_tests))
          | inr d ↦
              let z = (both_true (nat_le 97 b) (nat_le b 102) d).1 in
              let high_end : b ≤ 102 = grind (arith, nat_tests) in
              let large : nat_lt (b - 87) 10 ≡ false = grind (arith, nat_tests) in
              let back : 87 + (b - 87) ≡ b = omega arith in
              (omega arith, skip (nat_lt (b - 87) 10) (48 + (b - 87)) (87 + (b - 87)) large ∙ back)
        ]

false_parts : (x y : Bool) → (x || y) ≡ false → (x ≡ false) × (y ≡ false)
false_parts true y g = absurd cc
false_parts false y g = (refl, g)

-- a byte that stands for itself
plain_byte : (b : ℕ) → is_escaped b ≡ false → (string_byte b ≡ b ∷ []) × (b < 256)
plain_byte b h =
    let two = false_parts ((b == 34) || (b == 92)) ((nat_lt b 32 || (b == 127)) || nat_le 256 b) h in
    let more = false_parts (nat_lt b 32 || (b == 127)) (nat_le 256 b) two.1 in
    let small = more.1 in
    (skip ((b == 34) || (b == 92)) (92 ∷ b ∷ []) (if nat_lt b 32 || (b == 127) then 92 ∷ 120 ∷ hex b else b ∷ []) two.0 ∙ skip (nat_lt b 32 || (b == 127)) (92 ∷ 120 ∷ hex b) (b ∷ []) more.0, grind (arith, nat_tests))

quoted_byte : (b : ℕ) → ((b == 34) || (b == 92)) ≡ true → b < 256
quoted_byte b h = by (b == 34) (b == 92) refl refl h
  where
    by : (s t : Bool) → (b == 34) ≡ s → (b == 92) ≡ t → (s || t) ≡ true → b < 256
    by true t e f g = grind (arith, nat_tests)
    by false true e f g = grind (arith, nat_tests)
    by false false e f g = absurd cc

control_byte : (digit b : ℕ) → digit < 16 → is_hex b ≡ true → (nat_lt (16 * digit + hex_value b) 32 || ((16 * digit + hex_value b) == 127)) ≡ true → string_byte (16 * digit + hex_value b) ≡ 92 ∷ 120 ∷ hex_digit digit ∷ b ∷ []
control_byte digit b h x small =
    let is = digit_is b x in
    let n : ℕ = 16 * digit + hex_value b in
    let top : n / 16 ≡ digit = omega (arith, is.0) in
    let bottom : n % 16 ≡ hex_value b = omega (arith, is.0) in
    let other : ((n == 34) || (n == 92)) ≡ false = not_quoted n small in
    skip ((n == 34) || (n == 92)) (92 ∷ n ∷ []) (if nat_lt n 32 || (n == 127) then 92 ∷ 120 ∷ hex n else n ∷ []) other ∙ (pick (nat_lt n 32 || (n == 127)) (92 ∷ 120 ∷ hex n) (n ∷ []) small
    ∙ (ap (λ k. 92 ∷ 120 ∷ hex_digit k ∷ hex_digit (n % 16) ∷ []) top ∙ ap (λ k. 92 ∷ 120 ∷ hex_digit digit ∷ k ∷ []) (ap hex_digit bottom ∙ is.1)))
  where
    not_quoted : (n : ℕ) → (nat_lt n 32 || (n == 127)) ≡ true → ((n == 34) || (n == 92)) ≡ false
    not_quoted n h = by (n == 34) (n == 92) refl refl
      where
        by : (s t : Bool) → (n == 34) ≡ s → (n == 92) ≡ t → (s || t) ≡ false
        by true t e f = let is : n ≡ 34 = grind (arith, nat_tests) in let g : (nat_lt 34 32 || (34 == 127)) ≡ true = subst (λ k. (nat_lt k 32 || (k == 127)) ≡ true) is h in absurd cc
        by false true e f = let is : n ≡ 92 = grind (arith, nat_tests) in let g : (nat_lt 92 32 || (92 == 127)) ≡ true = subst (λ k. (nat_lt k 32 || (k == 127)) ≡ true) is h in absurd cc
        by false false e f = refl

-- a text spells these bytes, up to the quote behind them
abbrev Quoted : List ℕ → List ℕ → Type 0
Quoted text bytes = (text ≡ flat_map string_byte bytes ++ 34 ∷ []) × AreBytes bytes

byte_front : (b : ℕ) (front rest bytes all : List ℕ) → b < 256 → string_byte b ≡ front → Quoted rest bytes → all ≡ b ∷ bytes → Quoted (front ++ rest) all
byte_front b front rest bytes all small is so whole =
    (ap (λ x. x ++ rest) (sym is) ∙ (ap (λ x. string_byte b ++ x) so.0 ∙ (sym (append_assoc (string_byte b) (flat_map string_byte bytes) (34 ∷ [])) ∙ ap (λ x. flat_map string_byte x ++ 34 ∷ []) (sym whole))), subst AreBytes (sym whole) (small, so.1))

-- what is read at a place was spelled so
pub between : (p : Place) (t v : List ℕ) → IsPlace p → unquoted p t ≡ Some v → Quoted (front_of p ++ t) v
between p [] v h e = absurd cc
between among (b ∷ t) v h e = elim (chosen (b == 34) (if length t == 0 then Some [] else None) _ (Some v) e) [
  | inl q ↦ elim (chosen (length t == 0) (Some []) None (Some v) q.1) [
    | inl n ↦
        let quote : b ≡ 34 = let g = q.0 in grind (arith, nat_tests) in
        let none : v ≡ [] = cc in
        let zero_len : length t ≡ 0 = let g = n.0 in grind (arith, nat_tests) in
        (ap (λ x. b ∷ x) (empty t zero_len) ∙ (ap (λ x. x ∷ []) quote ∙ ap (λ x. flat_map string_byte x ++ 34 ∷ []) (sym none)), subst AreBytes (sym none) tt)
    | inr n ↦ absurd cc
  ]
  | inr q ↦ elim (chosen (b == 92) (unquoted slashed t) _ (Some v) q.1) [
    | inl s ↦ let slash : b ≡ 92 = let g = s.0 in grind (arith, nat_tests) in subst (λ x. Quoted (x ∷ t) v) (sym slash) (between slashed t v tt s.1)
    | inr s ↦ elim (chosen (is_escaped b) None (with_byte b (unquoted among t)) (Some v) s.1) [
      | inl x ↦ absurd cc
      | inr x ↦ let parts = with_some b (unquoted among t) v x.1 in let plain = plain_byte b x.0 in byte_front b (b ∷ []) t parts.0 v plain.1 plain.0 (between among t parts.0 tt parts.1) parts.2
    ]
  ]
]
  where
    empty : (xs : List ℕ) → length xs ≡ 0 → xs ≡ []
    empty [] z = refl
    empty (x ∷ xs) z = absurd (omega arith)
between slashed (b ∷ t) v h e = elim (chosen ((b == 34) || (b == 92)) (with_byte b (unquoted among t)) _ (Some v) e) [
  | inl q ↦ let parts = with_some b (unquoted among t) v q.1 in byte_front b (92 ∷ b ∷ []) t parts.0 v (quoted_byte b q.0) (pick ((b == 34) || (b == 92)) (92 ∷ b ∷ []) _ q.0) (between among t parts.0 tt parts.1) parts.2
  | inr q ↦ elim (chosen (b == 120) (unquoted high t) None (Some v) q.1) [
    | inl s ↦ let letter : b ≡ 120 = let g = s.0 in grind (arith, nat_tests) in subst (λ x. Quoted (92 ∷ x ∷ t) v) (sym letter) (between high t v tt s.1)
    | inr s ↦ absurd cc
  ]
]
between high (b ∷ t) v h e = elim (chosen (is_hex b) (unquoted (low (hex_value b)) t) None (Some v) e) [
  | inl q ↦ let is = digit_is b q.0 in subst (λ x. Quoted (92 ∷ 120 ∷ x ∷ t) v) is.1 (between (low (hex_value b)) t v is.0 q.1)
  | inr q ↦ absurd cc
]
between (low digit) (b ∷ t) v h e = elim (chosen (is_hex b && (nat_lt (16 * digit + hex_value b) 32 || ((16 * digit + hex_value b) == 127))) (with_byte (16 * digit + hex_value b) (unquoted among t)) None (Some v) e) [
  | inl q ↦
      let two = both_true (is_hex b) (nat_lt (16 * digit + hex_value b) 32 || ((16 * digit + hex_value b) == 127)) q.0 in
      let parts = with_some (16 * digit + hex_value b) (unquoted among t) v q.1 in
      let small = (digit_is b two.0).0 in
      byte_front (16 * digit + hex_value b) (92 ∷ 120 ∷ hex_digit digit ∷ b ∷ []) t parts.0 v (omega (arith, h, small)) (control_byte digit b h two.0 two.1) (between among t parts.0 tt parts.1) parts.2
  | inr q ↦ absurd cc
]

-- pairs of digits that are read were spelled so
pub pairs_spelled : (t v : List ℕ) → pairs t ≡ Some v → (t ≡ flat_map hex v ++ 34 ∷ []) × AreBytes v
pairs_spelled [] v e = absurd cc
pairs_spelled (b ∷ []) v e = elim (chosen (b == 34) (Some []) None (Some v) e) [
  | inl q ↦
      let quote : b ≡ 34 = let g = q.0 in grind (arith, nat_tests) in
      let none : v ≡ [] = cc in
      (ap (λ x. x ∷ []) quote ∙ ap (λ x. flat_map hex x ++ 34 ∷ []) (sym none), subst AreBytes (sym none) tt)
  | inr q ↦ absurd cc
]
pairs_spelled (a ∷ b ∷ t) v e = elim (chosen (is_hex a && is_hex b) (with_byte (16 * hex_value a + hex_value b) (pairs t)) None (Some v) e) [
  | inl q ↦
      let two = both_true (is_hex a) (is_hex b) q.0 in
      let first = digit_is a two.0 in
      let second = digit_is b two.1 in
      let parts = with_some (16 * hex_value a + hex_value b) (pairs t) v q.1 in
      let n : ℕ = 16 * hex_value a + hex_value b in
      let top : n / 16 ≡ hex_value a = omega (arith, second.0) in
      let bottom : n % 16 ≡ hex_value b = omega (arith, second.0) in
      let front : hex n ≡ a ∷ b ∷ [] = ap (λ k. hex_digit k ∷ hex_digit (n % 16) ∷ []) top ∙ (ap (λ k. k ∷ hex_digit (n % 16) ∷ []) first.1 ∙ ap (λ k. a ∷ k ∷ []) (ap hex_digit bottom ∙ second.1)) in
      let rest = pairs_spelled t parts.0 parts.1 in
      (ap (λ x. x ++ t) (sym front) ∙ (ap (λ x. hex n ++ x) rest.0 ∙ (sym (append_assoc (hex n) (flat_map hex parts.0) (34 ∷ [])) ∙ ap (λ x. flat_map hex x ++ 34 ∷ []) (sym parts.2))), subst AreBytes (sym parts.2) (omega (arith, first.0, second.0), rest.1))
  | inr q ↦ absurd cc
]
