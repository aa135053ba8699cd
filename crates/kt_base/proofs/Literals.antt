-- A cell's spelling is read as the cell, and what is read is a spelling.
use Rattle.std.proofs.Common.{◌≡◌, inl, inr, ℕ, ℤ, List, [], ◌∷◌, refl, sym, ap, subst, ◌∙◌, arith, length, Bool, true, false, Option, Some, None, Ok, Err}
use Rattle.std.specs.Prelude.{◌&&◌, ◌==◌, nat_lt, nat_le, codes}
use Rattle.std.specs.Option.{option_map, option_or}
use Rattle.std.specs.Fmt.{signed_decimal}
use Rattle.std.proofs.lemmas.Bool.Decides.{nat_tests}
use Rattle.kt_base.specs.declared.cell.Kind.{Kind}
use Rattle.kt_base.specs.declared.cell.Kind.TheVariants as kind
use Rattle.kt_base.specs.declared.cell.Cell.{Cell}
use Rattle.kt_base.specs.declared.cell.Cell.TheVariants as cell
use Rattle.kt_base.specs.declared.literal.LiteralNo.TheVariants as no
use Rattle.kt_base.specs.Literals.{Value, nothing, truth, number, text, raw, literals_are_read, literals_are_spelled, SpellsCell, AreBytes, same, number_in, string_in, binary_in, value_in, cell_or, cell_under, short_bytes, cell_bytes, number_fits, fits, string_literal, binary_literal, pairs, unquoted, among}
use Rattle.kt_base.proofs.Decimals.{same_text}
use Rattle.kt_base.proofs.Values.{number_again, number_text, fits_mag, mag_signed, both_true}
use Rattle.kt_base.proofs.Spelled.{chosen, pick, skip, string_again, pairs_again, between, pairs_spelled}

-- a number's text is none of the words
value_number : (bytes : List ℕ) (n : ℤ) → number_in bytes ≡ Some n → value_in bytes ≡ Some (number n)
value_number bytes n e =
    skip (same bytes (codes "null")) _ _ (differs (codes "null") refl) ∙ (skip (same bytes (codes "true")) _ _ (differs (codes "true") refl) ∙ (skip (same bytes (codes "false")) _ _ (differs (codes "false") refl)
    ∙ ap (λ o. option_or (option_map number o) (option_or (option_map text (string_in bytes)) (option_map raw (binary_in bytes)))) e))
  where
    differs : (word : List ℕ) → number_in word ≡ None → same bytes word ≡ false
    differs word none = by (same bytes word) refl
      where
        by : (t : Bool) → same bytes word ≡ t → t ≡ false
        by true g = let clash : Some n ≡ None = sym e ∙ (ap number_in (same_text bytes word g) ∙ none) in absurd cc
        by false g = refl

short_is : (bytes : List ℕ) → nat_le (length bytes) cell_bytes ≡ true → short_bytes bytes ≡ Ok (cell.Bytes bytes)
short_is bytes h = let small : nat_lt cell_bytes (length bytes) ≡ false = grind (arith, nat_tests) in skip (nat_lt cell_bytes (length bytes)) (Err no.Long) (Ok (cell.Bytes bytes)) small

is_short : (bytes : List ℕ) (c : Cell) → short_bytes bytes ≡ Ok c → (nat_le (length bytes) cell_bytes ≡ true) × (c ≡ cell.Bytes bytes)
is_short bytes c e = elim (chosen (nat_lt cell_bytes (length bytes)) (Err no.Long) (Ok (cell.Bytes bytes)) (Ok c) e) [
  | inl x ↦ absurd cc
  | inr x ↦ let g = x.0 in (grind (arith, nat_tests), cc)
]

of_number : (k : Kind) (n : ℤ) (bytes : List ℕ) → number_fits k n ≡ true → bytes ≡ signed_decimal n → cell_or k (value_in bytes) ≡ Ok (cell.Int n)
of_number k n bytes fit is =
    let read = number_again n (mag_signed n (fits_mag k n fit)) in
    ap (cell_or k) (value_number bytes n (ap number_in is ∙ read)) ∙ pick (number_fits k n) (Ok (cell.Int n)) (Err no.Kind) fit

pub all_read : literals_are_read
all_read k cell.Null bytes spelled = absurd (unfit k spelled.fit)
  where
    unfit : (k : Kind) → fits k cell.Null ≡ true → ⊥
    unfit kind.Bool e = cc
    unfit kind.Int8 e = cc
    unfit kind.Int16 e = cc
    unfit kind.Int32 e = cc
    unfit kind.Int64 e = cc
    unfit kind.String e = cc
    unfit kind.Binary e = cc
all_read k (cell.Int n) bytes spelled = of_number k n bytes spelled.fit spelled.spelled
all_read kind.Bool (cell.Bool true) bytes spelled = ap (λ x. cell_or kind.Bool (value_in x)) spelled.spelled
all_read kind.Bool (cell.Bool false) bytes spelled = ap (λ x. cell_or kind.Bool (value_in x)) spelled.spelled
all_read kind.String (cell.Bytes v) bytes spelled =
    ap (λ x. cell_or kind.String (value_in x)) spelled.spelled ∙ (ap (λ o. cell_or kind.String (option_or (option_map text o) (option_map raw (binary_in (string_literal v))))) (string_again v spelled.of_bytes) ∙ short_is v spelled.fit)
all_read kind.Binary (cell.Bytes v) bytes spelled =
    ap (λ x. cell_or kind.Binary (value_in x)) spelled.spelled ∙ (ap (λ o. cell_or kind.Binary (option_map raw o)) (pairs_again v spelled.of_bytes) ∙ short_is v spelled.fit)
all_read kind.Int8 (cell.Bool t) bytes spelled = let f = spelled.fit in absurd cc
all_read kind.Int16 (cell.Bool t) bytes spelled = let f = spelled.fit in absurd cc
all_read kind.Int32 (cell.Bool t) bytes spelled = let f = spelled.fit in absurd cc
all_read kind.Int64 (cell.Bool t) bytes spelled = let f = spelled.fit in absurd cc
all_read kind.String (cell.Bool t) bytes spelled = let f = spelled.fit in absurd cc
all_read kind.Binary (cell.Bool t) bytes spelled = let f = spelled.fit in absurd cc
all_read kind.Bool (cell.Bytes v) bytes spelled = let f = spelled.fit in absurd cc
all_read kind.Int8 (cell.Bytes v) bytes spelled = let f = spelled.fit in absurd cc
all_read kind.Int16 (cell.Bytes v) bytes spelled = let f = spelled.fit in absurd cc
all_read kind.Int32 (cell.Bytes v) bytes spelled = let f = spelled.fit in absurd cc
all_read kind.Int64 (cell.Bytes v) bytes spelled = let f = spelled.fit in absurd cc

string_is : (bytes v : List ℕ) → string_in bytes ≡ Some v → (bytes ≡ string_literal v) × AreBytes v
string_is [] v e = absurd cc
string_is (b ∷ bytes) v e = elim (chosen (b == 34) (unquoted among bytes) None (Some v) e) [
  | inl x ↦
      let quote : b ≡ 34 = let g = x.0 in grind (arith, nat_tests) in
      let inside = between among bytes v tt x.1 in
      (ap (λ y. y ∷ bytes) quote ∙ ap (λ y. 34 ∷ y) inside.0, inside.1)
  | inr x ↦ absurd cc
]

binary_is : (bytes v : List ℕ) → binary_in bytes ≡ Some v → (bytes ≡ binary_literal v) × AreBytes v
binary_is [] v e = absurd cc
binary_is (x ∷ []) v e = absurd cc
binary_is (x ∷ b ∷ bytes) v e = elim (chosen ((x == 120) && (b == 34)) (pairs bytes) None (Some v) e) [
  | inl t ↦
      let two = both_true (x == 120) (b == 34) t.0 in
      let letter : x ≡ 120 = let g = two.0 in grind (arith, nat_tests) in
      let quote : b ≡ 34 = let g = two.1 in grind (arith, nat_tests) in
      let inside = pairs_spelled bytes v t.1 in
      (ap (λ y. y ∷ b ∷ bytes) letter ∙ (ap (λ y. 120 ∷ y ∷ bytes) quote ∙ ap (λ y. 120 ∷ 34 ∷ y) inside.0), inside.1)
  | inr t ↦ absurd cc
]

-- what a value says is the text of
abbrev IsValue : List ℕ → Value → Type 0
IsValue bytes nothing = bytes ≡ codes "null"
IsValue bytes (truth true) = bytes ≡ codes "true"
IsValue bytes (truth false) = bytes ≡ codes "false"
IsValue bytes (number n) = number_in bytes ≡ Some n
IsValue bytes (text v) = (bytes ≡ string_literal v) × AreBytes v
IsValue bytes (raw v) = (bytes ≡ binary_literal v) × AreBytes v

value_is : (bytes : List ℕ) (v : Value) → value_in bytes ≡ Some v → IsValue bytes v
value_is bytes v e = elim (chosen (same bytes (codes "null")) (Some nothing) _ (Some v) e) [
  | inl x ↦ let is : nothing ≡ v = cc in subst (IsValue bytes) is (same_text bytes (codes "null") x.0)
  | inr x ↦ elim (chosen (same bytes (codes "true")) (Some (truth true)) _ (Some v) x.1) [
    | inl y ↦ let is : truth true ≡ v = cc in subst (IsValue bytes) is (same_text bytes (codes "true") y.0)
    | inr y ↦ elim (chosen (same bytes (codes "false")) (Some (truth false)) _ (Some v) y.1) [
      | inl z ↦ let is : truth false ≡ v = cc in subst (IsValue bytes) is (same_text bytes (codes "false") z.0)
      | inr z ↦ numbers (number_in bytes) refl z.1
    ]
  ]
]
  where
    binaries : (o : Option (List ℕ)) → binary_in bytes ≡ o → option_map raw o ≡ Some v → IsValue bytes v
    binaries None g f = absurd cc
    binaries (Some w) g f = let is : raw w ≡ v = cc in subst (IsValue bytes) is (binary_is bytes w g)

    strings : (o : Option (List ℕ)) → string_in bytes ≡ o → option_or (option_map text o) (option_map raw (binary_in bytes)) ≡ Some v → IsValue bytes v
    strings None g f = binaries (binary_in bytes) refl f
    strings (Some w) g f = let is : text w ≡ v = cc in subst (IsValue bytes) is (string_is bytes w g)

    numbers : (o : Option ℤ) → number_in bytes ≡ o → option_or (option_map number o) (option_or (option_map text (string_in bytes)) (option_map raw (binary_in bytes))) ≡ Some v → IsValue bytes v
    numbers None g f = strings (string_in bytes) refl f
    numbers (Some n) g f = let is : number n ≡ v = cc in subst (IsValue bytes) is g

cell_is : (k : Kind) (c : Cell) (bytes : List ℕ) (v : Value) → IsValue bytes v → cell_under k v ≡ Ok c → SpellsCell k c bytes
cell_is k c bytes nothing is e = absurd cc
cell_is kind.Bool c bytes (truth true) is e = let same_c : cell.Bool true ≡ c = cc in subst (λ x. SpellsCell kind.Bool x bytes) same_c (record { fit = refl; of_bytes = tt; spelled = is })
cell_is kind.Bool c bytes (truth false) is e = let same_c : cell.Bool false ≡ c = cc in subst (λ x. SpellsCell kind.Bool x bytes) same_c (record { fit = refl; of_bytes = tt; spelled = is })
cell_is k c bytes (number n) is e = elim (chosen (number_fits k n) (Ok (cell.Int n)) (Err no.Kind) (Ok c) e) [
  | inl x ↦
      let same_c : cell.Int n ≡ c = cc in
      subst (λ y. SpellsCell k y bytes) same_c (record { fit = x.0; of_bytes = tt; spelled = number_text bytes n is (fits_mag k n x.0) })
  | inr x ↦ absurd cc
]
cell_is kind.String c bytes (text v) is e = let two = is_short v c e in subst (λ x. SpellsCell kind.String x bytes) (sym two.1) (record { fit = two.0; of_bytes = is.1; spelled = is.0 })
cell_is kind.Binary c bytes (raw v) is e = let two = is_short v c e in subst (λ x. SpellsCell kind.Binary x bytes) (sym two.1) (record { fit = two.0; of_bytes = is.1; spelled = is.0 })
cell_is kind.Int8 c bytes (truth t) is e = absurd cc
cell_is kind.Int16 c bytes (truth t) is e = absurd cc
cell_is kind.Int32 c bytes (truth t) is e = absurd cc
cell_is kind.Int64 c bytes (truth t) is e = absurd cc
cell_is kind.String c bytes (truth t) is e = absurd cc
cell_is kind.Binary c bytes (truth t) is e = absurd cc
cell_is kind.Bool c bytes (text v) is e = absurd cc
cell_is kind.Int8 c bytes (text v) is e = absurd cc
cell_is kind.Int16 c bytes (text v) is e = absurd cc
cell_is kind.Int32 c bytes (text v) is e = absurd cc
cell_is kind.Int64 c bytes (text v) is e = absurd cc
cell_is kind.Binary c bytes (text v) is e = absurd cc
cell_is kind.Bool c bytes (raw v) is e = absurd cc
cell_is kind.Int8 c bytes (raw v) is e = absurd cc
cell_is kind.Int16 c bytes (raw v) is e = absurd cc
cell_is kind.Int32 c bytes (raw v) is e = absurd cc
cell_is kind.Int64 c bytes (raw v) is e = absurd cc
cell_is kind.String c bytes (raw v) is e = absurd cc

pub all_spelled : literals_are_spelled
all_spelled k c bytes e = by (value_in bytes) refl e
  where
    by : (o : Option Value) → value_in bytes ≡ o → cell_or k o ≡ Ok c → SpellsCell k c bytes
    by None g f = absurd cc
    by (Some v) g f = cell_is k c bytes v (value_is bytes v g) f
