-- The literals of a row line byte by byte are those of a text.
use Rattle.std.proofs.Common.{◌≡◌, ℕ, ◌+◌, ◌*◌, ◌<◌, ℤ, pos, Bool, true, false, not, ◌&&◌, ◌||◌, List, [], ◌∷◌, length, Option, Some, None, refl, sym, ap, subst, ◌∙◌, arith}
use Rattle.std.specs.Prelude.{codes, is_some, ◌==◌, nat_le, nat_lt, if◌then◌else◌}
use Rattle.std.specs.List.{list_all}
use Rattle.std.specs.Option.{option_map, option_or}
use Rattle.std.proofs.lemmas.Bool.{ne_eqb, eqb-true, eqb-false, leb-true, leb-false, lt-ltb, le-ltb, and_right}
use Rattle.std.proofs.lemmas.Bool.Decides.{nat_tests}
use Rattle.kt_base.specs.Literals.{Value, nothing, truth, number, text, raw, Place, among, slashed, high, low, same, is_digit, is_count, count_on, with_byte, is_hex, hex_value, is_escaped, unquoted, pairs, binary_in, value_in}
use Rattle.kt_script.specs.declared.lex.Lex.{Lex}
use Rattle.kt_script.specs.declared.lex.Lex.TheVariants.{Start, N, Nu, Nul, T, Tr, Tru, F, Fa, Fal, Fals, Minus, Zero, Digits, Text, Slash, High, Low, LowOfSeven, Pairs, Pair, Whole}
use Rattle.kt_script.specs.Lex.{next, low_of, is_whole}

abbrev pub on_some : {A : Type 0} → Option A → (A → Bool) → Bool
on_some None f = false
on_some (Some a) f = f a

-- the bytes end where a literal may end
abbrev pub accepts : (Lex → ℕ → Option Lex) → Lex → List ℕ → Bool
accepts step s [] = is_whole s
accepts step s (b ∷ bytes) = on_some (step s b) (λ t. accepts step t bytes)

abbrev pub lit : Lex → List ℕ → Bool
lit s bytes = accepts next s bytes

-- ---- fixed words

letter : (s t : Lex) (c : ℕ) (cs : List ℕ) → ((b : ℕ) → next s b ≡ (if b == c then Some t else None)) → is_whole s ≡ false → ((bs : List ℕ) → lit t bs ≡ same bs cs) → (bs : List ℕ) → lit s bs ≡ same bs (c ∷ cs)
letter s t c cs step unended later [] = unended
letter s t c cs step unended later (b ∷ bs) = ap (λ o. on_some o (λ u. lit u bs)) (step b) ∙ by (b == c)
  where
    by : (v : Bool) → on_some (if v then Some t else None) (λ u. lit u bs) ≡ (v && same bs cs)
    by true = later bs
    by false = refl

whole_is : (bs : List ℕ) → lit Whole bs ≡ same bs []
whole_is [] = refl
whole_is (b ∷ bs) = refl

n_is : (bs : List ℕ) → lit N bs ≡ same bs (codes "ull")
n_is bs = letter N Nu 117 (codes "ll") (λ b. refl) refl (letter Nu Nul 108 (codes "l") (λ b. refl) refl (letter Nul Whole 108 [] (λ b. refl) refl whole_is)) bs

t_is : (bs : List ℕ) → lit T bs ≡ same bs (codes "rue")
t_is bs = letter T Tr 114 (codes "ue") (λ b. refl) refl (letter Tr Tru 117 (codes "e") (λ b. refl) refl (letter Tru Whole 101 [] (λ b. refl) refl whole_is)) bs

f_is : (bs : List ℕ) → lit F bs ≡ same bs (codes "alse")
f_is bs = letter F Fa 97 (codes "lse") (λ b. refl) refl (letter Fa Fal 108 (codes "se") (λ b. refl) refl (letter Fal Fals 115 (codes "e") (λ b. refl) refl (letter Fals Whole 101 [] (λ b. refl) refl whole_is))) bs

-- ---- numbers

digits_is : (bs : List ℕ) → lit Digits bs ≡ list_all is_digit bs
digits_is [] = refl
digits_is (b ∷ bs) = by (is_digit b) (digits_is bs)
  where
    by : (v : Bool) → lit Digits bs ≡ list_all is_digit bs → on_some (if v then Some Digits else None) (λ u. lit u bs) ≡ (v && list_all is_digit bs)
    by true more = more
    by false more = refl

some_length : (b : ℕ) (bs : List ℕ) → (length (b ∷ bs) == 0) ≡ false
some_length b bs = ne_eqb (length (b ∷ bs)) 0 (λ e. omega (arith, e))

zero_is : (bs : List ℕ) → lit Zero bs ≡ (list_all is_digit bs && (length bs == 0))
zero_is [] = refl
zero_is (b ∷ bs) = sym (and_right (list_all is_digit (b ∷ bs)) (length (b ∷ bs) == 0) (some_length b bs))

pub and_true : (v : Bool) → (v && true) ≡ v
and_true true = refl
and_true false = refl

minus_is : (bs : List ℕ) → lit Minus bs ≡ (is_count bs && not (same bs (codes "0")))
minus_is [] = refl
minus_is (d ∷ ds) = by (d == 48) (is_digit d) ds
  where
    by : (t u : Bool) (ds : List ℕ) → on_some (if t then None else (if u then Some Digits else None)) (λ v. lit v ds) ≡ (((u && list_all is_digit ds) && (not t || (length ds == 0))) && not (t && same ds []))
    by true false ds = refl
    by true true [] = refl
    by true true (e ∷ ds) = sym (ap (λ v. v && true) (and_right (list_all is_digit (e ∷ ds)) (length (e ∷ ds) == 0) (some_length e ds)))
    by false true ds = digits_is ds ∙ sym (and_true (list_all is_digit ds && true) ∙ and_true (list_all is_digit ds))
    by false false ds = refl

-- ---- strings

abbrev state_of : Place → Option Lex
state_of among = Some Text
state_of slashed = Some Slash
state_of high = Some High
state_of (low d) = low_of d

hex_small : (b : ℕ) → is_hex b ≡ true → hex_value b < 16
hex_small b h = grind (arith, nat_tests)

some_with : (b : ℕ) (o : Option (List ℕ)) → is_some o ≡ is_some (with_byte b o)
some_with b None = refl
some_with b (Some bytes) = refl

low_end : (d : ℕ) → on_some (low_of d) (λ s. lit s []) ≡ false
low_end d = by (nat_le d 1) (d == 7)
  where
    by : (t u : Bool) → on_some (if t then Some Low else (if u then Some LowOfSeven else None)) (λ s. lit s []) ≡ false
    by true u = refl
    by false true = refl
    by false false = refl

abbrev of_pair : ℕ → ℕ → Bool
of_pair d b = is_hex b && (nat_lt (16 * d + hex_value b) 32 || ((16 * d + hex_value b) == 127))

low_test : (d b : ℕ) → nat_le d 1 ≡ true → of_pair d b ≡ is_hex b
low_test d b h = by (is_hex b) refl
  where
    by : (v : Bool) → is_hex b ≡ v → (v && (nat_lt (16 * d + hex_value b) 32 || ((16 * d + hex_value b) == 127))) ≡ v
    by true e = let small = hex_small b e in let le = leb-true d 1 h in ap (λ v. v || ((16 * d + hex_value b) == 127)) (lt-ltb (16 * d + hex_value b) 32 (omega arith))
    by false e = refl

seven_hex : (b : ℕ) → is_hex b ≡ true → 16 * 7 + hex_value b ≡ 127 → b ≡ 102
seven_hex b h e = grind (arith, nat_tests)

seven_test : (d b : ℕ) → d ≡ 7 → of_pair d b ≡ (b == 102)
seven_test d b h = subst (λ n. of_pair n b ≡ (b == 102)) (sym h) (by (b == 102) (of_pair 7 b) refl refl)
  where
    by : (t u : Bool) → (b == 102) ≡ t → of_pair 7 b ≡ u → u ≡ t
    by true true e f = refl
    by false false e f = refl
    by true false e f = let g : of_pair 7 102 ≡ false = subst (λ n. of_pair 7 n ≡ false) (eqb-true b 102 e) f in cc
    by false true e f = absurd (eqb-false b 102 e (grind (arith, nat_tests)))

other_test : (d b : ℕ) → nat_le d 1 ≡ false → (d == 7) ≡ false → of_pair d b ≡ false
other_test d b g h = by (is_hex b) refl
  where
    by : (v : Bool) → is_hex b ≡ v → (v && (nat_lt (16 * d + hex_value b) 32 || ((16 * d + hex_value b) == 127))) ≡ false
    by true e =
        let small = hex_small b e in
        let more = leb-false d 1 g in
        let other = eqb-false d 7 h in
        ap (λ v. v || ((16 * d + hex_value b) == 127)) (le-ltb (16 * d + hex_value b) 32 (omega arith)) ∙ ne_eqb (16 * d + hex_value b) 127 (λ f. other (omega (arith, f)))
    by false e = refl

abbrev ended : Bool → Option (List ℕ)
ended t = if t then Some [] else None

abbrev Read : List ℕ → Type 0
Read bs = (p : Place) → on_some (state_of p) (λ s. lit s bs) ≡ is_some (unquoted p bs)

string_is : (bs : List ℕ) (p : Place) → on_some (state_of p) (λ s. lit s bs) ≡ is_some (unquoted p bs)
string_is [] among = refl
string_is [] slashed = refl
string_is [] high = refl
string_is [] (low d) = low_end d
string_is (b ∷ bs) among = by (b == 34) (b == 92) (is_escaped b) bs (string_is bs)
  where
    by : (t u v : Bool) (bs : List ℕ) → Read bs → on_some (if t then Some Whole else (if u then Some Slash else (if v then None else Some Text))) (λ s. lit s bs) ≡ is_some (if t then (if length bs == 0 then Some [] else None) else (if u then unquoted slashed bs else (if v then None else with_byte b (unquoted among bs))))
    by true u v [] more = refl
    by true u v (c ∷ cs) more = sym (ap (λ w. is_some (ended w)) (some_length c cs))
    by false true v bs more = more slashed
    by false false true bs more = refl
    by false false false bs more = more among ∙ some_with b (unquoted among bs)
string_is (b ∷ bs) slashed = by ((b == 34) || (b == 92)) (b == 120) (string_is bs)
  where
    by : (t u : Bool) → Read bs → on_some (if t then Some Text else (if u then Some High else None)) (λ s. lit s bs) ≡ is_some (if t then with_byte b (unquoted among bs) else (if u then unquoted high bs else None))
    by true u more = more among ∙ some_with b (unquoted among bs)
    by false true more = more high
    by false false more = refl
string_is (b ∷ bs) high = by (is_hex b) (string_is bs)
  where
    by : (t : Bool) → Read bs → on_some (if t then low_of (hex_value b) else None) (λ s. lit s bs) ≡ is_some (if t then unquoted (low (hex_value b)) bs else None)
    by true more = more (low (hex_value b))
    by false more = refl
string_is (b ∷ bs) (low d) = by (nat_le d 1) (d == 7) refl refl (string_is bs)
  where
    tested : (t : Bool) → of_pair d b ≡ t → Read bs → on_some (if t then Some Text else None) (λ s. lit s bs) ≡ is_some (if of_pair d b then with_byte (16 * d + hex_value b) (unquoted among bs) else None)
    tested true e more = more among ∙ some_with (16 * d + hex_value b) (unquoted among bs) ∙ ap (λ v. is_some (if v then with_byte (16 * d + hex_value b) (unquoted among bs) else None)) (sym e)
    tested false e more = ap (λ v. is_some (if v then with_byte (16 * d + hex_value b) (unquoted among bs) else None)) (sym e)

    by : (t u : Bool) → nat_le d 1 ≡ t → (d == 7) ≡ u → Read bs → on_some (if t then Some Low else (if u then Some LowOfSeven else None)) (λ s. lit s (b ∷ bs)) ≡ is_some (if of_pair d b then with_byte (16 * d + hex_value b) (unquoted among bs) else None)
    by true u e f more = tested (is_hex b) (low_test d b e) more
    by false true e f more = tested (b == 102) (seven_test d b (eqb-true d 7 f)) more
    by false false e f more = tested false (other_test d b e f) more

-- ---- binaries

abbrev Second : ℕ → List ℕ → Bool → Type 0
Second n bs v = on_some (if v then Some Pairs else None) (λ r. lit r bs) ≡ is_some (if v then with_byte n (pairs bs) else None)

pairs_is : (bs : List ℕ) → lit Pairs bs ≡ is_some (pairs bs)
pairs_is [] = refl
pairs_is (b ∷ []) = by (b == 34) (is_hex b)
  where
    by : (t u : Bool) → on_some (if t then Some Whole else (if u then Some Pair else None)) (λ s. lit s []) ≡ is_some (ended t)
    by true u = refl
    by false true = refl
    by false false = refl
pairs_is (h ∷ l ∷ bs) = by (h == 34) (is_hex h) refl refl (second (is_hex l) (pairs_is bs))
  where
    second : (v : Bool) → lit Pairs bs ≡ is_some (pairs bs) → Second (16 * hex_value h + hex_value l) bs v
    second true more = more ∙ some_with (16 * hex_value h + hex_value l) (pairs bs)
    second false more = refl

    by : (t u : Bool) → (h == 34) ≡ t → is_hex h ≡ u → Second (16 * hex_value h + hex_value l) bs (is_hex l) → on_some (if t then Some Whole else (if u then Some Pair else None)) (λ s. lit s (l ∷ bs)) ≡ is_some (if u && is_hex l then with_byte (16 * hex_value h + hex_value l) (pairs bs) else None)
    by true true e f more = let g : is_hex 34 ≡ true = subst (λ n. is_hex n ≡ true) (eqb-true h 34 e) f in cc
    by true false e f more = refl
    by false true e f more = more
    by false false e f more = refl

-- ---- all literals

case_of : (P : ℕ → Type 0) (b c : ℕ) → P c → ((b ≡ c → ⊥) → P b) → P b
case_of P b c here other = by (b == c) refl
  where
    by : (t : Bool) → (b == c) ≡ t → P b
    by true e = subst P (sym (eqb-true b c e)) here
    by false e = other (eqb-false b c e)

no_binary : (x : ℕ) (bs : List ℕ) → (x == 120) ≡ false → binary_in (x ∷ bs) ≡ None
no_binary x [] e = refl
no_binary x (c ∷ cs) e = ap (λ t. if t && (c == 34) then pairs cs else None) e

is_some_if : {A : Type 0} (t : Bool) (a : A) → is_some (if t then Some a else None) ≡ t
is_some_if true a = refl
is_some_if false a = refl

is_some_map : {A B : Type 0} (f : A → B) (o : Option A) → is_some (option_map f o) ≡ is_some o
is_some_map f None = refl
is_some_map f (Some a) = refl

or_none : {A : Type 0} (o : Option A) → option_or o None ≡ o
or_none None = refl
or_none (Some a) = refl

-- a literal that begins with this byte is of one kind alone
word_first : (t : Bool) (v : Value) (x : ℕ) (bs : List ℕ) → (x == 120) ≡ false → is_some (if t then Some v else option_map raw (binary_in (x ∷ bs))) ≡ t
word_first t v x bs e = ap (λ o. is_some (if t then Some v else option_map raw o)) (no_binary x bs e) ∙ is_some_if t v

number_first : (t : Bool) (n : ℤ) (x : ℕ) (bs : List ℕ) → (x == 120) ≡ false → is_some (option_or (option_map number (if t then Some n else None)) (option_map raw (binary_in (x ∷ bs)))) ≡ t
number_first t n x bs e = ap (λ o. is_some (option_or (option_map number (if t then Some n else None)) (option_map raw o))) (no_binary x bs e) ∙ by t
  where
    by : (t : Bool) → is_some (option_or (option_map number (if t then Some n else None)) (option_map raw None)) ≡ t
    by true = refl
    by false = refl

abbrev Agrees : List ℕ → ℕ → Type 0
Agrees bs b = is_some (value_in (b ∷ bs)) ≡ lit Start (b ∷ bs)

binary_first : (bs : List ℕ) → Agrees bs 120
binary_first [] = refl
binary_first (c ∷ cs) = by (c == 34)
  where
    by : (t : Bool) → is_some (option_map raw (if t then pairs cs else None)) ≡ on_some (if t then Some Pairs else None) (λ s. lit s cs)
    by true = is_some_map raw (pairs cs) ∙ sym (pairs_is cs)
    by false = refl

string_first : (bs : List ℕ) → Agrees bs 34
string_first bs = ap (λ o. is_some (option_or (option_map text (unquoted among bs)) (option_map raw o))) (no_binary 34 bs refl) ∙ ap is_some (or_none (option_map text (unquoted among bs))) ∙ is_some_map text (unquoted among bs) ∙ sym (string_is bs among)

zero_first : (bs : List ℕ) → Agrees bs 48
zero_first bs = number_first (list_all is_digit bs && (length bs == 0)) _ 48 bs refl ∙ sym (zero_is bs)

is_some_or : (t : Bool) (n : ℤ) → is_some (option_or (option_map number (if t then Some n else None)) None) ≡ t
is_some_or true n = refl
is_some_or false n = refl

other_first : (b : ℕ) (bs : List ℕ) → (b ≡ 110 → ⊥) → (b ≡ 116 → ⊥) → (b ≡ 102 → ⊥) → (b ≡ 45 → ⊥) → (b ≡ 48 → ⊥) → (b ≡ 34 → ⊥) → (b ≡ 120 → ⊥) → Agrees bs b
other_first b bs n t f m z q x =
    let en = ne_eqb b 110 n in
    let et = ne_eqb b 116 t in
    let ef = ne_eqb b 102 f in
    let em = ne_eqb b 45 m in
    let ez = ne_eqb b 48 z in
    let eq = ne_eqb b 34 q in
    let ex = ne_eqb b 120 x in
    let eb = no_binary b bs ex in
    simp (en, et, ef, em, ez, eq, ex, eb) (by (is_digit b))
  where
    by : (u : Bool) → is_some (option_or (option_map number (if (u && list_all is_digit bs) && true then Some (pos (count_on 0 (b ∷ bs))) else None)) None) ≡ on_some (if u then Some Digits else None) (λ s. lit s bs)
    by true = is_some_or (list_all is_digit bs && true) (pos (count_on 0 (b ∷ bs))) ∙ and_true (list_all is_digit bs) ∙ sym (digits_is bs)
    by false = refl

pub literal_is : (w : List ℕ) → is_some (value_in w) ≡ lit Start w
literal_is [] = refl
literal_is (b ∷ bs) =
    case_of (Agrees bs) b 110 (word_first (same bs (codes "ull")) nothing 110 bs refl ∙ sym (n_is bs))
    (λ n. case_of (Agrees bs) b 116 (word_first (same bs (codes "rue")) (truth true) 116 bs refl ∙ sym (t_is bs))
    (λ t. case_of (Agrees bs) b 102 (word_first (same bs (codes "alse")) (truth false) 102 bs refl ∙ sym (f_is bs))
    (λ f. case_of (Agrees bs) b 45 (number_first (is_count bs && not (same bs (codes "0"))) _ 45 bs refl ∙ sym (minus_is bs))
    (λ m. case_of (Agrees bs) b 48 (zero_first bs)
    (λ z. case_of (Agrees bs) b 34 (string_first bs)
    (λ q. case_of (Agrees bs) b 120 (binary_first bs)
    (λ x. other_first b bs n t f m z q x)))))))
