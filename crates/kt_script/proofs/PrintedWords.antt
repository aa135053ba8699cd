-- A printed word is cut off a line as one word.
use Rattle.std.proofs.Common.{◌≡◌, ℕ, ◌+◌, ◌/◌, ◌%◌, ◌<◌, ◌≤◌, ℤ, List, [], ◌∷◌, ◌++◌, refl, sym, ap, subst, ◌∙◌, arith, length, Bool, true, false, not, Option, Some, None, inl, inr, append_assoc}
use mathlib.Core.List.{append-nil}
use Rattle.std.specs.Prelude.{◌≢◌, ◌&&◌, ◌||◌, ◌==◌, nat_lt, nat_le, if◌then◌else◌, codes}
use Rattle.std.specs.List.{flat_map, onto_first, list_all, AllByRecursion}
use Rattle.std.specs.Fmt.{signed_decimal}
use Rattle.std.proofs.lemmas.Bool.{eqb-true, ne_eqb}
use Rattle.std.proofs.lemmas.Bool.Decides.{nat_tests}
use Rattle.kt_base.specs.declared.cell.Kind.{Kind}
use Rattle.kt_base.specs.declared.cell.Kind.TheVariants as kind
use Rattle.kt_base.specs.declared.cell.Cell.{Cell}
use Rattle.kt_base.specs.declared.cell.Cell.TheVariants as cell
use Rattle.kt_base.specs.Literals.{hex, hex_digit, string_byte, string_literal, binary_literal, bytes_literal, literal, same, is_digit, is_count, number_in, number_fits}
use Rattle.kt_base.proofs.Spelled.{chosen}
use Rattle.kt_base.proofs.Values.{both_true, number_again, fits_mag, mag_signed}
use Rattle.kt_schema.specs.Names.{is_letter, is_name}
use Rattle.kt_schema.specs.Names.{is_digit as is_figure}
use Rattle.kt_script.specs.declared.word.Side.{Side}
use Rattle.kt_script.specs.declared.word.Side.TheVariants.{Outside, Inside, Slashed}
use Rattle.kt_script.specs.Pieces.{side_after, ends_word, words_from, words_of}
use Rattle.kt_script.specs.Texts.{words}
use Rattle.kt_script.proofs.Pieces.{onto_front, some_word}

-- bytes that end no word, behind which a line is cut as at another side
abbrev pub Passes : Side → List ℕ → Side → Type 0
Passes side w next = (t : List ℕ) → words_from side (w ++ t) ≡ onto_front w (words_from next t)

passes_none : (side : Side) → Passes side [] side
passes_none side t = let some = some_word side t in some.2 ∙ sym (ap (onto_front []) some.2)

onto_onto : (a b : List ℕ) (ws : List (List ℕ)) → onto_front a (onto_front b ws) ≡ onto_front (a ++ b) ws
onto_onto a b [] = refl
onto_onto a b (w ∷ ws) = ap (λ x. x ∷ ws) (sym (append_assoc a b w))

pub passes_both : (side mid next : Side) (a b : List ℕ) → Passes side a mid → Passes mid b next → Passes side (a ++ b) next
passes_both side mid next a b p q t = ap (words_from side) (append_assoc a b t) ∙ (p (b ++ t) ∙ (ap (onto_front a) (q t) ∙ onto_onto a b (words_from next t)))

first_front : (b : ℕ) (ws : List (List ℕ)) → onto_first b ws ≡ onto_front (b ∷ []) ws
first_front b [] = refl
first_front b (w ∷ ws) = refl

passes_byte : (side : Side) (b : ℕ) → ends_word side b ≡ false → Passes side (b ∷ []) (side_after side b)
passes_byte side b h t = ap (λ e. if e then [] ∷ words_from Outside t else onto_first b (words_from (side_after side b) t)) h ∙ first_front b (words_from (side_after side b) t)

-- a byte above the space and the quote
abbrev pub High : ℕ → Type 0
High b = 34 < b

high_byte : (b : ℕ) → High b → Passes Outside (b ∷ []) Outside
high_byte b h =
    subst (λ s. Passes Outside (b ∷ []) s) (ap (λ t. if t then Inside else Outside) (ne_eqb b 34 (λ e. omega arith))) (passes_byte Outside b (ne_eqb b 32 (λ e. omega arith)))

pub high_word : (w : List ℕ) → AllByRecursion High w → Passes Outside w Outside
high_word [] p = passes_none Outside
high_word (b ∷ w) p = passes_both Outside Outside Outside (b ∷ []) w (high_byte b p.0) (high_word w p.1)

pub all_high : (w : List ℕ) → list_all (λ b. nat_lt 34 b) w ≡ true → AllByRecursion High w
all_high [] h = tt
all_high (b ∷ w) h = let both = both_true (nat_lt 34 b) (list_all (λ c. nat_lt 34 c) w) h in (above b both.0, all_high w both.1)
  where
    above : (n : ℕ) → nat_lt 34 n ≡ true → 34 < n
    above n t = grind (arith, nat_tests)

pub high : (w : List ℕ) → list_all (λ b. nat_lt 34 b) w ≡ true → Passes Outside w Outside
high w h = high_word w (all_high w h)

-- ---- numbers

digits_high : (ds : List ℕ) → list_all is_digit ds ≡ true → AllByRecursion High ds
digits_high [] h = tt
digits_high (d ∷ ds) h = let both = both_true (is_digit d) (list_all is_digit ds) h in (digit d both.0, digits_high ds both.1)
  where
    digit : (n : ℕ) → is_digit n ≡ true → 34 < n
    digit n t = grind (arith, nat_tests)

count_high : (ds : List ℕ) → is_count ds ≡ true → AllByRecursion High ds
count_high [] h = absurd cc
count_high (d ∷ ds) h = digits_high (d ∷ ds) (both_true (list_all is_digit (d ∷ ds)) _ h).0

number_high : (text : List ℕ) (n : ℤ) → number_in text ≡ Some n → AllByRecursion High text
number_high [] n h = absurd cc
number_high (b ∷ bytes) n h = elim (chosen (b == 45) _ _ _ h) [
  | inl minus ↦ let is : b ≡ 45 = eqb-true b 45 minus.0 in (
    subst High (sym is) (omega arith),
    elim (chosen (is_count bytes && not (same bytes (codes "0"))) _ _ _ minus.1) [
      | inl some ↦ count_high bytes (both_true (is_count bytes) (not (same bytes (codes "0"))) some.0).0
      | inr none ↦ absurd (no_number none.1)
    ],
  )
  | inr plain ↦ elim (chosen (is_count (b ∷ bytes)) _ _ _ plain.1) [
    | inl some ↦ count_high (b ∷ bytes) some.0
    | inr none ↦ absurd (no_number none.1)
  ]
]
  where
    no_number : ◌≡◌ {A = Option ℤ} None (Some n) → ⊥
    no_number e = cc

pub decimal_high : (k : Kind) (n : ℤ) → number_fits k n ≡ true → AllByRecursion High (signed_decimal n)
decimal_high k n h = number_high (signed_decimal n) n (number_again n (mag_signed n (fits_mag k n h)))

-- ---- texts

inside_byte : (b : ℕ) → (b == 34) ≡ false → (b == 92) ≡ false → Passes Inside (b ∷ []) Inside
inside_byte b q s = subst (λ x. Passes Inside (b ∷ []) x) (ap (λ t. if t then Outside else (if b == 92 then Slashed else Inside)) q ∙ ap (λ t. if t then Slashed else Inside) s) (passes_byte Inside b refl)

hex_inside : (n : ℕ) → Passes Inside (hex_digit n ∷ []) Inside
hex_inside n = by (nat_lt n 10) refl
  where
    by : (t : Bool) → nat_lt n 10 ≡ t → Passes Inside ((if t then 48 + n else 87 + n) ∷ []) Inside
    by true e = let small : n < 10 = grind (arith, nat_tests) in inside_byte (48 + n) (ne_eqb (48 + n) 34 (λ q. omega arith)) (ne_eqb (48 + n) 92 (λ q. omega arith))
    by false e = let large : 10 ≤ n = grind (arith, nat_tests) in inside_byte (87 + n) (ne_eqb (87 + n) 34 (λ q. omega arith)) (ne_eqb (87 + n) 92 (λ q. omega arith))

hex_pair_inside : (b : ℕ) → Passes Inside (hex b) Inside
hex_pair_inside b = passes_both Inside Inside Inside (hex_digit (b / 16) ∷ []) (hex_digit (b % 16) ∷ []) (hex_inside (b / 16)) (hex_inside (b % 16))

-- behind a backslash any byte is passed
slashed : (b : ℕ) → Passes Inside (92 ∷ b ∷ []) Inside
slashed b = passes_both Inside Slashed Inside (92 ∷ []) (b ∷ []) (passes_byte Inside 92 refl) (passes_byte Slashed b refl)

no_both : (a b : Bool) → (a || b) ≡ false → (a ≡ false) × (b ≡ false)
no_both true b h = absurd cc
no_both false b h = (refl, h)

string_byte_inside : (b : ℕ) → Passes Inside (string_byte b) Inside
string_byte_inside b = by ((b == 34) || (b == 92)) (nat_lt b 32 || (b == 127)) refl
  where
    by : (t u : Bool) → ((b == 34) || (b == 92)) ≡ t → Passes Inside (if t then 92 ∷ b ∷ [] else (if u then 92 ∷ 120 ∷ hex b else b ∷ [])) Inside
    by true u e = slashed b
    by false true e = passes_both Inside Inside Inside (92 ∷ 120 ∷ []) (hex b) (slashed 120) (hex_pair_inside b)
    by false false e = let none = no_both (b == 34) (b == 92) e in inside_byte b none.0 none.1

each_inside : (f : ℕ → List ℕ) → ((b : ℕ) → Passes Inside (f b) Inside) → (bytes : List ℕ) → Passes Inside (flat_map f bytes) Inside
each_inside f p [] = passes_none Inside
each_inside f p (b ∷ bytes) = passes_both Inside Inside Inside (f b) (flat_map f bytes) (p b) (each_inside f p bytes)

-- what stands between two quotes
quoted : (w : List ℕ) → Passes Inside w Inside → Passes Outside (34 ∷ (w ++ 34 ∷ [])) Outside
quoted w p = passes_both Outside Inside Outside (34 ∷ []) (w ++ 34 ∷ []) (passes_byte Outside 34 refl) (passes_both Inside Inside Outside w (34 ∷ []) p (passes_byte Inside 34 refl))

string_word : (bytes : List ℕ) → Passes Outside (string_literal bytes) Outside
string_word bytes = quoted (flat_map string_byte bytes) (each_inside string_byte string_byte_inside bytes)

binary_word : (bytes : List ℕ) → Passes Outside (binary_literal bytes) Outside
binary_word bytes = passes_both Outside Outside Outside (120 ∷ []) (34 ∷ (flat_map hex bytes ++ 34 ∷ [])) (passes_byte Outside 120 refl) (quoted (flat_map hex bytes) (each_inside hex hex_pair_inside bytes))

bytes_word : (k : Kind) (bytes : List ℕ) → Passes Outside (bytes_literal k bytes) Outside
bytes_word kind.Bool bytes = string_word bytes
bytes_word kind.Int8 bytes = string_word bytes
bytes_word kind.Int16 bytes = string_word bytes
bytes_word kind.Int32 bytes = string_word bytes
bytes_word kind.Int64 bytes = string_word bytes
bytes_word kind.String bytes = string_word bytes
bytes_word kind.Binary bytes = binary_word bytes

-- a number has the range of its kind
abbrev pub Ranged : Kind → Cell → Type 0
Ranged k (cell.Int n) = number_fits k n ≡ true
Ranged k c = Unit {0}

-- a word that stands between spaces
abbrev pub IsWord : List ℕ → Type 0
IsWord w = Passes Outside w Outside

pub literal_word : (k : Kind) (c : Cell) → Ranged k c → IsWord (literal k c)
literal_word k cell.Null r = high (codes "null") refl
literal_word k (cell.Int n) r = high_word (signed_decimal n) (decimal_high k n r)
literal_word k (cell.Bool false) r = high (codes "false") refl
literal_word k (cell.Bool true) r = high (codes "true") refl
literal_word k (cell.Bytes bytes) r = bytes_word k bytes

-- ---- names

-- a byte of a name is no sign, no comma and no space
pub record NameByte (b : ℕ) : Type 0 where
  pub low : 48 ≤ b
  pub below : b ≢ 60
  pub equal : b ≢ 61
  pub above : b ≢ 62

name_byte : (b : ℕ) → (is_letter b || is_figure b) ≡ true → NameByte b
name_byte b h = record {
  low = grind (arith, nat_tests);
  below = λ e. let g : (is_letter 60 || is_figure 60) ≡ true = subst (λ n. (is_letter n || is_figure n) ≡ true) e h in cc;
  equal = λ e. let g : (is_letter 61 || is_figure 61) ≡ true = subst (λ n. (is_letter n || is_figure n) ≡ true) e h in cc;
  above = λ e. let g : (is_letter 62 || is_figure 62) ≡ true = subst (λ n. (is_letter n || is_figure n) ≡ true) e h in cc;
}

-- a name begins with a letter or an underscore
pub data Named : List ℕ → Type 0 where
  named : (b : ℕ) (bytes : List ℕ) → is_letter b ≡ true → AllByRecursion NameByte (b ∷ bytes) → Named (b ∷ bytes)

name_bytes : (bytes : List ℕ) → list_all (λ c. is_letter c || is_figure c) bytes ≡ true → AllByRecursion NameByte bytes
name_bytes [] h = tt
name_bytes (b ∷ bytes) h = let both = both_true (is_letter b || is_figure b) (list_all (λ c. is_letter c || is_figure c) bytes) h in (name_byte b both.0, name_bytes bytes both.1)

pub name_is : (name : List ℕ) → is_name name ≡ true → Named name
name_is [] h = absurd cc
name_is (b ∷ bytes) h =
    let first = both_true (is_letter b && nat_le (length bytes) 63) (list_all (λ c. is_letter c || is_figure c) bytes) h in
    let letter = both_true (is_letter b) (nat_le (length bytes) 63) first.0 in
    named b bytes letter.0 (name_byte b (ap (λ t. t || is_figure b) letter.0), name_bytes bytes first.1)

names_high : (bytes : List ℕ) → AllByRecursion NameByte bytes → AllByRecursion High bytes
names_high [] p = tt
names_high (b ∷ bytes) p = (let low = p.0.low in omega arith, names_high bytes p.1)

pub name_bytes_of : (name : List ℕ) → Named name → AllByRecursion NameByte name
name_bytes_of name (named b bytes letter all) = all

pub name_high : (name : List ℕ) → Named name → AllByRecursion High name
name_high name (named b bytes letter all) = names_high (b ∷ bytes) all

-- a name is no sign
pub name_apart : (name rest : List ℕ) → Named name → same (name ++ rest) (codes ";") ≡ false
name_apart name rest (named b bytes letter all) = by (b == 59) refl
  where
    by : (t : Bool) → (b == 59) ≡ t → (t && same (bytes ++ rest) []) ≡ false
    by true e = let sign : is_letter 59 ≡ true = subst (λ n. is_letter n ≡ true) (eqb-true b 59 e) letter in absurd cc
    by false e = refl

-- ---- lines of words

pub word_then : (w t : List ℕ) → IsWord w → words_of (w ++ 32 ∷ t) ≡ w ∷ words_of t
word_then w t p = p (32 ∷ t) ∙ ap (λ x. x ∷ words_of t) (append-nil w)

pub word_alone : (w : List ℕ) → IsWord w → words_of w ≡ w ∷ []
word_alone w p = ap words_of (sym (append-nil w)) ∙ (p [] ∙ ap (λ x. x ∷ []) (append-nil w))

pub words_then : (w : List ℕ) (ws : List (List ℕ)) (t : List ℕ) → IsWord w → AllByRecursion IsWord ws → words_of (words (w ∷ ws) ++ 32 ∷ t) ≡ (w ∷ ws) ++ words_of t
words_then w [] t p all = ap (λ x. words_of (x ++ 32 ∷ t)) (append-nil w) ∙ word_then w t p
words_then w (v ∷ ws) t p all =
    ap words_of (append_assoc w (32 ∷ words (v ∷ ws)) (32 ∷ t)) ∙ (word_then w (words (v ∷ ws) ++ 32 ∷ t) p ∙ ap (λ rest. w ∷ rest) (words_then v ws t all.0 all.1))

pub words_alone : (w : List ℕ) (ws : List (List ℕ)) → IsWord w → AllByRecursion IsWord ws → words_of (words (w ∷ ws)) ≡ w ∷ ws
words_alone w [] p all = ap words_of (append-nil w) ∙ word_alone w p
words_alone w (v ∷ ws) p all = word_then w (words (v ∷ ws)) p ∙ ap (λ rest. w ∷ rest) (words_alone v ws all.0 all.1)
