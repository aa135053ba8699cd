-- A field that is read is the field that was written, and what was written is read again.
use Rattle.std.proofs.Common.{◌≡◌, ℕ, ◌+◌, ◌^◌, ◌<◌, ◌≤◌, Bool, true, List, [], ◌∷◌, ◌++◌, length, map, Ok, refl, sym, ap, subst, ◌∙◌, append_assoc, arith, length-append}
use Rattle.std.specs.Int.{w16, w32, from_le_bytes}
use Rattle.std.specs.List.{concat, flat_map}
use Rattle.std.proofs.lemmas.List.{get_or_append_left, get_or_past}
use Rattle.std.proofs.lemmas.Bool.{cases_lt}
use Rattle.std.proofs.Common.{inl, inr}
use Rattle.kt_bytes.specs.Reading.{◌>>=◌, number_at, checked_at, bytes_at}
use Rattle.kt_bytes.proofs.Numbers.{IsBytes, Takes, Takes-then, wide16, wide32, number_again, checked_takes, checked_again, bytes_takes, bytes_again, bind_ok, then_is}
use Rattle.kt_dict.specs.Spelling.{short, number, entry, code, block, dictionary, spelling}
use Rattle.kt_dict.specs.Writing.{text}
use Rattle.kt_dict.specs.Walk.{is_length, text_at}
use Rattle.kt_dict.proofs.Fresh.{within_length}

pub length-short : (n : ℕ) → length (short n) ≡ 2
unfolding short
length-short n = refl

pub length-number : (n : ℕ) → length (number n) ≡ 4
unfolding number
length-number n = refl

pub short_takes : (passes : ℕ → Bool) (bytes : List ℕ) (x : ℕ × List ℕ) → IsBytes bytes → checked_at w16 passes bytes ≡ Ok x → Takes bytes (short x.0) x.1 × (passes x.0 ≡ true) × (x.0 < 2 ^ 16)
unfolding short
short_takes passes bytes x fits e = checked_takes w16 (2 ^ 16) wide16 passes bytes x fits e

pub short_again : (n : ℕ) (rest : List ℕ) → n < 2 ^ 16 → number_at w16 (short n ++ rest) ≡ Ok (n, rest)
unfolding short
short_again n rest lt = number_again w16 (2 ^ 16) wide16 n rest lt

pub short_passes : (passes : ℕ → Bool) (n : ℕ) (rest : List ℕ) → n < 2 ^ 16 → passes n ≡ true → checked_at w16 passes (short n ++ rest) ≡ Ok (n, rest)
unfolding short
short_passes passes n rest lt passed = checked_again w16 (2 ^ 16) wide16 passes n rest lt passed

pub number_is : (passes : ℕ → Bool) (bytes : List ℕ) (x : ℕ × List ℕ) → IsBytes bytes → checked_at w32 passes bytes ≡ Ok x → Takes bytes (number x.0) x.1 × (passes x.0 ≡ true) × (x.0 < 2 ^ 32)
unfolding number
number_is passes bytes x fits e = checked_takes w32 (2 ^ 32) wide32 passes bytes x fits e

pub number_reads : (n : ℕ) (rest : List ℕ) → n < 2 ^ 32 → number_at w32 (number n ++ rest) ≡ Ok (n, rest)
unfolding number
number_reads n rest lt = number_again w32 (2 ^ 32) wide32 n rest lt

pub number_passes : (passes : ℕ → Bool) (n : ℕ) (rest : List ℕ) → n < 2 ^ 32 → passes n ≡ true → checked_at w32 passes (number n ++ rest) ≡ Ok (n, rest)
unfolding number
number_passes passes n rest lt passed = checked_again w32 (2 ^ 32) wide32 passes n rest lt passed

-- two numbers that are spelled alike are one
pub short_one : (m n : ℕ) → m < 2 ^ 16 → n < 2 ^ 16 → short m ≡ short n → m ≡ n
unfolding short
short_one m n lt less e = sym (wide16.again m lt) ∙ ap (from_le_bytes w16) e ∙ wide16.again n less

pub number_one : (m n : ℕ) → m < 2 ^ 32 → n < 2 ^ 32 → number m ≡ number n → m ≡ n
unfolding number
number_one m n lt less e = sym (wide32.again m lt) ∙ ap (from_le_bytes w32) e ∙ wide32.again n less

-- ---- entries

pub bytes_front : (xs rest : List ℕ) → IsBytes (xs ++ rest) → IsBytes xs
bytes_front xs rest h i =
    elim (cases_lt i (length xs)) [
      | inl lt ↦ rw (sym (get_or_append_left xs rest 0 i lt)) (h i)
      | inr le ↦ rw (get_or_past xs i 0 le) (omega arith)
    ]

pub record Taken (most : ℕ) (known : List (List ℕ)) (bytes : List ℕ) (x : List ℕ × List ℕ) : Type 0 where
  pub takes : Takes bytes (text x.0) x.1
  pub short : length x.0 ≤ most
  pub bytes_fit : IsBytes x.0

pub text_takes : (most : ℕ) (known : List (List ℕ)) (bytes : List ℕ) (x : List ℕ × List ℕ) → IsBytes bytes → text_at most known bytes ≡ Ok x → Taken most known bytes x
unfolding text_at text
text_takes most known bytes x fits e =
    let b = bind_ok (checked_at w32 (is_length most known) bytes) (λ len. bytes_at len.0 len.1) x e in
    let t = number_is (is_length most known) bytes b.0 fits b.1 in
    let s = bytes_takes b.0.0 b.0.1 x t.0.rest_fits b.2 in
    let len : b.0.0 ≡ length x.0 = sym s.1 in
    record {
      takes = subst (λ (k : ℕ). Takes bytes (number k ++ x.0) x.1) len (Takes-then bytes (number b.0.0) b.0.1 x.0 x.1 t.0 s.0);
      short = omega (arith, (within_length most known b.0.0 t.1).0, s.1);
      bytes_fit = bytes_front x.0 x.1 (subst IsBytes s.0.parts t.0.rest_fits);
    }

pub text_again : (most : ℕ) (known : List (List ℕ)) (x rest : List ℕ) → length x < 2 ^ 32 → is_length most known (length x) ≡ true → text_at most known (text x ++ rest) ≡ Ok (x, rest)
unfolding text_at text
text_again most known x rest lt stands =
    let split : (number (length x) ++ x) ++ rest ≡ number (length x) ++ (x ++ rest) = append_assoc (number (length x)) x rest in
    ap (λ (b : List ℕ). checked_at w32 (is_length most known) b >>= λ len. bytes_at len.0 len.1) split
    ∙ (then_is (checked_at w32 (is_length most known) (number (length x) ++ (x ++ rest))) (λ len. bytes_at len.0 len.1) (length x, x ++ rest) (number_passes (is_length most known) (length x) (x ++ rest) lt stands)
    ∙ bytes_again x rest)

pub length-text : (bytes : List ℕ) → length (text bytes) ≡ 4 + length bytes
unfolding text
length-text bytes = omega (arith, length-append (number (length bytes)) bytes, length-number (length bytes))

-- ---- the fields, one after the other

pub concat_entries : (ds tail : List (List ℕ)) → concat (flat_map entry ds ++ tail) ≡ flat_map text ds ++ concat tail
unfolding text
concat_entries [] tail = refl
concat_entries (d ∷ ds) tail =
    ap (λ (t : List ℕ). number (length d) ++ (d ++ t)) (concat_entries ds tail)
    ∙ (sym (append_assoc (number (length d)) d (flat_map text ds ++ concat tail)) ∙ sym (append_assoc (number (length d) ++ d) (flat_map text ds) (concat tail)))

pub concat_codes : (ds items : List (List ℕ)) → concat (map (code ds) items) ≡ flat_map (code ds) items
concat_codes ds [] = refl
concat_codes ds (x ∷ items) = ap (λ (t : List ℕ). code ds x ++ t) (concat_codes ds items)

pub concat_block : (ds items : List (List ℕ)) → concat (block ds items) ≡ (short (length ds) ++ flat_map text ds) ++ flat_map (code ds) items
concat_block ds items =
    ap (λ (t : List ℕ). short (length ds) ++ t) (concat_entries ds (map (code ds) items) ∙ ap (λ (t : List ℕ). flat_map text ds ++ t) (concat_codes ds items))
    ∙ sym (append_assoc (short (length ds)) (flat_map text ds) (flat_map (code ds) items))

pub spelling_is : (items : List (List ℕ)) → spelling items ≡ (short (length (dictionary items)) ++ flat_map text (dictionary items)) ++ flat_map (code (dictionary items)) items
unfolding spelling
spelling_is items = concat_block (dictionary items) items
