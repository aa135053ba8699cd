-- The first fault of bytes that are not n numbers of a width.
use Rattle.std.proofs.Common.{◌≡◌, ◌⊎◌, ℕ, zero, suc, ◌+◌, ◌-◌, ◌*◌, ◌/◌, ◌%◌, ◌^◌, ◌<◌, ◌≤◌, List, [], ◌∷◌, ◌++◌, length, take, drop, map, get_or, replicate, ℤ, pos, refl, sym, ap, ◌∙◌, subst, arith, inl, inr}
use Rattle.std.specs.Prelude.{All}
use Rattle.std.specs.List.{concat}
use Rattle.std.specs.Int.{w8, cast_unsigned}
use Rattle.std.proofs.Math.Nat.{mul-le-mul_right}
use Rattle.std.proofs.lemmas.Bool.{cases_lt}
use Rattle.std.proofs.lemmas.Nat.{div-add-mod', mod_below}
use Rattle.std.proofs.lemmas.List.{append_assoc, get_or-drop, get_or-take, length-append, length-drop, length-map, length-replicate, length-take, map-append, take-append-drop, take_all}
use Rattle.std.proofs.lemmas.List.Elements.{All-append, All-nil, All-cons, All-head, All-tail}
use Rattle.kt_bytes.specs.Places.{Begins, GoesOn, Delimited}
use Rattle.kt_bytes.proofs.Numbers.{IsBytes}
use Rattle.kt_bytes.proofs.Fronts.{concat-map, map_split, IsWhole}
use Rattle.kt_plain.specs.declared.widths.NumberWidth.{NumberWidth}
use Rattle.kt_plain.specs.declared.widths.NumberWidth.TheVariants.{Bit, One, Two, Four, Eight}
use Rattle.kt_plain.specs.declared.widths.Width.TheVariants as widths
use Rattle.kt_plain.specs.declared.items.Items.{Items}
use Rattle.kt_plain.specs.declared.items.Items.TheVariants.{Numbers, Texts}
use Rattle.kt_plain.specs.Widths.{field_len, number, IsInWidth, values}
use Rattle.kt_plain.specs.Spelling.{Fits, fields, Spelled}
use Rattle.kt_plain.specs.Items.{count}
use Rattle.kt_plain.specs.Reading.{IsSpelling, IsAtFault, IsFirstAbove}
use Rattle.kt_plain.proofs.Fields.{AreFields, exact, zero_in_width, length-values, made}

-- where all bytes of bits are 0 or 1, each field may be a number's
pub fields_of : (w : NumberWidth) (n : ℕ) (bytes : List ℕ) → (w ≡ Bit → (i : ℕ) → i < n → get_or bytes i 0 < 2) → AreFields w n bytes
fields_of Bit n bytes bits i lt =
    let at : 1 * i + 0 ≡ i = omega arith in
    rw (get_or-drop (1 * i) bytes 0 0, at) (bits refl i lt)
fields_of One n bytes bits i lt = tt
fields_of Two n bytes bits i lt = tt
fields_of Four n bytes bits i lt = tt
fields_of Eight n bytes bits i lt = tt

-- numbers, up to so many, begin a spelling of so many
pub numbers_begin : (w : NumberWidth) (n : ℕ) (zs : List ℤ) → All (IsInWidth w) zs → length zs ≤ n → n < 2 ^ 32 → Begins (Spelled (widths.Numbers w) n) (map (number w) zs)
numbers_begin w n zs fit le few =
    let more : List ℤ = replicate (n - length zs) (pos 0) in
    let len : length (zs ++ more) ≡ n = omega (arith, length-append zs more, length-replicate {A = ℤ} (n - length zs) (pos 0)) in
    let all : All (IsInWidth w) (zs ++ more) = All-append (IsInWidth w) zs more fit (zeros w (n - length zs)) in (
      map (number w) more,
      record { items = Numbers (zs ++ more); fits = (subst (λ (k : ℕ). k < 2 ^ 32) (sym len) few, all); counted = len; spelled = sym (map-append (number w) zs more) },
    )
  where
    zeros : (w : NumberWidth) (k : ℕ) → All (IsInWidth w) (replicate k (pos 0))
    zeros w zero = All-nil (IsInWidth w)
    zeros w (suc k) = All-cons (IsInWidth w) (pos 0) (replicate k (pos 0)) (zero_in_width w) (zeros w k)

-- a field that goes on is a number's, and less than n stand in front of it
pub record OneMore (w : NumberWidth) (n : ℕ) (front : List (List ℕ)) (field : List ℕ) : Type 0 where
  pub z : ℤ
  pub fit : IsInWidth w z
  pub is : field ≡ number w z
  pub before : length front < n

pub one_more : (w : NumberWidth) (n : ℕ) (front : List (List ℕ)) (field : List ℕ) → GoesOn (Spelled (widths.Numbers w) n) front field → OneMore w n front field
one_more w n front field (more, s) = of w n front field more s.items s.fits s.counted s.spelled
  where
    of : (w : NumberWidth) (n : ℕ) (front : List (List ℕ)) (field : List ℕ) (more : List (List ℕ)) (items : Items) → Fits (widths.Numbers w) items → count items ≡ n
        → (front ++ field ∷ []) ++ more ≡ fields (widths.Numbers w) items → OneMore w n front field
    of w n front field more (Texts ts) fits counted e = absurd fits
    of w n front field more (Numbers zs) fits counted e =
        let m = map_split (number w) zs front field more (sym e ∙ append_assoc front (field ∷ []) more) in
        let len : length zs ≡ length m.before + suc (length m.after) = ap (λ (xs : List ℤ). length xs) m.whole ∙ length-append m.before (m.at ∷ m.after) in
        let count_front : length front ≡ length m.before = ap (λ (xs : List (List ℕ)). length xs) (sym m.is_front) ∙ length-map m.before (number w) in
        record {
          z = m.at;
          fit = within w m.before m.at m.after (subst (λ (xs : List ℤ). All (IsInWidth w) xs) m.whole fits.1);
          is = sym m.is_field;
          before = omega (arith, len, count_front, counted);
        }
      where
        within : (w : NumberWidth) (before : List ℤ) (z : ℤ) (after : List ℤ) → All (IsInWidth w) (before ++ z ∷ after) → IsInWidth w z
        within w [] z after all = All-head (IsInWidth w) z after all
        within w (x ∷ before) z after all = within w before z after (All-tail (IsInWidth w) x (before ++ z ∷ after) all)

field_is : (w : NumberWidth) (n : ℕ) (front : List (List ℕ)) (field : List ℕ) → GoesOn (Spelled (widths.Numbers w) n) front field → length field ≡ field_len w
field_is w n front field on =
    let m = one_more w n front field on in
    ap (λ (xs : List ℕ). length xs) m.is ∙ (exact w).len m.z

pub numbers_delimited : (w : NumberWidth) (n : ℕ) → Delimited (Spelled (widths.Numbers w) n)
numbers_delimited w n front a b x y = field_is w n front a x ∙ sym (field_is w n front b y)

-- a whole spelling has n fields
pub count_spelled : (w : NumberWidth) (n : ℕ) (fs : List (List ℕ)) → Spelled (widths.Numbers w) n fs → length fs ≡ n
count_spelled w n fs s = of w n fs s.items s.fits s.counted s.spelled
  where
    of : (w : NumberWidth) (n : ℕ) (fs : List (List ℕ)) (items : Items) → Fits (widths.Numbers w) items → count items ≡ n → fs ≡ fields (widths.Numbers w) items → length fs ≡ n
    of w n fs (Texts ts) fits counted e = absurd fits
    of w n fs (Numbers zs) fits counted e = ap (λ (xs : List (List ℕ)). length xs) e ∙ length-map zs (number w) ∙ counted

pub numbers_whole : (w : NumberWidth) (n : ℕ) → IsWhole (Spelled (widths.Numbers w) n)
numbers_whole w n front field s on =
    let before = (one_more w n front field on).before in
    omega (arith, count_spelled w n front s, before)

-- ---- the numbers in the first fields, and what is behind them

pub record Front (w : NumberWidth) (i : ℕ) (bytes : List ℕ) (zs : List ℤ) : Type 0 where
  pub count : length zs ≡ i
  pub fit : All (IsInWidth w) zs
  pub joined : concat (map (number w) zs) ≡ take (i * field_len w) bytes
  pub len : length (concat (map (number w) zs)) ≡ i * field_len w
  pub parts : bytes ≡ concat (map (number w) zs) ++ drop (i * field_len w) bytes

pub front_of : (w : NumberWidth) (i : ℕ) (bytes : List ℕ) → i * field_len w ≤ length bytes → IsBytes bytes → AreFields w i bytes → Front w i bytes (values w i bytes)
front_of w i bytes le fits fields =
    let m = made w i bytes le fits fields in
    let joined : concat (map (number w) (values w i bytes)) ≡ take (i * field_len w) bytes = concat-map (number w) (values w i bytes) ∙ m.0 in
    record {
      count = length-values w i bytes;
      fit = m.1;
      joined = joined;
      len = ap (λ (xs : List ℕ). length xs) joined ∙ omega (arith, length-take (i * field_len w) bytes);
      parts = sym (take-append-drop (i * field_len w) bytes) ∙ ap (λ (xs : List ℕ). xs ++ drop (i * field_len w) bytes) (sym joined);
    }

-- bytes of the right length spell numbers
pub spelled_numbers : (w : NumberWidth) (n : ℕ) (bytes : List ℕ) → n < 2 ^ 32 → length bytes ≡ n * field_len w → IsBytes bytes
    → (w ≡ Bit → (i : ℕ) → i < n → get_or bytes i 0 < 2) → IsSpelling (widths.Numbers w) n bytes
spelled_numbers w n bytes few len fits bits =
    let m = made w n bytes (omega arith) fits (fields_of w n bytes bits) in
    let whole : take (n * field_len w) bytes ≡ bytes = take_all (n * field_len w) bytes (omega arith) in (
      Numbers (values w n bytes),
      record {
        fits = (subst (λ (k : ℕ). k < 2 ^ 32) (sym (length-values w n bytes)) few, m.1);
        counted = length-values w n bytes;
        spelled = sym (m.0 ∙ whole);
      },
    )

-- ---- the three faults

-- bytes are missing
pub fault_short : (w : NumberWidth) (n : ℕ) (bytes : List ℕ) → n < 2 ^ 32 → length bytes < n * field_len w → IsBytes bytes
    → (w ≡ Bit → (i : ℕ) → i < n → get_or bytes i 0 < 2) → IsAtFault (widths.Numbers w) n bytes (length bytes)
fault_short w n bytes few lt fits bits =
    let len : ℕ = field_len w in
    let some : 0 < len = (exact w).some in
    let i : ℕ = length bytes / len in
    let whole : i * len + length bytes % len ≡ length bytes = div-add-mod' (length bytes) len in
    let below : length bytes % len < len = mod_below (length bytes) len some in
    let less : i < n = lt_of_mul i n len (omega arith) in
    let f = front_of w i bytes (omega arith) fits (λ k kl. fields_of w n bytes bits k (omega arith)) in
    let zs : List ℤ = values w i bytes in
    let rest_len : length (drop (i * len) bytes) ≡ length bytes - i * len = length-drop (i * len) bytes in
    let on : GoesOn (Spelled (widths.Numbers w) n) (map (number w) zs) (number w (pos 0)) =
    let e : map (number w) (zs ++ pos 0 ∷ []) ≡ map (number w) zs ++ number w (pos 0) ∷ [] = map-append (number w) zs (pos 0 ∷ []) in
    let fit : All (IsInWidth w) (zs ++ pos 0 ∷ []) = All-append (IsInWidth w) zs (pos 0 ∷ []) f.fit (All-cons (IsInWidth w) (pos 0) [] (zero_in_width w) (All-nil (IsInWidth w))) in
    subst (Begins (Spelled (widths.Numbers w) n)) e (numbers_begin w n (zs ++ pos 0 ∷ []) fit (omega (arith, length-append zs (pos 0 ∷ []), f.count)) few) in
    record {
      front = map (number w) zs;
      rest = drop (i * len) bytes;
      parts = f.parts;
      begins = numbers_begin w n zs f.fit (omega (arith, f.count)) few;
      ends = λ field goes (more, e).
          let a = field_is w n (map (number w) zs) field goes in
          let b = ap (λ (xs : List ℕ). length xs) e ∙ length-append field more in
          omega (arith, a, b, rest_len);
      more = λ s.
          let c = count_spelled w n (map (number w) zs) s in
          omega (arith, c, length-map zs (number w), f.count);
      at = inl (number w (pos 0), on, omega (arith, (exact w).len (pos 0), rest_len), omega (arith, f.len, rest_len));
    }
  where
    lt_of_mul : (a b k : ℕ) → a * k < b * k → a < b
    lt_of_mul a b k lt = elim (cases_lt a b) [
      | inl less ↦ less
      | inr more ↦ let le : b * k ≤ a * k = mul-le-mul_right k more in absurd (omega arith)
    ]

-- bytes follow
pub fault_long : (w : NumberWidth) (n : ℕ) (bytes : List ℕ) → n < 2 ^ 32 → n * field_len w < length bytes → IsBytes bytes
    → (w ≡ Bit → (i : ℕ) → i < n → get_or bytes i 0 < 2) → IsAtFault (widths.Numbers w) n bytes (n * field_len w)
fault_long w n bytes few lt fits bits =
    let f = front_of w n bytes (omega arith) fits (fields_of w n bytes bits) in
    let zs : List ℤ = values w n bytes in
    let none : (field : List ℕ) → ¬ GoesOn (Spelled (widths.Numbers w) n) (map (number w) zs) field = λ field goes.
    let before = (one_more w n (map (number w) zs) field goes).before in
    omega (arith, before, length-map zs (number w), f.count) in
    record {
      front = map (number w) zs;
      rest = drop (n * field_len w) bytes;
      parts = f.parts;
      begins = numbers_begin w n zs f.fit (omega (arith, f.count)) few;
      ends = λ field goes stands. none field goes;
      more = λ s. omega (arith, length-drop (n * field_len w) bytes);
      at = inr ((λ field goes. absurd (none field goes)), sym f.len);
    }

-- a bit is neither 0 nor 1
pub fault_bit : (n : ℕ) (bytes : List ℕ) (at : ℕ) → n < 2 ^ 32 → at < n → at < length bytes → IsBytes bytes
    → ((i : ℕ) → i < at → get_or bytes i 0 < 2) → 1 < get_or bytes at 0 → IsAtFault (widths.Numbers Bit) n bytes at
fault_bit n bytes at few lt within fits bits above =
    let one : at * 1 ≡ at = omega arith in
    let f = front_of Bit at bytes (omega arith) fits (fields_of Bit at bytes (λ e. bits)) in
    let zs : List ℤ = values Bit at bytes in
    let rest : List ℕ = drop (at * 1) bytes in
    let first : get_or rest 0 0 ≡ get_or bytes at 0 = get_or-drop (at * 1) bytes 0 0 ∙ ap (λ (k : ℕ). get_or bytes k 0) (omega arith) in
    record {
      front = map (number Bit) zs;
      rest = rest;
      parts = f.parts;
      begins = numbers_begin Bit n zs f.fit (omega (arith, f.count)) few;
      ends = λ field goes (more, e).
          let m = one_more Bit n (map (number Bit) zs) field goes in
          let byte = ap (λ (xs : List ℕ). get_or xs 0 0) (e ∙ ap (λ (xs : List ℕ). xs ++ more) m.is) in
          let small = bit_below m.z m.fit in
          omega (arith, first, byte, small);
      more = λ s. omega (arith, length-drop (at * 1) bytes);
      at = inr ((λ field goes. omega (arith, field_is Bit n (map (number Bit) zs) field goes, length-drop (at * 1) bytes)), sym (f.len ∙ one));
    }
  where
    bit_below : (z : ℤ) → (z ≡ pos 0) ⊎ (z ≡ pos 1) → cast_unsigned w8 z < 2
    bit_below z (inl e) = rw e (omega arith)
    bit_below z (inr e) = rw e (omega arith)

-- the first bit that is neither, among the bytes of the fields
pub fault_bit_among : (n k : ℕ) (bytes : List ℕ) (at : ℕ) → n < 2 ^ 32 → k ≤ n → k ≤ length bytes → IsBytes bytes → IsFirstAbove (take k bytes) at → IsAtFault (widths.Numbers Bit) n bytes at
fault_bit_among n k bytes at few le within fits first =
    let inside : at < k = let lt = first.within in omega (arith, length-take k bytes) in
    fault_bit n bytes at few (omega arith) (omega arith) fits
    (λ i lt. subst (λ (b : ℕ). b < 2) (get_or-take k bytes i 0 (omega arith)) (first.before i lt))
    (subst (λ (b : ℕ). 1 < b) (get_or-take k bytes at 0 inside) first.above)
