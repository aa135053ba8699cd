-- Key cells are read from their spelling.
use Rattle.std.proofs.Common.{◌≡◌, ℕ, ◌*◌, ◌^◌, ◌<◌, ℤ, pos, negsuc, ◌-ℤ◌, Bool, true, false, cond, eqb, List, [], ◌∷◌, ◌++◌, take, drop, length, refl, sym, ap, ◌∙◌, arith}
use Rattle.std.specs.Int.{Width, w8, w16, w32, w64, byte_len, to_be_bytes, from_be_bytes}
use Rattle.std.proofs.lemmas.Bool.{false≢true, ltb-true, eqb-true}
use Rattle.std.proofs.lemmas.Nat.{from_be_bytes-to_be_bytes_2, from_be_bytes-to_be_bytes_4, from_be_bytes-to_be_bytes_8}
use Rattle.std.proofs.lemmas.Int.{ints}
use Rattle.std.proofs.lemmas.List.{append-nil, take_at, drop_at}
use Rattle.kt_base.specs.declared.cell.Kind.{Kind}
use Rattle.kt_base.specs.declared.cell.Kind.TheVariants as kind
use Rattle.kt_base.specs.declared.cell.Cell.{Cell}
use Rattle.kt_base.specs.declared.cell.Cell.TheVariants as cell
use Rattle.kt_base.specs.Keys.{width_of, half_of, raised, number_key, number_of_key, escaped, unescaped, after_text, last_cell, first_cell, after_first, key_cells}
use Rattle.kt_key.specs.Fit.{in_range, is_key}
use Rattle.kt_key.specs.Spelling.{inner_spelling, last_spelling, spelling}
use Rattle.kt_key.proofs.Numbers.{raised-lt}
use Rattle.kt_key.proofs.Orders.{KeyCell, a_number, a_text}
use Rattle.kt_key.proofs.Kept.{first_cell as key_cell_of}
use Rattle.kt_key.proofs.Steps.{is_key_more}
use Rattle.kt_key.specs.Reading.{Spells}

-- ---- texts

plain : (b : ℕ) (text rest : List ℕ) → eqb b 0 ≡ false → (unescaped (b ∷ (escaped text ++ rest)) ≡ b ∷ unescaped (escaped text ++ rest)) × (after_text (b ∷ (escaped text ++ rest)) ≡ after_text (escaped text ++ rest))
plain b [] rest is = (rw is refl, rw is refl)
plain b (c ∷ text) rest is = (rw is refl, rw is refl)

text_again : (text rest : List ℕ) → (unescaped (escaped text ++ rest) ≡ text) × (after_text (escaped text ++ rest) ≡ rest)
text_again [] rest = (refl, refl)
text_again (b ∷ text) rest = by (text_again text rest) (eqb b 0) refl
  where
    front : Bool → List ℕ
    front zero_byte = b ∷ (cond zero_byte (1 ∷ escaped text) (escaped text) ++ rest)

    by : (unescaped (escaped text ++ rest) ≡ text) × (after_text (escaped text ++ rest) ≡ rest) → (e : Bool) → eqb b 0 ≡ e → (unescaped (front e) ≡ b ∷ text) × (after_text (front e) ≡ rest)
    by more true is =
        let zero_is : b ≡ 0 = eqb-true b 0 is in
        (rw is (ap (λ bytes. 0 ∷ bytes) more.0 ∙ ap (λ n. n ∷ text) (sym zero_is)), rw is more.1)
    by more false is =
        let p = plain b text rest is in
        (p.0 ∙ ap (λ bytes. b ∷ bytes) more.0, p.1 ∙ more.1)

-- ---- numbers

lowered : (half : ℕ) (n : ℤ) → in_range half n ≡ true → (pos (raised half n) -ℤ pos half) ≡ n
lowered half (pos n) h = omega (arith, ints)
lowered half (negsuc n) h = let lt : n < half = ltb-true n half h in omega (arith, ints, lt)

one_byte : (n : ℕ) → n < 2 ^ 8 → from_be_bytes w8 (to_be_bytes w8 n) ≡ n
one_byte n lt = omega (arith, lt)

by_width : (w : Width) (again : (m : ℕ) → m < 2 * half_of w → from_be_bytes w (to_be_bytes w m) ≡ m) (long : (m : ℕ) → length (to_be_bytes w m) ≡ byte_len w) (n : ℤ) (rest : List ℕ)
    → in_range (half_of w) n ≡ true → (number_of_key w (number_key w n ++ rest) ≡ n) × (drop (byte_len w) (number_key w n ++ rest) ≡ rest)
by_width w again long n rest h =
    let r : ℕ = raised (half_of w) n in
    let front : take (byte_len w) (to_be_bytes w r ++ rest) ≡ to_be_bytes w r = take_at (to_be_bytes w r) rest (byte_len w) (long r) in
    let back : from_be_bytes w (to_be_bytes w r) ≡ r = again r (raised-lt (half_of w) n h) in
    (ap (λ bytes. pos (from_be_bytes w bytes) -ℤ pos (half_of w)) front ∙ ap (λ m. pos m -ℤ pos (half_of w)) back ∙ lowered (half_of w) n h, drop_at (to_be_bytes w r) rest (byte_len w) (long r))

number_again : (k : Kind) (n : ℤ) (rest : List ℕ) → in_range (half_of (width_of k)) n ≡ true
    → (number_of_key (width_of k) (number_key (width_of k) n ++ rest) ≡ n) × (drop (byte_len (width_of k)) (number_key (width_of k) n ++ rest) ≡ rest)
number_again kind.Bool n rest h = by_width w64 from_be_bytes-to_be_bytes_8 (λ m. refl) n rest h
number_again kind.Int8 n rest h = by_width w8 one_byte (λ m. refl) n rest h
number_again kind.Int16 n rest h = by_width w16 from_be_bytes-to_be_bytes_2 (λ m. refl) n rest h
number_again kind.Int32 n rest h = by_width w32 from_be_bytes-to_be_bytes_4 (λ m. refl) n rest h
number_again kind.Int64 n rest h = by_width w64 from_be_bytes-to_be_bytes_8 (λ m. refl) n rest h
number_again kind.String n rest h = by_width w64 from_be_bytes-to_be_bytes_8 (λ m. refl) n rest h
number_again kind.Binary n rest h = by_width w64 from_be_bytes-to_be_bytes_8 (λ m. refl) n rest h

-- ---- cells

first_again : (k : Kind) (c : Cell) (rest : List ℕ) → KeyCell k c → (first_cell k (inner_spelling k c ++ rest) ≡ c) × (after_first k (inner_spelling k c ++ rest) ≡ rest)
first_again k c rest (a_number n no_text range) = let a = number_again k n rest range in (rw no_text (ap cell.Int a.0), rw no_text a.1)
first_again k c rest (a_text text is) = let a = text_again text rest in (rw is (ap cell.Bytes a.0), rw is a.1)

last_again : (k : Kind) (c : Cell) → KeyCell k c → last_cell k (last_spelling k c) ≡ c
last_again k c (a_number n no_text range) = rw no_text (ap (λ bytes. cell.Int (number_of_key (width_of k) bytes)) (sym (append-nil (number_key (width_of k) n))) ∙ ap cell.Int (number_again k n [] range).0)
last_again k c (a_text text is) = rw is refl

cells_again : (kinds : List Kind) (cells : List Cell) → is_key kinds cells ≡ true → key_cells kinds (spelling kinds cells) ≡ cells
cells_again [] [] h = refl
cells_again [] (c ∷ cells) h = absurd (false≢true h)
cells_again (k ∷ kinds) [] h = absurd (false≢true h)
cells_again (k ∷ []) (c ∷ []) h = ap (λ x. x ∷ []) (last_again k c (key_cell_of k [] c [] h))
cells_again (k ∷ []) (c ∷ d ∷ cells) h = absurd (false≢true (is_key_more k [] c (d ∷ cells) h).1)
cells_again (k ∷ next ∷ kinds) (c ∷ cells) h =
    let rest : List ℕ = spelling (next ∷ kinds) cells in
    let a = first_again k c rest (key_cell_of k (next ∷ kinds) c cells h) in
    ap (λ x. x ∷ key_cells (next ∷ kinds) (after_first k (inner_spelling k c ++ rest))) a.0
    ∙ ap (λ bytes. c ∷ key_cells (next ∷ kinds) bytes) a.1
    ∙ ap (λ xs. c ∷ xs) (cells_again (next ∷ kinds) cells (is_key_more k (next ∷ kinds) c cells h).1)

-- what key cells are spelled as, they are read from
pub keys_again : (kinds : List Kind) (cells : List Cell) (bytes : List ℕ) → Spells kinds cells bytes → key_cells kinds bytes ≡ cells
keys_again kinds cells bytes spells = ap (key_cells kinds) (sym spells.spelled) ∙ cells_again kinds cells spells.key
