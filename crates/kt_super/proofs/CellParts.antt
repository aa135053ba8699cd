-- Cells as a part of the format.
use Rattle.std.proofs.Common.{◌≡◌, ℕ, zero, suc, ◌^◌, ◌<◌, Bool, true, false, eqb, List, [], ◌∷◌, ◌++◌, length, Option, Some, None, Result, Ok, refl, ap, arith, cond}
use Rattle.std.specs.Prelude.{ℤ, FitsSigned, is_some, IfSome}
use Rattle.std.specs.List.{concat}
use Rattle.std.specs.Int.{w8, w32, w64, to_le_bytes, cast_signed, cast_unsigned}
use Rattle.std.proofs.lemmas.Bool.{ltb-true}
use Rattle.std.proofs.lemmas.List.{append-nil}
use Rattle.std.proofs.Math.Facts.{sfits_to_z, of_z-to_z, Fits-of_lt, Fits-of_z, to_z-of_z}
use Rattle.kt_base.specs.declared.cell.Cell.{Cell}
use Rattle.kt_base.specs.declared.cell.Cell.TheVariants as cell
use Rattle.kt_bytes.specs.Reading.{◌>>=◌, number_at, checked_at, bytes_at}
use Rattle.kt_bytes.proofs.Numbers.{wide8, wide32, wide64}
use Rattle.kt_bytes.proofs.Formats.{Part}
use Rattle.kt_bytes.proofs.Leaves.{Passes, number_fields, number_part, any_number, IsText, any_text, text_fields}
use Rattle.kt_bytes.proofs.Joins.{both_part, same_part, made_at, made_as, given_part}
use Rattle.kt_super.specs.Columns.{FitsCell, bit, spelled_cell, spelled_default, has_default, is_tag, is_bit, text_at, cell_by, cell_at, default_at}
use Rattle.kt_super.specs.Fields.{cell_fields, default_fields}

-- ---- bytes behind their length

text_fields_of : List ℕ → List (List ℕ)
text_fields_of text = to_le_bytes w32 (length text) ∷ text ∷ []

text_part : Part text_at text_fields_of (λ text. length text < 2 ^ 32)
unfolding text_at text_fields_of
text_part =
    same_part text_at text_fields_of text_fields_of (λ text. Passes (λ n. true) (2 ^ 32) (length text) × IsText (length text) (λ t. false) text) (λ text. length text < 2 ^ 32)
    (λ text f. f.0.1) (λ text lt. ((refl, lt), (refl, refl))) (λ text f. refl)
    (both_part (number_at w32) (number_fields w32) (Passes (λ n. true) (2 ^ 32)) bytes_at text_fields (λ n. IsText n (λ t. false)) (λ text. length text)
    (λ n text f. f.1) (any_number w32 (2 ^ 32) wide32 (omega arith) (omega arith)) (λ n f. any_text n))

-- ---- what stands behind a tag

tag_of : Cell → ℕ
tag_of cell.Null = 0
tag_of (cell.Bool b) = 1
tag_of (cell.Int z) = 2
tag_of (cell.Bytes text) = 3

value_fields : Cell → List (List ℕ)
value_fields cell.Null = []
value_fields (cell.Bool b) = to_le_bytes w8 (bit b) ∷ []
value_fields (cell.Int z) = to_le_bytes w64 (cast_unsigned w64 z) ∷ []
value_fields (cell.Bytes text) = to_le_bytes w32 (length text) ∷ text ∷ []

IsOf : ℕ → Cell → Type 0
IsOf tag c = FitsCell c × (tag_of c ≡ tag)

bit_of : Cell → ℕ
bit_of cell.Null = 0
bit_of (cell.Bool b) = bit b
bit_of (cell.Int z) = 0
bit_of (cell.Bytes text) = 0

number_of : Cell → ℕ
number_of cell.Null = 0
number_of (cell.Bool b) = 0
number_of (cell.Int z) = cast_unsigned w64 z
number_of (cell.Bytes text) = 0

text_of : Cell → List ℕ
text_of cell.Null = []
text_of (cell.Bool b) = []
text_of (cell.Int z) = []
text_of (cell.Bytes text) = text

bit_back : (n : ℕ) → is_bit n ≡ true → bit (eqb n 1) ≡ n
bit_back zero is = refl
bit_back (suc zero) is = refl
bit_back (suc (suc n)) is = absurd (omega (arith, ltb-true (suc (suc n)) 2 is))

bit_is : (b : Bool) → (is_bit (bit b) ≡ true) × (bit b < 2 ^ 8) × (eqb (bit b) 1 ≡ b)
bit_is true = (refl, omega arith, refl)
bit_is false = (refl, omega arith, refl)

unsigned_fits : (z : ℤ) → FitsSigned w64 z → cast_unsigned w64 z < 2 ^ 64
unsigned_fits z fits = let h = Fits-of_z {w = w64} {z = z} fits in omega (arith, h)

null_part : Part (λ bytes. Ok (cell.Null, bytes)) value_fields (IsOf 0)
unfolding value_fields IsOf tag_of
null_part = given_part cell.Null value_fields (IsOf 0) (tt, refl) only refl
  where
    only : (c : Cell) → IsOf 0 c → cell.Null ≡ c
    only cell.Null f = refl
    only (cell.Bool b) f = absurd (omega (arith, f.1))
    only (cell.Int z) f = absurd (omega (arith, f.1))
    only (cell.Bytes text) f = absurd (omega (arith, f.1))

bool_part : Part (made_at (checked_at w8 is_bit) (λ n. cell.Bool (eqb n 1))) value_fields (IsOf 1)
unfolding value_fields IsOf tag_of bit_of
bool_part =
    made_as (checked_at w8 is_bit) (number_fields w8) (Passes is_bit (2 ^ 8)) (λ n. cell.Bool (eqb n 1)) bit_of value_fields (IsOf 1) (λ n f. bit_back n f.0) (λ n f. (tt, refl)) from (λ n f. ap (λ (k : ℕ). number_fields w8 k) (bit_back n f.0))
    (number_part w8 (2 ^ 8) wide8 is_bit (omega arith) 0 refl (omega arith))
  where
    from : (c : Cell) → IsOf 1 c → Passes is_bit (2 ^ 8) (bit_of c) × (cell.Bool (eqb (bit_of c) 1) ≡ c)
    from cell.Null f = absurd (omega (arith, f.1))
    from (cell.Bool b) f = let is = bit_is b in ((is.0, is.1), ap (λ (x : Bool). cell.Bool x) is.2)
    from (cell.Int z) f = absurd (omega (arith, f.1))
    from (cell.Bytes text) f = absurd (omega (arith, f.1))

int_part : Part (made_at (number_at w64) (λ n. cell.Int (cast_signed w64 n))) value_fields (IsOf 2)
unfolding value_fields IsOf tag_of number_of
int_part =
    made_as (number_at w64) (number_fields w64) (Passes (λ n. true) (2 ^ 64)) (λ n. cell.Int (cast_signed w64 n)) number_of value_fields (IsOf 2) back goes from (λ n f. ap (λ (k : ℕ). number_fields w64 k) (back n f))
    (any_number w64 (2 ^ 64) wide64 (omega arith) (omega arith))
  where
    back : (n : ℕ) → Passes (λ n. true) (2 ^ 64) n → cast_unsigned w64 (cast_signed w64 n) ≡ n
    back n f = of_z-to_z {w = w64} {n = n} (Fits-of_lt {w = w64} {n = n} f.1)

    goes : (n : ℕ) → Passes (λ n. true) (2 ^ 64) n → IsOf 2 (cell.Int (cast_signed w64 n))
    goes n f = (sfits_to_z {w = w64} {n = n} (Fits-of_lt {w = w64} {n = n} f.1), refl)

    from : (c : Cell) → IsOf 2 c → Passes (λ n. true) (2 ^ 64) (number_of c) × (cell.Int (cast_signed w64 (number_of c)) ≡ c)
    from cell.Null f = absurd (omega (arith, f.1))
    from (cell.Bool b) f = absurd (omega (arith, f.1))
    from (cell.Int z) f = ((refl, unsigned_fits z f.0), ap (λ (y : ℤ). cell.Int y) (to_z-of_z {w = w64} {z = z} f.0))
    from (cell.Bytes text) f = absurd (omega (arith, f.1))

bytes_part : Part (made_at text_at (λ t. cell.Bytes t)) value_fields (IsOf 3)
unfolding value_fields IsOf tag_of text_of text_fields_of
bytes_part = made_as text_at text_fields_of (λ text. length text < 2 ^ 32) (λ t. cell.Bytes t) text_of value_fields (IsOf 3) (λ t f. refl) (λ t f. (f, refl)) from (λ t f. refl) text_part
  where
    from : (c : Cell) → IsOf 3 c → (length (text_of c) < 2 ^ 32) × (cell.Bytes (text_of c) ≡ c)
    from cell.Null f = absurd (omega (arith, f.1))
    from (cell.Bool b) f = absurd (omega (arith, f.1))
    from (cell.Int z) f = absurd (omega (arith, f.1))
    from (cell.Bytes text) f = (f.0, refl)

value_part : (tag : ℕ) → Passes is_tag (2 ^ 8) tag → Part (cell_by tag) value_fields (IsOf tag)
unfolding cell_by
value_part zero f = null_part
value_part (suc zero) f = bool_part
value_part (suc (suc zero)) f = int_part
value_part (suc (suc (suc zero))) f = bytes_part
value_part (suc (suc (suc (suc n)))) f = absurd (omega (arith, ltb-true (suc (suc (suc (suc n)))) 4 f.0))

-- ---- cells

tag_fits : (c : Cell) → Passes is_tag (2 ^ 8) (tag_of c)
unfolding tag_of
tag_fits cell.Null = (refl, omega arith)
tag_fits (cell.Bool b) = (refl, omega arith)
tag_fits (cell.Int z) = (refl, omega arith)
tag_fits (cell.Bytes text) = (refl, omega arith)

cell_is : (c : Cell) → cell_fields c ≡ to_le_bytes w8 (tag_of c) ∷ value_fields c
unfolding tag_of value_fields
cell_is cell.Null = refl
cell_is (cell.Bool b) = refl
cell_is (cell.Int z) = refl
cell_is (cell.Bytes text) = refl

pub cell_part : Part cell_at cell_fields FitsCell
unfolding cell_at IsOf
cell_part =
    same_part cell_at (λ c. to_le_bytes w8 (tag_of c) ∷ value_fields c) cell_fields (λ c. Passes is_tag (2 ^ 8) (tag_of c) × IsOf (tag_of c) c) FitsCell (λ c f. f.1.0) (λ c f. (tag_fits c, (f, refl))) (λ c f. cell_is c)
    (both_part (checked_at w8 is_tag) (number_fields w8) (Passes is_tag (2 ^ 8)) cell_by value_fields IsOf tag_of (λ tag c f. f.1) (number_part w8 (2 ^ 8) wide8 is_tag (omega arith) 0 refl (omega arith)) (λ tag f. value_part tag f))

pub cell_spelled : (c : Cell) → concat (cell_fields c) ≡ spelled_cell c
cell_spelled cell.Null = append-nil (to_le_bytes w8 0)
cell_spelled (cell.Bool b) = ap (λ (l : List ℕ). to_le_bytes w8 1 ++ l) (append-nil (to_le_bytes w8 (bit b)))
cell_spelled (cell.Int z) = ap (λ (l : List ℕ). to_le_bytes w8 2 ++ l) (append-nil (to_le_bytes w64 (cast_unsigned w64 z)))
cell_spelled (cell.Bytes text) = ap (λ (l : List ℕ). to_le_bytes w8 3 ++ (to_le_bytes w32 (length text) ++ l)) (append-nil text)

-- ---- defaults

-- a default, where flags say that there is one
abbrev pub DefaultFits : Bool → Option Cell → Type 0
DefaultFits has d = (is_some d ≡ has) × IfSome d FitsCell

abbrev default_by : Bool → List ℕ → Result (Option Cell × List ℕ) ℕ
default_by has bytes = cond has (cell_at bytes >>= λ c. Ok (Some c.0, c.1)) (Ok (None, bytes))

some_cell : Option Cell → Cell
some_cell None = cell.Null
some_cell (Some c) = c

default_by_part : (has : Bool) → Part (default_by has) default_fields (DefaultFits has)
unfolding some_cell
default_by_part true = made_as cell_at cell_fields FitsCell (λ c. Some c) some_cell default_fields (DefaultFits true) (λ c f. refl) (λ c f. (refl, f)) from (λ c f. refl) cell_part
  where
    from : (d : Option Cell) → DefaultFits true d → FitsCell (some_cell d) × (Some (some_cell d) ≡ d)
    from None f = absurd (let e = f.0 in cc)
    from (Some c) f = (f.1, refl)
default_by_part false = given_part None default_fields (DefaultFits false) (refl, tt) only refl
  where
    only : (d : Option Cell) → DefaultFits false d → None ≡ d
    only None f = refl
    only (Some c) f = absurd (let e = f.0 in cc)

pub default_part : (flags : ℕ) → Part (default_at flags) default_fields (DefaultFits (has_default flags))
unfolding default_at
default_part flags = default_by_part (has_default flags)

pub default_spelled : (d : Option Cell) → concat (default_fields d) ≡ spelled_default d
default_spelled None = refl
default_spelled (Some c) = cell_spelled c
