-- Cells and lists of cells as parts of a format.
use Rattle.std.proofs.Common.{◌≡◌, ℕ, zero, suc, ◌+◌, ◌-◌, ◌^◌, ◌<◌, ◌≤◌, Bool, true, false, List, [], ◌∷◌, ◌++◌, length, Option, Some, None, Result, Ok, refl, sym, ap, ◌∙◌, arith}
use Rattle.std.specs.Prelude.{ℤ}
use Rattle.std.specs.List.{concat, flat_map}
use Rattle.std.specs.Int.{w16, w32, w64, to_le_bytes, cast_signed, cast_unsigned}
use Rattle.std.proofs.lemmas.List.{append-nil, length_push}
use Rattle.std.proofs.lemmas.Bool.{le-leb}
use Rattle.std.proofs.Math.Facts.{to_z-of_z, of_z-to_z, Fits-of_z, sfits_to_z, Fits-of_lt, Fits-lt-pow}
use Rattle.kt_base.specs.declared.cell.Cell.{Cell}
use Rattle.kt_base.specs.declared.cell.Cell.TheVariants as cells
use Rattle.kt_bytes.specs.Reading.{◌>>=◌, number_at, checked_at, bytes_at, counted_at, many_at}
use Rattle.kt_bytes.proofs.Numbers.{wide16, wide32, wide64}
use Rattle.kt_cells.specs.Spelling.{flag, cell, listed_cell, cell_list}
use Rattle.kt_cells.specs.Rules.{EachAfter, CellFits, next_id, FollowingCell, CellListFits}
use Rattle.kt_cells.specs.Fields.{cell_fields, listed_cell_fields, cell_list_fields}
use Rattle.kt_cells.specs.Reading.{flag_at, cell_at, is_next_id, listed_cell_at, cells_at}
use Rattle.kt_bytes.proofs.Formats.{Part}
use Rattle.kt_bytes.proofs.Leaves.{same_reader, Passes, number_fields, number_part, any_number, IsText, any_text, text_fields, byte_at_front, code_fields, code_part}
use Rattle.kt_bytes.proofs.Joins.{both_part, same_part, made_at, made_part, made_as, given_part, many_part, concat_items}

-- ---- bytes behind their count

-- bytes whose count has room in its field
abbrev pub counted_fields : List ℕ → List (List ℕ)
counted_fields text = to_le_bytes w32 (length text) ∷ text ∷ []

pub counted_part : Part (counted_at w32) counted_fields (λ text. length text < 2 ^ 32)
counted_part =
    same_part (counted_at w32) counted_fields counted_fields (λ text. Passes (λ n. true) (2 ^ 32) (length text) × IsText (length text) (λ t. false) text) (λ text. length text < 2 ^ 32)
    (λ text f. f.0.1) (λ text lt. ((refl, lt), (refl, refl))) (λ text f. refl)
    (both_part (number_at w32) (number_fields w32) (Passes (λ n. true) (2 ^ 32)) bytes_at text_fields (λ n. IsText n (λ t. false)) (λ text. length text)
    (λ n text f. f.1) (any_number w32 (2 ^ 32) wide32 (omega arith) (omega arith)) (λ n f. any_text n))

-- ---- a cell

data Tag : Type 0 where
  IsNull : Tag
  IsBool : Tag
  IsInt : Tag
  IsBytes : Tag

tag_byte : ℕ → Option Tag
tag_byte zero = Some IsNull
tag_byte (suc zero) = Some IsBool
tag_byte (suc (suc zero)) = Some IsInt
tag_byte (suc (suc (suc zero))) = Some IsBytes
tag_byte (suc (suc (suc (suc b)))) = None

tag_code : Tag → ℕ
tag_code IsNull = 0
tag_code IsBool = 1
tag_code IsInt = 2
tag_code IsBytes = 3

tag_of : Cell → Tag
tag_of cells.Null = IsNull
tag_of (cells.Bool b) = IsBool
tag_of (cells.Int n) = IsInt
tag_of (cells.Bytes text) = IsBytes

-- the fields behind the first
value_fields : Cell → List (List ℕ)
value_fields cells.Null = []
value_fields (cells.Bool b) = (flag b ∷ []) ∷ []
value_fields (cells.Int n) = to_le_bytes w64 (cast_unsigned w64 n) ∷ []
value_fields (cells.Bytes text) = to_le_bytes w32 (length text) ∷ text ∷ []

value_at : Tag → List ℕ → Result (Cell × List ℕ) ℕ
value_at IsNull bytes = Ok (cells.Null, bytes)
value_at IsBool bytes = made_at flag_at cells.Bool bytes
value_at IsInt bytes = made_at (number_at w64) (λ n. cells.Int (cast_signed w64 n)) bytes
value_at IsBytes bytes = made_at (counted_at w32) cells.Bytes bytes

IsOf : Tag → Cell → Type 0
IsOf tag c = CellFits c × (tag_of c ≡ tag)

flag_byte : ℕ → Option Bool
flag_byte zero = Some false
flag_byte (suc zero) = Some true
flag_byte (suc (suc b)) = None

flag_part : Part flag_at (code_fields flag) (λ b. Unit {0})
unfolding flag_at flag_byte
flag_part = same_reader (byte_at_front flag_byte) flag_at (code_fields flag) (λ b. Unit {0}) same (code_part flag_byte flag (λ b. Unit {0}) back there false tt (omega arith))
  where
    same : (bytes : List ℕ) → flag_at bytes ≡ byte_at_front flag_byte bytes
    same [] = refl
    same (zero ∷ rest) = refl
    same (suc zero ∷ rest) = refl
    same (suc (suc b) ∷ rest) = refl

    back : (b : ℕ) (v : Bool) → flag_byte b ≡ Some v → (flag v ≡ b) × Unit {0}
    back zero false e = (refl, tt)
    back zero true e = absurd cc
    back (suc zero) false e = absurd cc
    back (suc zero) true e = (refl, tt)
    back (suc (suc b)) v e = absurd cc

    there : (v : Bool) → Unit {0} → flag_byte (flag v) ≡ Some v
    there false f = refl
    there true f = refl

bool_of : Cell → Bool
bool_of cells.Null = false
bool_of (cells.Bool b) = b
bool_of (cells.Int n) = false
bool_of (cells.Bytes text) = false

number_of : Cell → ℕ
number_of cells.Null = 0
number_of (cells.Bool b) = 0
number_of (cells.Int n) = cast_unsigned w64 n
number_of (cells.Bytes text) = 0

text_of : Cell → List ℕ
text_of cells.Null = []
text_of (cells.Bool b) = []
text_of (cells.Int n) = []
text_of (cells.Bytes text) = text

value_part : (tag : Tag) → Part (value_at tag) value_fields (IsOf tag)
unfolding value_at value_fields IsOf tag_of bool_of number_of text_of
value_part IsNull = given_part cells.Null value_fields (IsOf IsNull) (tt, refl) only refl
  where
    only : (c : Cell) → IsOf IsNull c → cells.Null ≡ c
    only cells.Null f = refl
    only (cells.Bool b) f = let bad : IsBool ≡ IsNull = f.1 in absurd cc
    only (cells.Int n) f = let bad : IsInt ≡ IsNull = f.1 in absurd cc
    only (cells.Bytes text) f = let bad : IsBytes ≡ IsNull = f.1 in absurd cc
value_part IsBool = made_as flag_at (code_fields flag) (λ b. Unit {0}) cells.Bool bool_of value_fields (IsOf IsBool) (λ b f. refl) (λ b f. (tt, refl)) from (λ b f. refl) flag_part
  where
    from : (c : Cell) → IsOf IsBool c → Unit {0} × (cells.Bool (bool_of c) ≡ c)
    from cells.Null f = let bad : IsNull ≡ IsBool = f.1 in absurd cc
    from (cells.Bool b) f = (tt, refl)
    from (cells.Int n) f = let bad : IsInt ≡ IsBool = f.1 in absurd cc
    from (cells.Bytes text) f = let bad : IsBytes ≡ IsBool = f.1 in absurd cc
value_part IsInt =
    made_as (number_at w64) (number_fields w64) (Passes (λ n. true) (2 ^ 64)) (λ n. cells.Int (cast_signed w64 n)) number_of value_fields (IsOf IsInt) back goes from (λ n f. ap (λ (m : ℕ). number_fields w64 m) (back n f)) (any_number w64 (2 ^ 64) wide64 (omega arith) (omega arith))
  where
    back : (n : ℕ) → Passes (λ n. true) (2 ^ 64) n → cast_unsigned w64 (cast_signed w64 n) ≡ n
    back n f = of_z-to_z {w = w64} (Fits-of_lt {w = w64} f.1)

    goes : (n : ℕ) → Passes (λ n. true) (2 ^ 64) n → IsOf IsInt (cells.Int (cast_signed w64 n))
    goes n f = (sfits_to_z {w = w64} (Fits-of_lt {w = w64} f.1), refl)

    from : (c : Cell) → IsOf IsInt c → Passes (λ n. true) (2 ^ 64) (number_of c) × (cells.Int (cast_signed w64 (number_of c)) ≡ c)
    from cells.Null f = let bad : IsNull ≡ IsInt = f.1 in absurd cc
    from (cells.Bool b) f = let bad : IsBool ≡ IsInt = f.1 in absurd cc
    from (cells.Int n) f = ((refl, Fits-lt-pow {w = w64} (Fits-of_z {w = w64} f.0)), ap (λ (z : ℤ). cells.Int z) (to_z-of_z {w = w64} f.0))
    from (cells.Bytes text) f = let bad : IsBytes ≡ IsInt = f.1 in absurd cc
value_part IsBytes = made_as (counted_at w32) counted_fields (λ text. length text < 2 ^ 32) cells.Bytes text_of value_fields (IsOf IsBytes) (λ text f. refl) (λ text f. (f, refl)) from (λ text f. refl) counted_part
  where
    from : (c : Cell) → IsOf IsBytes c → (length (text_of c) < 2 ^ 32) × (cells.Bytes (text_of c) ≡ c)
    from cells.Null f = let bad : IsNull ≡ IsBytes = f.1 in absurd cc
    from (cells.Bool b) f = let bad : IsBool ≡ IsBytes = f.1 in absurd cc
    from (cells.Int n) f = let bad : IsInt ≡ IsBytes = f.1 in absurd cc
    from (cells.Bytes text) f = (f.0, refl)

some_is : (v u : Tag) → Some u ≡ Some v → v ≡ u
some_is v u e = cc

tag_part : Part (byte_at_front tag_byte) (code_fields tag_code) (λ t. Unit {0})
unfolding tag_byte tag_code
tag_part = code_part tag_byte tag_code (λ t. Unit {0}) back there IsNull tt (omega arith)
  where
    back : (b : ℕ) (v : Tag) → tag_byte b ≡ Some v → (tag_code v ≡ b) × Unit {0}
    back zero v e = (ap tag_code (some_is v IsNull e), tt)
    back (suc zero) v e = (ap tag_code (some_is v IsBool e), tt)
    back (suc (suc zero)) v e = (ap tag_code (some_is v IsInt e), tt)
    back (suc (suc (suc zero))) v e = (ap tag_code (some_is v IsBytes e), tt)
    back (suc (suc (suc (suc b)))) v e = absurd cc

    there : (v : Tag) → Unit {0} → tag_byte (tag_code v) ≡ Some v
    there IsNull f = refl
    there IsBool f = refl
    there IsInt f = refl
    there IsBytes f = refl

pub cell_part : Part cell_at cell_fields CellFits
unfolding cell_at value_at value_fields tag_of IsOf tag_code tag_byte
cell_part =
    same_reader (both_at_of tags) cell_at cell_fields CellFits same
    (same_part (both_at_of tags) (λ c. code_fields tag_code (tag_of c) ++ value_fields c) cell_fields (λ c. Unit {0} × IsOf (tag_of c) c) CellFits (λ c f. f.1.0) (λ c f. (tt, (f, refl))) fields
    (both_part tags (code_fields tag_code) (λ t. Unit {0}) value_at value_fields IsOf tag_of (λ t c f. f.1) tag_part (λ t f. value_part t)))
  where
    tags : List ℕ → Result (Tag × List ℕ) ℕ
    tags = byte_at_front tag_byte

    both_at_of : (List ℕ → Result (Tag × List ℕ) ℕ) → List ℕ → Result (Cell × List ℕ) ℕ
    both_at_of first bytes = first bytes >>= λ t. value_at t.0 t.1

    same : (bytes : List ℕ) → cell_at bytes ≡ both_at_of tags bytes
    same [] = refl
    same (zero ∷ rest) = refl
    same (suc zero ∷ rest) = refl
    same (suc (suc zero) ∷ rest) = refl
    same (suc (suc (suc zero)) ∷ rest) = refl
    same (suc (suc (suc (suc b))) ∷ rest) = refl

    fields : (c : Cell) → Unit {0} × IsOf (tag_of c) c → cell_fields c ≡ code_fields tag_code (tag_of c) ++ value_fields c
    fields cells.Null f = refl
    fields (cells.Bool b) f = refl
    fields (cells.Int n) f = refl
    fields (cells.Bytes text) f = refl

-- ---- cells of a list

-- above those before it, with ids left for the cells behind it
pub record NextCell (n : ℕ) (front : List (ℕ × Cell)) (c : ℕ × Cell) : Type 0 where
  pub follows : FollowingCell front c
  pub room : c.0 + (n - length front) ≤ 2 ^ 16

-- so many cells can stand behind these
record RoomFor (n k : ℕ) (front : List (ℕ × Cell)) : Type 0 where
  count : length front + k ≡ n
  ids : next_id front + k ≤ 2 ^ 16

pub next_id-push : (front : List (ℕ × Cell)) (c : ℕ × Cell) → next_id (front ++ c ∷ []) ≡ c.0 + 1
next_id-push [] c = refl
next_id-push (b ∷ []) c = refl
next_id-push (b ∷ d ∷ front) c = next_id-push (d ∷ front) c

id_test : (n : ℕ) (front : List (ℕ × Cell)) (id : ℕ) → next_id front ≤ id → id + (n - length front) ≤ 2 ^ 16 → is_next_id n front id ≡ true
id_test n front id above room = rw (le-leb (next_id front) id above, le-leb (id + (n - length front)) (2 ^ 16) room) refl

id_tested : (n : ℕ) (front : List (ℕ × Cell)) (id : ℕ) → is_next_id n front id ≡ true → (next_id front ≤ id) × (id + (n - length front) ≤ 2 ^ 16)
id_tested n front id e = grind arith

listed_cell_part : (n k : ℕ) (front : List (ℕ × Cell)) → RoomFor n (suc k) front → Part (listed_cell_at n front) listed_cell_fields (NextCell n front)
unfolding listed_cell_at
listed_cell_part n k front room =
    same_part (listed_cell_at n front) listed_cell_fields listed_cell_fields (λ c. Passes (is_next_id n front) (2 ^ 16) c.0 × (CellFits c.1 × ((c.0, c.1) ≡ c))) (NextCell n front) to from (λ c f. refl)
    (both_part (checked_at w16 (is_next_id n front)) (number_fields w16) (Passes (is_next_id n front) (2 ^ 16)) (λ id. made_at cell_at (with_id id)) (λ c. cell_fields c.1) (λ id c. CellFits c.1 × ((id, c.1) ≡ c)) (λ c. c.0) head
    (number_part w16 (2 ^ 16) wide16 (is_next_id n front) (omega arith) (next_id front) (id_test n front (next_id front) (omega arith) (omega (arith, room.count, room.ids))) (omega (arith, room.ids)))
    (λ id f. made_part cell_at cell_fields CellFits (with_id id) (λ c. c.1) (λ c g. refl) cell_part))
  where
    with_id : ℕ → Cell → ℕ × Cell
    with_id id c = (id, c)

    head : (id : ℕ) (c : ℕ × Cell) → CellFits c.1 × ((id, c.1) ≡ c) → c.0 ≡ id
    head id c g = sym (ap (λ (d : ℕ × Cell). d.0) g.1)

    to : (c : ℕ × Cell) → Passes (is_next_id n front) (2 ^ 16) c.0 × (CellFits c.1 × ((c.0, c.1) ≡ c)) → NextCell n front c
    to c f = let t = id_tested n front c.0 f.0.0 in record { follows = record { rising = t.0; id = f.0.1; cell = f.1.0 }; room = t.1 }

    from : (c : ℕ × Cell) → NextCell n front c → Passes (is_next_id n front) (2 ^ 16) c.0 × (CellFits c.1 × ((c.0, c.1) ≡ c))
    from c k = ((id_test n front c.0 k.follows.rising k.room, k.follows.id), (k.follows.cell, refl))

-- cells whose ids rise leave room for those behind them
rising_room : (front : List (ℕ × Cell)) (c : ℕ × Cell) (cells : List (ℕ × Cell)) → EachAfter FollowingCell front (c ∷ cells) → c.0 + length (c ∷ cells) ≤ 2 ^ 16
rising_room front c [] keeps = omega (arith, keeps.0.id)
rising_room front c (d ∷ cells) keeps =
    let behind = rising_room (front ++ c ∷ []) d cells keeps.1 in
    omega (arith, behind, keeps.1.0.rising, next_id-push front c)

each_has_room : (n : ℕ) (front cells : List (ℕ × Cell)) → length front + length cells ≡ n → EachAfter FollowingCell front cells → EachAfter (NextCell n) front cells
each_has_room n front [] len keeps = tt
each_has_room n front (c ∷ cells) len keeps =
    (record { follows = keeps.0; room = omega (arith, rising_room front c cells keeps, len) }, each_has_room n (front ++ c ∷ []) cells (omega (arith, len, length_push front c)) keeps.1)

each_follows : (n : ℕ) (front cells : List (ℕ × Cell)) → EachAfter (NextCell n) front cells → EachAfter FollowingCell front cells
each_follows n front [] keeps = tt
each_follows n front (c ∷ cells) keeps = (keeps.0.follows, each_follows n (front ++ c ∷ []) cells keeps.1)

-- so many cells by rising id
abbrev pub RisingCells : ℕ → List (ℕ × Cell) → Type 0
RisingCells n cells = (length cells ≡ n) × EachAfter FollowingCell [] cells

pub counted_cells_part : (n : ℕ) → n < 2 ^ 16 → Part (many_at (listed_cell_at n) n []) (flat_map listed_cell_fields) (RisingCells n)
counted_cells_part n lt =
    same_part (many_at (listed_cell_at n) n []) (flat_map listed_cell_fields) (flat_map listed_cell_fields) (λ cells. (length cells ≡ n) × EachAfter (NextCell n) [] cells) (RisingCells n)
    (λ cells f. (f.0, each_follows n [] cells f.1)) (λ cells f. (f.0, each_has_room n [] cells (omega (arith, f.0)) f.1)) (λ cells f. refl)
    (many_part (listed_cell_at n) listed_cell_fields (NextCell n) (RoomFor n) (λ k front room. listed_cell_part n k front room) next n (record { count = omega arith; ids = omega (arith, lt) }))
  where
    next : (k : ℕ) (front : List (ℕ × Cell)) (c : ℕ × Cell) → RoomFor n (suc k) front → NextCell n front c → RoomFor n k (front ++ c ∷ [])
    next k front c room keeps = record { count = omega (arith, room.count, length_push front c); ids = omega (arith, room.count, keeps.room, next_id-push front c) }

pub cells_part : Part cells_at cell_list_fields CellListFits
unfolding cells_at
cells_part =
    same_part cells_at cell_list_fields cell_list_fields (λ cells. Passes (λ n. true) (2 ^ 16) (length cells) × RisingCells (length cells) cells) CellListFits
    (λ cells f. record { count = f.0.1; each = f.1.1 }) (λ cells f. ((refl, f.count), (refl, f.each))) (λ cells f. refl)
    (both_part (number_at w16) (number_fields w16) (Passes (λ n. true) (2 ^ 16)) (λ n. many_at (listed_cell_at n) n []) (flat_map listed_cell_fields) RisingCells (λ cells. length cells) (λ n cells f. f.0)
    (any_number w16 (2 ^ 16) wide16 (omega arith) (omega arith)) (λ n f. counted_cells_part n f.1))

-- ---- their bytes

pub cell_spelled : (c : Cell) → concat (cell_fields c) ≡ cell c
cell_spelled cells.Null = refl
cell_spelled (cells.Bool b) = refl
cell_spelled (cells.Int n) = refl
cell_spelled (cells.Bytes text) = ap (λ (l : List ℕ). 3 ∷ (to_le_bytes w32 (length text) ++ l)) (append-nil text)

pub listed_cell_spelled : (c : ℕ × Cell) → concat (listed_cell_fields c) ≡ listed_cell c
listed_cell_spelled c = ap (λ (l : List ℕ). to_le_bytes w16 c.0 ++ l) (cell_spelled c.1)

pub cell_list_spelled : (cells : List (ℕ × Cell)) → concat (cell_list_fields cells) ≡ cell_list cells
cell_list_spelled cells = ap (λ (l : List ℕ). to_le_bytes w16 (length cells) ++ l) (concat_items listed_cell_fields listed_cell listed_cell_spelled cells)

-- ---- read again

-- a list of cells that is spelled is read
pub cells_again : (cells : List (ℕ × Cell)) (rest : List ℕ) → CellListFits cells → cells_at (cell_list cells ++ rest) ≡ Ok (cells, rest)
cells_again cells rest fits = ap (λ (l : List ℕ). cells_at (l ++ rest)) (sym (cell_list_spelled cells)) ∙ cells_part.again cells rest fits
