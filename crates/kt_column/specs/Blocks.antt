-- A block: its cells, and its bytes.
use Rattle.std.specs.Prelude.{◌≡◌, ◌≢◌, ◌≤◌, ◌<◌, ◌^◌, ◌==◌, ℕ, ℤ, pos, negsuc, Bool, true, false, List, [], ◌∷◌, ◌++◌, length, map, All, if◌then◌else◌}
use Rattle.std.specs.Int.{w32, to_le_bytes}
use Rattle.kt_base.specs.declared.cell.Cell.{Cell}
use Rattle.kt_base.specs.declared.cell.Cell.TheVariants as cells
use Rattle.kt_plain.specs.declared.widths.Width.{Width}
use Rattle.kt_plain.specs.declared.widths.Width.TheVariants as widths
use Rattle.kt_plain.specs.declared.widths.NumberWidth.TheVariants as number_widths
use Rattle.kt_column.specs.Forms.{IsInWidth}
use Rattle.kt_plain.specs.declared.items.Items.{Items}
use Rattle.kt_plain.specs.declared.items.Items.TheVariants.{Numbers, Texts}
use Rattle.kt_column.specs.declared.form.Form.{Form}
use Rattle.kt_column.specs.declared.form.Encoding.{Encoding}
use Rattle.kt_column.specs.Forms.{width, is_nullable, limit, code}
use Rattle.kt_column.specs.Values.{IsShortest}
use Rattle.kt_column.specs.Nulls.{null_bytes, count_present}

-- a cell of a width, which may be null, and of no more bytes
abbrev pub IsCellOf : Width → Bool → ℕ → Cell → Type 0
IsCellOf w nullable most cells.Null = nullable ≡ true
IsCellOf w nullable most (cells.Int z) = (w ≢ (widths.Numbers number_widths.Bit)) × IsInWidth w z
IsCellOf w nullable most (cells.Bool b) = w ≡ (widths.Numbers number_widths.Bit)
IsCellOf w nullable most (cells.Bytes bytes) = (w ≡ widths.Bytes) × (length bytes ≤ most)

-- a cell that the column may hold
abbrev pub IsCell : Form → Cell → Type 0
IsCell form c = IsCellOf (width form) (is_nullable form) (limit form) c

-- cells of one block
pub record AreCells (form : Form) (cs : List Cell) : Type 0 where
  pub each : All (IsCell form) cs
  pub few : length cs ≤ 8192

-- which cells are null, where the column says so
abbrev pub is_null : Cell → Bool
is_null cells.Null = true
is_null _ = false

abbrev pub nulls_in : Form → List Cell → List Bool
nulls_in form cs = if is_nullable form then map is_null cs else []

-- the numbers and the byte lists among cells; a bool is 0 or 1
abbrev pub bit : Bool → ℤ
bit true = pos 1
bit false = pos 0

abbrev pub numbers_in : List Cell → List ℤ
numbers_in [] = []
numbers_in (cells.Int z ∷ cs) = z ∷ numbers_in cs
numbers_in (cells.Bool b ∷ cs) = bit b ∷ numbers_in cs
numbers_in (_ ∷ cs) = numbers_in cs

abbrev pub texts_in : List Cell → List (List ℕ)
texts_in [] = []
texts_in (cells.Bytes bytes ∷ cs) = bytes ∷ texts_in cs
texts_in (_ ∷ cs) = texts_in cs

-- how many bytes a cell brings
abbrev pub cell_len : Cell → ℕ
cell_len (cells.Bytes bytes) = length bytes
cell_len _ = 0

-- the values among the cells
abbrev pub values_of : Width → List Cell → Items
values_of widths.Bytes cs = Texts (texts_in cs)
values_of _ cs = Numbers (numbers_in cs)

abbrev pub values_in : Form → List Cell → Items
values_in form cs = values_of (width form) cs

-- a value as a cell
abbrev pub is_one : ℤ → Bool
is_one (pos n) = n == 1
is_one (negsuc n) = false

abbrev pub number_cell : Width → ℤ → Cell
number_cell (widths.Numbers number_widths.Bit) z = cells.Bool (is_one z)
number_cell _ z = cells.Int z

abbrev pub value_cells : Width → Items → List Cell
value_cells w (Numbers zs) = map (number_cell w) zs
value_cells w (Texts ts) = map cells.Bytes ts

-- the cells of values, with those that are null between them
abbrev pub weave : List Bool → List Cell → List Cell
weave [] cs = cs
weave (true ∷ nulls) cs = cells.Null ∷ weave nulls cs
weave (false ∷ nulls) [] = []
weave (false ∷ nulls) (c ∷ cs) = c ∷ weave nulls cs

-- the cells that are not null are so many; where no cell may be null nothing says which are
abbrev pub AreNullsOf : Bool → List Bool → ℕ → Type 0
AreNullsOf true nulls n = count_present nulls ≡ n
AreNullsOf false nulls n = nulls ≡ []

-- nulls and values that are those of cells
abbrev pub Held : Form → List Bool → Items → List Cell → Type 0
Held form nulls items cs = AreCells form cs × (nulls ≡ nulls_in form cs) × (items ≡ values_in form cs)

-- a number of an encoding, a length, and so many bytes
abbrev pub block_bytes : Encoding → List ℕ → List ℕ
block_bytes encoding content = code encoding ∷ (to_le_bytes w32 (length content) ++ content)

-- the bytes of nulls and values: the values in their shortest encoding, and the length has room in
-- its field
pub record IsBlock (form : Form) (nulls : List Bool) (items : Items) (bytes : List ℕ) : Type 0 where
  pub encoding : Encoding
  pub values : List ℕ
  pub shortest : IsShortest form items encoding values
  pub room : length (null_bytes nulls ++ values) < 2 ^ 32
  pub spelled : bytes ≡ block_bytes encoding (null_bytes nulls ++ values)

-- the bytes of a block: which cells are null, and the values of the others
pub record SpellsBlock (form : Form) (cs : List Cell) (bytes : List ℕ) : Type 0 where
  pub cells : AreCells form cs
  pub block : IsBlock form (nulls_in form cs) (values_in form cs) bytes

-- what a block in memory is seen as
pub record BlockValue : Type 0 where
  pub form : Form
  pub cells : List Cell
