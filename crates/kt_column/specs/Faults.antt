-- The first fault of bytes that begin with no block's spelling. A block is read from left to right:
-- its encoding, its length, which cells are null, the values. A field is at fault at its first byte.
-- The nulls and the values tell themselves where they end, so they are read whatever the length says;
-- a length that disagrees with them is at fault itself. Where bytes are missing, the place is the
-- length of the input. A byte list that is too long is at fault at its length field. The rule on a block
-- as a whole, that its encoding is the shortest, is one on its first field, the encoding: it is checked
-- last, and then that is at fault.
use Rattle.std.specs.Prelude.{◌≡◌, ◌≢◌, ◌≤◌, ◌<◌, ◌+◌, ◌^◌, ◌⊎◌, ℕ, Bool, true, false, List, [], ◌∷◌, ◌++◌, length, take, drop, slice_index}
use Rattle.std.specs.Int.{w32, to_le_bytes}
use Rattle.kt_base.specs.declared.cell.Cell.{Cell}
use Rattle.kt_column.specs.declared.errors.CodecNo.{CodecNo}
use Rattle.kt_column.specs.declared.errors.CodecNo.TheVariants as answers
use Rattle.kt_column.specs.declared.errors.Stop.{Stop}
use Rattle.kt_column.specs.declared.errors.Stop.TheVariants.{Memory, Fault}
use Rattle.kt_column.specs.declared.form.Form.{Form}
use Rattle.kt_column.specs.declared.form.Encoding.{Encoding}
use Rattle.kt_column.specs.Forms.{width, is_nullable, code, MayUse}
use Rattle.kt_column.specs.Values.{IsEncoded, IsShortest, MayStand}
use Rattle.kt_column.specs.Reading.{IsStop}
use Rattle.kt_column.specs.Nulls.{byte_len, null_bytes, count_present, IsNullStop}
use Rattle.kt_column.specs.Blocks.{AreCells, nulls_in, values_in, SpellsBlock}

-- the encoding or the length of a block is missing, or the encoding is none that the column may use
abbrev pub IsHeadFault : Form → List ℕ → ℕ → Type 0
IsHeadFault form bytes at =
    ((length bytes ≡ 0) × (at ≡ 0))
    ⊎ (((0 < length bytes) × (at ≡ 0) × ((e : Encoding) → MayUse form e → slice_index bytes 0 ≢ code e))
    ⊎ ((length bytes < 5) × (at ≡ length bytes) × ((e : Encoding) × MayUse form e × (slice_index bytes 0 ≡ code e) × (0 < length bytes))))

abbrev pub IsHeadStop : Form → List ℕ → Stop → Type 0
IsHeadStop form bytes Memory = ⊥
IsHeadStop form bytes (Fault at) = IsHeadFault form bytes at

-- the bytes begin with an encoding that the column may use, and a length
pub record IsHead (form : Form) (bytes : List ℕ) (encoding : Encoding) (len : ℕ) (rest : List ℕ) : Type 0 where
  pub open_ : MayUse form encoding
  pub room : len < 2 ^ 32
  pub parts : bytes ≡ code encoding ∷ (to_le_bytes w32 len ++ rest)

-- the nulls of n cells, where the column has such: they stand at the front
abbrev pub AreNullsFor : Bool → ℕ → List Bool → Type 0
AreNullsFor true n nulls = length nulls ≡ n
AreNullsFor false n nulls = nulls ≡ []

pub record FrontNulls (form : Form) (n : ℕ) (part : List ℕ) (nulls : List Bool) : Type 0 where
  pub for_form : AreNullsFor (is_nullable form) n nulls
  pub within : byte_len (length nulls) ≤ length part
  pub spelled : null_bytes nulls ≡ take (byte_len (length nulls)) part

-- how many values n cells have
abbrev pub value_count : Bool → ℕ → List Bool → ℕ
value_count true n nulls = count_present nulls
value_count false n nulls = n

-- why no nulls were read
abbrev pub IsFrontStop : Bool → ℕ → List ℕ → Stop → Type 0
IsFrontStop true n part stop = IsNullStop n part stop
IsFrontStop false n part Memory = Unit {0}
IsFrontStop false n part (Fault at) = ⊥

-- a fault behind so many bytes
abbrev pub shifted : ℕ → Stop → Stop
shifted k Memory = Memory
shifted k (Fault at) = Fault (k + at)

-- the bytes are which of n cells are null, and their values in an encoding
pub record ReadsContent (form : Form) (encoding : Encoding) (n : ℕ) (part : List ℕ) (cs : List Cell) : Type 0 where
  pub cells : AreCells form cs
  pub counted : length cs ≡ n
  pub values : List ℕ
  pub encoded : IsEncoded (width form) encoding (values_in form cs) values
  pub parts : part ≡ null_bytes (nulls_in form cs) ++ values

-- why the values behind some nulls were not read
pub record IsValuesStop (form : Form) (encoding : Encoding) (n : ℕ) (part : List ℕ) (stop : Stop) : Type 0 where
  pub nulls : List Bool
  pub front : FrontNulls form n part nulls
  pub behind : Stop
  pub why : IsStop form encoding (value_count (is_nullable form) n nulls) (drop (byte_len (length nulls)) part) behind
  pub place : stop ≡ shifted (byte_len (length nulls)) behind

-- why no content was read
abbrev pub IsContentStop : Form → Encoding → ℕ → List ℕ → Stop → Type 0
IsContentStop form encoding n part stop = IsFrontStop (is_nullable form) n part stop ⊎ IsValuesStop form encoding n part stop

-- the place has room
abbrev pub IsShiftable : ℕ → Stop → Type 0
IsShiftable k Memory = Unit {0}
IsShiftable k (Fault at) = k + at < 2 ^ 64

-- what is behind the first fields of these cells' block
pub record IsBody (form : Form) (encoding : Encoding) (n len : ℕ) (rest : List ℕ) (cs : List Cell) : Type 0 where
  pub within : len ≤ length rest
  pub content : ReadsContent form encoding n (take len rest) cs
  pub shortest : (values : List ℕ) → MayStand form (values_in form cs) encoding values → IsShortest form (values_in form cs) encoding values

-- an encoding and a length, and content for them, whose encoding is not the shortest
pub record IsLonger (form : Form) (encoding : Encoding) (n : ℕ) (part : List ℕ) : Type 0 where
  pub cs : List Cell
  pub content : ReadsContent form encoding n part cs
  pub longer : (values : List ℕ) → ¬ IsShortest form (values_in form cs) encoding values

-- a fault of the nulls or the values, where what stands before it is not all of them
pub record IsContentFault (form : Form) (encoding : Encoding) (n : ℕ) (rest : List ℕ) (at : ℕ) : Type 0 where
  pub fault : IsContentStop form encoding n rest (Fault at)
  pub open_ : (cs : List Cell) → ¬ ReadsContent form encoding n (take at rest) cs

-- the nulls and the values are so many bytes, and the length tells another number
pub record IsWrongLength (form : Form) (encoding : Encoding) (n len : ℕ) (rest : List ℕ) : Type 0 where
  pub cells : List Cell
  pub used : ℕ
  pub within : used ≤ length rest
  pub content : ReadsContent form encoding n (take used rest) cells
  pub differs : used ≢ len

-- the fault of a block behind its first fields: of its content, of its length, or of the block as a whole
abbrev pub IsBodyStop : Form → Encoding → ℕ → ℕ → List ℕ → Stop → Type 0
IsBodyStop form encoding n len rest Memory = Unit {0}
IsBodyStop form encoding n len rest (Fault place) =
    ((at : ℕ) × IsContentFault form encoding n rest at × (place ≡ 5 + at))
    ⊎ ((IsWrongLength form encoding n len rest × (place ≡ 1))
    ⊎ ((len ≤ length rest) × IsLonger form encoding n (take len rest) × (place ≡ 0)))

-- why no block was read: its first fields, or what is behind them
pub record IsBodyFault (form : Form) (n : ℕ) (bytes : List ℕ) (stop : Stop) : Type 0 where
  pub encoding : Encoding
  pub len : ℕ
  pub rest : List ℕ
  pub front : IsHead form bytes encoding len rest
  pub body : IsBodyStop form encoding n len rest stop

abbrev pub IsBlockStop : Form → ℕ → List ℕ → Stop → Type 0
IsBlockStop form n bytes Memory = Unit {0}
IsBlockStop form n bytes stop = IsHeadStop form bytes stop ⊎ IsBodyFault form n bytes stop

-- the first so many bytes are the spelling of these n cells
pub record IsFound (form : Form) (n : ℕ) (bytes : List ℕ) (cs : List Cell) (len : ℕ) : Type 0 where
  pub within : len ≤ length bytes
  pub counted : length cs ≡ n
  pub spelled : SpellsBlock form cs (take len bytes)

-- the answer of a decoder without a block
abbrev pub IsRefusal : Form → ℕ → List ℕ → CodecNo → Type 0
IsRefusal form n bytes answers.Memory = Unit {0}
IsRefusal form n bytes (answers.Place offset) = IsBlockStop form n bytes (Fault offset)
