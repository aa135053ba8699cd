-- The values of a block, which are its cells that are not null, and their bytes.
use Rattle.std.specs.Prelude.{◌≡◌, ◌≤◌, ◌<◌, ◌⊎◌, ℕ, List, length, Option, Some, None, MatchOption}
use Rattle.kt_plain.specs.declared.widths.Width.{Width}
use Rattle.kt_plain.specs.declared.widths.Width.TheVariants as widths
use Rattle.kt_plain.specs.declared.widths.NumberWidth.TheVariants as number_widths
use Rattle.kt_plain.specs.declared.items.Items.{Items}
use Rattle.kt_plain.specs.declared.items.Items.TheVariants.{Numbers, Texts}
use Rattle.kt_plain.specs.Items.{count}
use Rattle.kt_plain.specs.Spelling as plain
use Rattle.kt_plain.specs.declared.widths.NumberWidth.{NumberWidth}
use Rattle.kt_plain.specs.declared.widths.NumberWidth.TheVariants as number_widths
use Rattle.kt_rle.specs.Spelling as run_length
use Rattle.kt_dict.specs.Spelling as dictionary
use Rattle.kt_front.specs.Spelling as prefix
use Rattle.kt_column.specs.declared.form.Form.{Form}
use Rattle.kt_column.specs.declared.form.Encoding.{Encoding}
use Rattle.kt_column.specs.declared.form.Encoding.TheVariants.{Plain, RunLength, Dictionary, Prefix}
use Rattle.kt_column.specs.declared.lengths.Measured.{Measured}
use Rattle.kt_column.specs.Forms.{width, limit, code, MayUse}

-- the width of numbers, as the run-length encoding has it
abbrev pub run_width : Width → NumberWidth
run_width (widths.Numbers w) = w
run_width widths.Bytes = number_widths.Eight

-- the values may stand in a block
pub record AreValues (form : Form) (items : Items) : Type 0 where
  pub fits : plain.Fits (width form) items
  pub few : count items ≤ 8192
  pub short : plain.AreShort (limit form) items

-- the bytes are those of the values in an encoding, which is one for their kind
abbrev pub IsEncoded : Width → Encoding → Items → List ℕ → Type 0
IsEncoded w Plain items bytes = bytes ≡ plain.spelling w items
IsEncoded w RunLength (Numbers zs) bytes = run_length.Spells (run_width w) (length zs) zs bytes
IsEncoded w RunLength (Texts ts) bytes = ⊥
IsEncoded w Dictionary (Numbers zs) bytes = ⊥
IsEncoded w Dictionary (Texts ts) bytes = dictionary.Fits ts × (bytes ≡ dictionary.spelling ts)
IsEncoded w Prefix (Numbers zs) bytes = ⊥
IsEncoded w Prefix (Texts ts) bytes = prefix.Fits ts × (bytes ≡ prefix.spelling ts)

-- the bytes are those of the values in an encoding that the column may use
abbrev pub MayStand : Form → Items → Encoding → List ℕ → Type 0
MayStand form items encoding bytes = MayUse form encoding × IsEncoded (width form) encoding items bytes

-- the values may stand in the encoding, in so many bytes
abbrev pub Takes : Form → Items → Encoding → ℕ → Type 0
Takes form items encoding n = (bytes : List ℕ) × MayStand form items encoding bytes × (length bytes ≡ n)

-- shorter, or as long and of a lower number
abbrev pub IsBefore : Encoding → List ℕ → Encoding → List ℕ → Type 0
IsBefore e bytes f others = (length bytes < length others) ⊎ ((length bytes ≡ length others) × (code e ≤ code f))

-- the bytes are those of the values in the shortest encoding that the column may use, and in the one
-- of the lowest number among equals
pub record IsShortest (form : Form) (items : Items) (encoding : Encoding) (bytes : List ℕ) : Type 0 where
  pub stands : MayStand form items encoding bytes
  pub least : (other : Encoding) (others : List ℕ) → MayStand form items other others → IsBefore encoding bytes other others

-- the same of the encodings up to a number, and none where the column may use none of these
abbrev pub IsLeastUpTo : Form → Items → ℕ → Encoding → List ℕ → Type 0
IsLeastUpTo form items most encoding bytes =
    MayStand form items encoding bytes × (code encoding ≤ most) × ((other : Encoding) (others : List ℕ) → code other ≤ most → MayStand form items other others → IsBefore encoding bytes other others)

abbrev pub IsNoneUpTo : Form → Items → ℕ → Type 0
IsNoneUpTo form items most = (other : Encoding) (others : List ℕ) → code other ≤ most → ¬ MayStand form items other others

-- the encoding is the shortest of those, and its bytes are as many as it says
abbrev pub IsMeasuredUpTo : Form → Items → ℕ → Measured → Type 0
IsMeasuredUpTo form items most m = (bytes : List ℕ) × IsLeastUpTo form items most m.encoding bytes × (length bytes ≡ m.len)

abbrev pub IsBestUpTo : Form → Items → ℕ → Option Measured → Type 0
IsBestUpTo form items most best = MatchOption best (IsNoneUpTo form items most) (IsMeasuredUpTo form items most)

-- the shorter of two, and the first where they are as long
abbrev pub IsShorter : Option Measured → Measured → Measured → Type 0
IsShorter None other result = result ≡ other
IsShorter (Some best) other result = ((best.len ≤ other.len) × (result ≡ best)) ⊎ ((other.len < best.len) × (result ≡ other))
