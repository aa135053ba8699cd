-- What a column holds, and how its values may be written.
use Rattle.std.specs.Prelude.{◌≡◌, ℕ, ℤ, Bool, false}
use Rattle.kt_base.specs.declared.cell.Kind.{Kind}
use Rattle.kt_base.specs.declared.cell.Kind.TheVariants as kinds
use Rattle.kt_plain.specs.declared.widths.Width.{Width}
use Rattle.kt_plain.specs.declared.widths.Width.TheVariants as widths
use Rattle.kt_plain.specs.declared.widths.NumberWidth.TheVariants as number_widths
use Rattle.kt_plain.specs.Widths as numbers
use Rattle.kt_column.specs.declared.form.Form.{Form}
use Rattle.kt_column.specs.declared.form.Form.TheVariants.{Cells, Keys}
use Rattle.kt_column.specs.declared.form.Encoding.{Encoding}
use Rattle.kt_column.specs.declared.form.Encoding.TheVariants.{Plain, RunLength, Dictionary, Prefix}

-- a width of numbers, and not of byte lists
abbrev pub IsNumeric : Width → Type 0
IsNumeric (widths.Numbers w) = Unit {0}
IsNumeric widths.Bytes = ⊥

-- the number is one of the width's
abbrev pub IsInWidth : Width → ℤ → Type 0
IsInWidth (widths.Numbers w) z = numbers.IsInWidth w z
IsInWidth widths.Bytes z = ⊥

-- how wide the values of a kind are
abbrev pub width_of : Kind → Width
width_of kinds.Bool = (widths.Numbers number_widths.Bit)
width_of kinds.Int8 = (widths.Numbers number_widths.One)
width_of kinds.Int16 = (widths.Numbers number_widths.Two)
width_of kinds.Int32 = (widths.Numbers number_widths.Four)
width_of kinds.Int64 = (widths.Numbers number_widths.Eight)
width_of kinds.String = widths.Bytes
width_of kinds.Binary = widths.Bytes

abbrev pub width : Form → Width
width (Cells kind nullable) = width_of kind
width Keys = widths.Bytes

abbrev pub is_nullable : Form → Bool
is_nullable (Cells kind nullable) = nullable
is_nullable Keys = false

-- the most bytes that a string, a binary or a key has
abbrev pub limit : Form → ℕ
limit (Cells kind nullable) = 65536
limit Keys = 16384

-- the number of an encoding
abbrev pub code : Encoding → ℕ
code Plain = 1
code RunLength = 2
code Dictionary = 3
code Prefix = 4

-- the values of the width have such an encoding
abbrev pub Suits : Width → Encoding → Type 0
Suits w Plain = Unit {0}
Suits w RunLength = IsNumeric w
Suits w Dictionary = w ≡ widths.Bytes
Suits w Prefix = w ≡ widths.Bytes

-- what a column may use: each encoding of its kind, and for keys one alone
abbrev pub MayUse : Form → Encoding → Type 0
MayUse (Cells kind nullable) encoding = Suits (width_of kind) encoding
MayUse Keys encoding = encoding ≡ Prefix
