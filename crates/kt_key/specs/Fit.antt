-- Which cells may stand under a column of a kind.
use Rattle.std.specs.Prelude.{ℕ, Bool, true, false, ◌&&◌, ℤ, pos, negsuc, List, [], ◌∷◌, nat_lt}
use Rattle.kt_base.specs.declared.cell.Kind.{Kind}
use Rattle.kt_base.specs.declared.cell.Kind.TheVariants as kind
use Rattle.kt_base.specs.declared.cell.Cell.{Cell}
use Rattle.kt_base.specs.declared.cell.Cell.TheVariants as cell
use Rattle.kt_base.specs.Keys.{width_of, half_of, is_text}

abbrev pub is_bool : Kind → Bool
is_bool kind.Bool = true
is_bool _ = false

abbrev pub is_number : Kind → Bool
is_number kind.Int8 = true
is_number kind.Int16 = true
is_number kind.Int32 = true
is_number kind.Int64 = true
is_number _ = false

-- from minus half up to half, which is left out
abbrev pub in_range : ℕ → ℤ → Bool
in_range half (pos n) = nat_lt n half
in_range half (negsuc n) = nat_lt n half

-- a cell of this kind. Null is of none
abbrev pub has_kind : Kind → Cell → Bool
has_kind kind cell.Null = false
has_kind kind (cell.Int n) = is_number kind && in_range (half_of (width_of kind)) n
has_kind kind (cell.Bool b) = is_bool kind
has_kind kind (cell.Bytes bytes) = is_text kind

-- the cells of a key: a number or a text for each of its columns
abbrev pub is_key : List Kind → List Cell → Bool
is_key [] [] = true
is_key [] (c ∷ cells) = false
is_key (kind ∷ kinds) [] = false
is_key (kind.Bool ∷ kinds) (c ∷ cells) = false
is_key (kind ∷ kinds) (c ∷ cells) = has_kind kind c && is_key kinds cells
