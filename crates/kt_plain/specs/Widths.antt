-- How wide a number is, its bytes, and numbers one after another.
use Rattle.std.specs.Prelude.{◌≡◌, ◌⊎◌, ◌/◌, ℕ, zero, suc, ℤ, pos, List, [], ◌∷◌, length, drop, slice_index, FitsSigned, All}
use Rattle.std.specs.List.{flat_map}
use Rattle.std.specs.Int.{w8, w16, w32, w64, to_le_bytes, cast_unsigned, cast_signed}
use Rattle.byteorder.specs.Endian.{little_number}
use Rattle.kt_plain.specs.declared.widths.NumberWidth.{NumberWidth}
use Rattle.kt_plain.specs.declared.widths.NumberWidth.TheVariants.{Bit, One, Two, Four, Eight}

-- how many bytes a number takes
abbrev pub field_len : NumberWidth → ℕ
field_len Bit = 1
field_len One = 1
field_len Two = 2
field_len Four = 4
field_len Eight = 8

-- a number's bytes: two's complement, the lowest byte first
abbrev pub number : NumberWidth → ℤ → List ℕ
number Bit z = cast_unsigned w8 z ∷ []
number One z = cast_unsigned w8 z ∷ []
number Two z = to_le_bytes w16 (cast_unsigned w16 z)
number Four z = to_le_bytes w32 (cast_unsigned w32 z)
number Eight z = to_le_bytes w64 (cast_unsigned w64 z)

-- the number is one of the width's
abbrev pub IsInWidth : NumberWidth → ℤ → Type 0
IsInWidth Bit z = (z ≡ pos 0) ⊎ (z ≡ pos 1)
IsInWidth One z = FitsSigned w8 z
IsInWidth Two z = FitsSigned w16 z
IsInWidth Four z = FitsSigned w32 z
IsInWidth Eight z = FitsSigned w64 z

-- the number whose bytes stand at the front
abbrev pub value : NumberWidth → List ℕ → ℤ
value Bit bytes = pos (slice_index bytes 0)
value One bytes = cast_signed w8 (slice_index bytes 0)
value Two bytes = cast_signed w16 (little_number 2 bytes)
value Four bytes = cast_signed w32 (little_number 4 bytes)
value Eight bytes = cast_signed w64 (little_number 8 bytes)

-- ---- numbers one after another

-- the bytes are those of these numbers
pub record AreNumbers (w : NumberWidth) (zs : List ℤ) (bytes : List ℕ) : Type 0 where
  pub fit : All (IsInWidth w) zs
  pub spelled : bytes ≡ flat_map (number w) zs

-- the numbers in the first so many fields
abbrev pub values : NumberWidth → ℕ → List ℕ → List ℤ
values w zero bytes = []
values w (suc n) bytes = value w bytes ∷ values w n (drop (field_len w) bytes)

-- the numbers whose bytes these are
abbrev pub numbers_in : NumberWidth → List ℕ → List ℤ
numbers_in w bytes = values w (length bytes / field_len w) bytes
