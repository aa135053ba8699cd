-- Which cells of a block are null, and the bytes that say so.
use Rattle.std.specs.Prelude.{◌≡◌, ◌+◌, ◌-◌, ◌*◌, ◌/◌, ◌%◌, ◌^◌, ◌<◌, ◌≤◌, ◌⊎◌, ◌==◌, ℕ, zero, suc, Bool, true, false, List, [], ◌∷◌, ◌++◌, length, take, drop, min, slice_index, Option, None, Some, if◌then◌else◌}
use Rattle.kt_column.specs.declared.errors.Stop.{Stop}
use Rattle.kt_column.specs.declared.errors.Stop.TheVariants.{Memory, Fault}

-- how many bytes the bits of so many cells take
abbrev pub byte_len : ℕ → ℕ
byte_len n = (n + 7) / 8

-- bits as a number, the lowest first
abbrev pub bits_value : List Bool → ℕ
bits_value [] = 0
bits_value (b ∷ bs) = (if b then 1 else 0) + 2 * bits_value bs

-- so many bytes of eight bits each, where bits that are not there are 0
abbrev pub bit_bytes : ℕ → List Bool → List ℕ
bit_bytes zero bits = []
bit_bytes (suc k) bits = bits_value (take 8 bits) ∷ bit_bytes k (drop 8 bits)

-- a bit for each cell, 1 where it is null
abbrev pub null_bytes : List Bool → List ℕ
null_bytes nulls = bit_bytes (byte_len (length nulls)) nulls

-- how many cells are not null
abbrev pub count_present : List Bool → ℕ
count_present [] = 0
count_present (true ∷ nulls) = count_present nulls
count_present (false ∷ nulls) = suc (count_present nulls)

abbrev pub is_none : Option ℕ → Bool
is_none None = true
is_none (Some k) = false

-- each value that is there has the next place
abbrev pub AreSlots : ℕ → List (Option ℕ) → Type 0
AreSlots from [] = Unit {0}
AreSlots from (None ∷ slots) = AreSlots from slots
AreSlots from (Some k ∷ slots) = (k ≡ from) × AreSlots (suc from) slots

-- the first n bits of a byte, and of several
abbrev pub bits_of : ℕ → ℕ → List Bool
bits_of zero b = []
bits_of (suc n) b = (b % 2 == 1) ∷ bits_of n (b / 2)

abbrev pub bits_in : ℕ → List ℕ → List Bool
bits_in n [] = []
bits_in n (b ∷ bs) = bits_of (min 8 n) b ++ bits_in (n - 8) bs

-- the first fault of the bits of n cells: bytes are missing, or a bit behind the last cell's is 1
abbrev pub IsNullFault : ℕ → List ℕ → ℕ → Type 0
IsNullFault n bytes at =
    ((length bytes < byte_len n) × (at ≡ length bytes))
    ⊎ ((byte_len n ≤ length bytes) × (0 < n % 8) × (at ≡ n / 8) × (2 ^ (n % 8) ≤ slice_index bytes at))

-- the bytes begin with the bits of n cells
pub record ReadsNulls (n : ℕ) (bytes : List ℕ) (nulls : List Bool) : Type 0 where
  pub counted : length nulls ≡ n
  pub within : byte_len n ≤ length bytes
  pub spelled : null_bytes nulls ≡ take (byte_len n) bytes

-- why no bits were read
abbrev pub IsNullStop : ℕ → List ℕ → Stop → Type 0
IsNullStop n bytes Memory = Unit {0}
IsNullStop n bytes (Fault at) = IsNullFault n bytes at
