-- Where an open slot is at fault, told by the spellings of bodies alone.
use Rattle.std.specs.Prelude.{◌≡◌, ◌⊎◌, ◌<◌, ◌≤◌, ◌+◌, ℕ, true, List, ◌++◌, length, take, drop, nat_le}
use Rattle.std.specs.Int.{w32, from_le_bytes}
use Rattle.kt_bytes.specs.Places.{IsFault}
use Rattle.kt_super.specs.declared.meta.Meta.{Meta}
use Rattle.kt_super.specs.Body.{spelled_body}
use Rattle.kt_super.specs.Fields.{StandsIn, Spelled}
use Rattle.kt_super.specs.Slots.{is_open, misfit}

-- a superblock is spelled at the front of a body, and these bytes stand behind it
abbrev pub Fronts : ℕ → List ℕ → List ℕ → Type 0
Fronts slot body more = (m : Meta) × StandsIn slot m × (body ≡ spelled_body m ++ more)

-- The length disagrees with the body, where so many bytes stand behind the length: bytes of a superblock are missing, or
-- bytes stand behind one, or one stands there with fewer bytes than the length says.
abbrev pub Disagrees : ℕ → ℕ → ℕ → List ℕ → Type 0
Disagrees slot len left body = IsFault (Spelled slot) body (length body) ⊎ ((more : List ℕ) × Fronts slot body more × (0 < length more ⊎ left < len))

-- a field of the body is wrong, and no superblock stands in front of it
pub record IsWrong (slot : ℕ) (body : List ℕ) (place : ℕ) : Type 0 where
  pub offset : ℕ
  pub fault : IsFault (Spelled slot) body offset
  pub within : offset < length body
  pub alone : (more : List ℕ) → ¬ Fronts slot body more
  pub at : place ≡ 5 + offset

-- The first fault of what stands behind the gate and the length: the length where it disagrees with the body, or the end
-- of the slot where so many bytes are not there; else the body's first fault.
abbrev pub IsBodyFault : ℕ → ℕ → ℕ → List ℕ → ℕ → Type 0
IsBodyFault slot len left body place = (Disagrees slot len left body × (place ≡ misfit (nat_le len left) (5 + left))) ⊎ IsWrong slot body place

-- the same, told of all bytes behind the length, of which the body is as many as it says or all
abbrev pub IsFaultBehind : ℕ → ℕ → List ℕ → ℕ → Type 0
IsFaultBehind slot len rest place = IsBodyFault slot len (length rest) (take len rest) place

-- the first fault of an open slot
abbrev pub IsSlotFault : ℕ → List ℕ → ℕ → Type 0
IsSlotFault slot bytes place =
    (is_open bytes ≡ true) × (((length bytes < 5) × (place ≡ length bytes)) ⊎ ((5 ≤ length bytes) × IsFaultBehind slot (from_le_bytes w32 (take 4 (drop 1 bytes))) (drop 5 bytes) place))
