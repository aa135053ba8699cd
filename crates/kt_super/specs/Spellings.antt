-- Superblocks and their spellings.
use Rattle.std.specs.Prelude.{◌≡◌, ◌<◌, ◌^◌, ℕ, List, ◌∷◌, ◌++◌, length, Some, Ok, Err}
use Rattle.std.specs.List.{All}
use Rattle.kt_bytes.specs.Places.{AreBytes}
use Rattle.kt_disk.specs.Disk.{Files, held}
use Rattle.kt_super.specs.declared.meta.Meta.{Meta}
use Rattle.kt_super.specs.Body.{slot_for, IsMeta, spelled_body}
use Rattle.kt_super.specs.Slots.{IsSlot, slot_at, super_of, spelled_slot}
use Rattle.kt_super.specs.Faults.{IsSlotFault}

-- a slot that tells a superblock has behind its gate the one spelling of it, and then what is not looked at
abbrev pub spelled_in_one_way : Type 0
spelled_in_one_way = (slot : ℕ) (bytes : List ℕ) (m : Meta) → All (λ b. b < 256) bytes → slot_at slot bytes ≡ Ok (Some m) → (more : List ℕ) × (bytes ≡ 1 ∷ (spelled_slot m ++ more))

-- the spelling behind an open gate, which is of bytes, tells the superblock
abbrev pub spelling_is_read : Type 0
spelling_is_read = (m : Meta) (more : List ℕ) → IsMeta m → AreBytes (spelled_body m) → length (spelled_body m) < 2 ^ 32 → slot_at (slot_for m.number) (1 ∷ (spelled_slot m ++ more)) ≡ Ok (Some m)

-- the place that a slot tells is its first fault
abbrev pub place_is_fault : Type 0
place_is_fault = (slot : ℕ) (bytes : List ℕ) (place : ℕ) → IsSlot slot → All (λ b. b < 256) bytes → slot_at slot bytes ≡ Err place → IsSlotFault slot bytes place

-- the superblock of an image is one that a slot of it tells
abbrev pub superblock_is_told : Type 0
superblock_is_told = (files : Files) (m : Meta) → super_of files ≡ Ok (Some m) → (slot : ℕ) × IsSlot slot × (slot_at slot (held files slot) ≡ Ok (Some m))
