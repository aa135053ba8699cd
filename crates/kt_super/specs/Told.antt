-- What a function tells of a slot.
use Rattle.std.specs.Prelude.{◌≡◌, ℕ, Option, Result, Ok, Err}
use Rattle.kt_super.specs.declared.meta.Meta.{Meta}
use Rattle.kt_super.specs.declared.slot.SlotNo.{SlotNo}
use Rattle.kt_super.specs.declared.slot.SlotNo.TheVariants as no
use Rattle.kt_super.specs.declared.refusal.SuperNo.{SuperNo}
use Rattle.kt_super.specs.declared.refusal.SuperNo.TheVariants as super

-- it tells what the slot does, unless memory ran out
abbrev pub Tells : Result (Option Meta) SlotNo → Result (Option Meta) ℕ → Type 0
Tells (Ok found) slot = slot ≡ Ok found
Tells (Err no.Memory) slot = Unit {0}
Tells (Err (no.At offset)) slot = slot ≡ Err offset

-- the same of a disk's slot, where a fault of the disk tells nothing
abbrev pub TellsOf : ℕ → Result (Option Meta) SuperNo → Result (Option Meta) ℕ → Type 0
TellsOf slot (Ok found) told = told ≡ Ok found
TellsOf slot (Err super.Memory) told = Unit {0}
TellsOf slot (Err super.Fault) told = Unit {0}
TellsOf slot (Err (super.Place at offset)) told = (at ≡ slot) × (told ≡ Err offset)
