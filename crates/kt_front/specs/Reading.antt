-- What is read from bytes.
use Rattle.std.specs.Prelude.{◌≡◌, ℕ, ◌-◌, ◌%◌, ◌&&◌, ◌==◌, nat_lt, Bool, List, length, Result, Ok, Err, if◌then◌else◌}
use Rattle.kt_bytes.specs.Places as places
use Rattle.kt_bytes.specs.declared.fault.CodecNo.{CodecNo}
use Rattle.kt_bytes.specs.declared.fault.CodecNo.TheVariants as answers
use Rattle.kt_front.specs.Spelling.{spelling, longest, FitsWithin, SpelledWithin}

-- the bytes are the spelling of these items, of which there are n, none of more bytes
pub record SpellsWithin (most : ℕ) (bytes : List ℕ) (n : ℕ) (items : List (List ℕ)) : Type 0 where
  pub count : length items ≡ n
  pub fits : FitsWithin most items
  pub parts : bytes ≡ spelling items

-- the bytes are the spelling of these items, of which there are n
abbrev pub Spells : List ℕ → ℕ → List (List ℕ) → Type 0
Spells bytes n items = SpellsWithin longest bytes n items

-- The field behind these is what a cell doesn't share.
abbrev pub is_rest : List (List ℕ) → Bool
is_rest front = length front % 3 == 2

-- The place of the first fault, that of the fields but for one. Where the bytes that a cell doesn't share begin as what it
-- could share does, the number of shared bytes is wrong, and the fault is there, at the first byte of the cell.
pub record IsFaultWithin (most n : ℕ) (bytes : List ℕ) (place : ℕ) : Type 0 where
  pub field : ℕ
  pub fault : places.IsFault (SpelledWithin most n) bytes field
  pub told : place ≡ (if is_rest fault.front && nat_lt field (length bytes) then field - 8 else field)

abbrev pub IsFault : ℕ → List ℕ → ℕ → Type 0
IsFault n bytes place = IsFaultWithin longest n bytes place

-- why bytes were not read as n items, none of more bytes: they are at fault there, or memory ran out
abbrev pub IsCauseWithin : ℕ → List ℕ → ℕ → CodecNo → Type 0
IsCauseWithin most bytes n answers.Memory = Unit {0}
IsCauseWithin most bytes n (answers.Place offset) = IsFaultWithin most n bytes offset

-- the same of items of any length
abbrev pub IsCause : List ℕ → ℕ → CodecNo → Type 0
IsCause bytes n why = IsCauseWithin longest bytes n why

-- these items, unless memory ran out
abbrev pub IsItems : Result (List (List ℕ)) CodecNo → List (List ℕ) → Type 0
IsItems (Ok found) items = found ≡ items
IsItems (Err answers.Memory) items = Unit {0}
IsItems (Err (answers.Place offset)) items = ⊥
