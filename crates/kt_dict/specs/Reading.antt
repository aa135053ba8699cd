-- What is read from bytes.
use Rattle.std.specs.Prelude.{◌≡◌, ℕ, List, length, Result, Ok, Err}
use Rattle.kt_bytes.specs.Places.{IsFault}
use Rattle.kt_dict.specs.declared.error.CodecNo.{CodecNo}
use Rattle.kt_dict.specs.declared.error.CodecNo.TheVariants as answers
use Rattle.kt_dict.specs.Spelling.{spelling, longest, FitsWithin, SpelledWithin}

-- the bytes are the spelling of these items, of which there are n, none of more bytes
pub record SpellsWithin (most : ℕ) (bytes : List ℕ) (n : ℕ) (items : List (List ℕ)) : Type 0 where
  pub count : length items ≡ n
  pub fits : FitsWithin most items
  pub parts : bytes ≡ spelling items

-- the bytes are the spelling of these items, of which there are n
abbrev pub Spells : List ℕ → ℕ → List (List ℕ) → Type 0
Spells bytes n items = SpellsWithin longest bytes n items

-- why bytes were not read as n items, none of more bytes: they are at fault there, or memory ran out
abbrev pub IsCauseWithin : ℕ → List ℕ → ℕ → CodecNo → Type 0
IsCauseWithin most bytes n answers.Memory = Unit {0}
IsCauseWithin most bytes n (answers.Place offset) = IsFault (SpelledWithin most n) bytes offset
IsCauseWithin most bytes n (answers.TooMany count) = ⊥

-- the same of items of any length
abbrev pub IsCause : List ℕ → ℕ → CodecNo → Type 0
IsCause bytes n why = IsCauseWithin longest bytes n why

-- these items, unless memory ran out
abbrev pub IsItems : Result (List (List ℕ)) CodecNo → List (List ℕ) → Type 0
IsItems (Ok found) items = found ≡ items
IsItems (Err answers.Memory) items = Unit {0}
IsItems (Err (answers.Place offset)) items = ⊥
IsItems (Err (answers.TooMany count)) items = ⊥
