-- What a decoder reads.
use Rattle.std.specs.Prelude.{◌≡◌, ◌<◌, ◌^◌, ℕ, zero, suc, List, [], ◌∷◌, ◌++◌, length, drop, slice_index}
use Rattle.std.specs.List.{concat, flat_map}
use Rattle.std.specs.Int.{w32, to_le_bytes}
use Rattle.byteorder.specs.Endian.{little_number}
use Rattle.kt_bytes.specs.Cuts.{ends_of}
use Rattle.kt_bytes.specs.Places.{IsFault}
use Rattle.kt_plain.specs.declared.widths.Width.{Width}
use Rattle.kt_plain.specs.declared.items.Items.{Items}
use Rattle.kt_plain.specs.Spelling.{Spells, SpellsWithin, Spelled, SpelledWithin}

-- the bytes are those of n byte lists: the end of each, and then all their bytes
pub record AreTexts (n : ℕ) (texts : List (List ℕ)) (bytes : List ℕ) : Type 0 where
  pub counted : length texts ≡ n
  pub few : n < 2 ^ 32
  pub fits : length (concat texts) < 2 ^ 32
  pub spelled : bytes ≡ flat_map (to_le_bytes w32) (ends_of 0 texts) ++ concat texts

-- the numbers in n fields of four bytes
abbrev pub ends_in : ℕ → List ℕ → List ℕ
ends_in zero bytes = []
ends_in (suc n) bytes = little_number 4 bytes ∷ ends_in n (drop 4 bytes)

-- some n items have this spelling
abbrev pub IsSpelling : Width → ℕ → List ℕ → Type 0
IsSpelling width n bytes = (items : Items) × Spells width n items bytes

-- the same of items without a byte list of more bytes
abbrev pub IsSpellingWithin : ℕ → Width → ℕ → List ℕ → Type 0
IsSpellingWithin most width n bytes = (items : Items) × SpellsWithin most width n items bytes

-- this is the first fault of bytes that are no n items
abbrev pub IsAtFault : Width → ℕ → List ℕ → ℕ → Type 0
IsAtFault width n bytes place = IsFault (Spelled width n) bytes place

-- the same of items without a byte list of more bytes
abbrev pub IsAtFaultWithin : ℕ → Width → ℕ → List ℕ → ℕ → Type 0
IsAtFaultWithin most width n bytes place = IsFault (SpelledWithin most width n) bytes place

-- the place of the first byte above 1
pub record IsFirstAbove (bytes : List ℕ) (at : ℕ) : Type 0 where
  pub within : at < length bytes
  pub before : (i : ℕ) → i < at → slice_index bytes i < 2
  pub above : 1 < slice_index bytes at
