-- What is read at the front of some bytes.
use Rattle.std.specs.Prelude.{◌≡◌, ◌≢◌, ℕ, ℤ, ◌<◌, ◌≤◌, true, false, List, [], ◌++◌, length, take, drop, Option, Some, None}
use Rattle.kt_base.specs.declared.cell.Kind.{Kind}
use Rattle.kt_base.specs.declared.cell.Cell.{Cell}
use Rattle.std.specs.Int.{byte_len}
use Rattle.kt_base.specs.Keys.{width_of, half_of, number_key}
use Rattle.kt_key.specs.declared.read.Mark.{Mark}
use Rattle.kt_key.specs.declared.read.Mark.TheVariants as mark
use Rattle.kt_key.specs.declared.read.Text.{Text}
use Rattle.kt_key.specs.declared.read.Taken.{Taken}
use Rattle.kt_key.specs.Fit.{is_bool, in_range, has_kind}
use Rattle.kt_key.specs.Spelling.{inner_spelling, last_spelling}
use Rattle.kt_key.specs.Reading.{read_text, with_byte}

-- the escaped text at the front of the bytes, or none
abbrev pub IsTextRead : List ℕ → Option Text → Type 0
IsTextRead bytes None = read_text bytes ≡ None
IsTextRead bytes (Some read) = (read_text bytes ≡ Some (read.text, drop read.len bytes)) × (read.len ≤ length bytes)

-- what stands behind the zero byte at which the bytes begin
abbrev pub IsMark : List ℕ → Mark → Type 0
IsMark bytes mark.End = (2 ≤ length bytes) × (read_text bytes ≡ Some ([], drop 2 bytes))
IsMark bytes mark.Zero = (2 ≤ length bytes) × (read_text bytes ≡ with_byte 0 (read_text (drop 2 bytes)))
IsMark bytes mark.Bad = read_text bytes ≡ None

-- the number at the front of the bytes, or none where they are too few
abbrev pub IsNumberRead : Kind → List ℕ → Option ℤ → Type 0
IsNumberRead kind bytes None = length bytes < byte_len (width_of kind)
IsNumberRead kind bytes (Some n) = (in_range (half_of (width_of kind)) n ≡ true) × (number_key (width_of kind) n ≡ take (byte_len (width_of kind)) bytes)

-- a key cell of the kind, at the front of the bytes
abbrev pub IsInner : Kind → List ℕ → Option Taken → Type 0
IsInner kind bytes None = (c : Cell) (more : List ℕ) → is_bool kind ≡ false → has_kind kind c ≡ true → inner_spelling kind c ++ more ≢ bytes
IsInner kind bytes (Some read) = (is_bool kind ≡ false) × (has_kind kind read.cell ≡ true) × (inner_spelling kind read.cell ++ drop read.len bytes ≡ bytes) × (read.len ≤ length bytes)

-- a key cell of the kind whose spelling all the bytes are
abbrev pub IsLast : Kind → List ℕ → Option Cell → Type 0
IsLast kind bytes None = (c : Cell) → is_bool kind ≡ false → has_kind kind c ≡ true → last_spelling kind c ≢ bytes
IsLast kind bytes (Some cell) = (is_bool kind ≡ false) × (has_kind kind cell ≡ true) × (last_spelling kind cell ≡ bytes)
