-- Where a line of an opening that may not stand is at fault.
use Rattle.std.specs.Prelude.{◌≡◌, ℕ, ◌+◌, ◌-◌, drop, ◌||◌, List, [], ◌∷◌, length, Option, Some, None, nat_lt, nat_le, if◌then◌else◌, codes}
use Rattle.std.specs.Bool.{MatchBool}
use Rattle.std.specs.Fmt.{decimal}
use Rattle.kt_script.specs.Places.{IsFault}
use Rattle.kt_script.specs.Fronts.{Either, Chain, IsWord}
use Rattle.kt_script.specs.OutForms.{LONG, IsCounted}
use Rattle.kt_script.specs.Pieces.{cut}
use Rattle.kt_opening.specs.declared.lines.Due.{Due}
use Rattle.kt_opening.specs.declared.lines.Stop.{Stop}
use Rattle.kt_opening.specs.declared.lines.Due.TheVariants as is_due
use Rattle.kt_opening.specs.OpeningLines.{head_in, write_in}

-- `opening ahm A last C`
abbrev pub IsHeadLine : List ℕ → Type 0
IsHeadLine text = Chain (IsCounted (codes "opening ahm ") LONG) (IsCounted (codes " last ") LONG) text

-- `rows N`
abbrev pub IsCountLine : List ℕ → Type 0
IsCountLine text = IsCounted (codes "rows ") LONG text

-- `write TS n`
abbrev pub IsWriteLine : List ℕ → Type 0
IsWriteLine text = Chain (IsCounted (codes "write ") LONG) (IsCounted (codes " ") LONG) text

-- a line that may stand between two writes
abbrev pub IsTurnLine : List ℕ → Type 0
IsTurnLine text = Either IsWriteLine (IsWord (codes "output")) text

-- what a change begins with
abbrev pub IsChangeWord : List ℕ → Type 0
IsChangeWord text = Either (IsWord (codes "ins ")) (Either (IsWord (codes "upd ")) (IsWord (codes "del "))) text

-- the place of the number of this length at the end of a line
abbrev pub IsLastNumber : List ℕ → ℕ → ℕ → Type 0
IsLastNumber line n place = place ≡ length line - length (decimal n)

-- a write whose line has its form: its timestamp is at fault, which stands behind `write `, or the count of its changes
abbrev pub IsWritePlace : ℕ → ℕ → List ℕ → ℕ × ℕ → ℕ → Type 0
IsWritePlace low c line write place = MatchBool (nat_le write.0 low || nat_lt c write.0) (place ≡ 6) (IsLastNumber line write.1 place)

abbrev pub IsWritePlaceOr : ℕ → ℕ → List ℕ → Option (ℕ × ℕ) → ℕ → Type 0
IsWritePlaceOr low c line None place = IsFault IsTurnLine line place
IsWritePlaceOr low c line (Some write) place = IsWritePlace low c line write place

-- a last timestamp that is below the mark
abbrev pub IsHeadPlaceOr : List ℕ → Option (ℕ × ℕ) → ℕ → Type 0
IsHeadPlaceOr line None place = IsFault IsHeadLine line place
IsHeadPlaceOr line (Some head) place = IsLastNumber line head.1 place

-- Where a line with its newline is at fault: at the first byte with which no line goes on that is due, or at the first byte of a number, a row or a key as a whole.
abbrev pub IsPlaceIn : Due → List ℕ → ℕ → Type 0
IsPlaceIn is_due.Head line place = IsHeadPlaceOr line (head_in line) place
IsPlaceIn is_due.Count line place = IsFault IsCountLine line place
IsPlaceIn is_due.Row line place = place ≡ 0
IsPlaceIn (is_due.Turn low c) line place = IsWritePlaceOr low c line (write_in line) place
IsPlaceIn is_due.Change line place = IsFault IsChangeWord line place

-- Where what is left has no newline: likewise, or at its end where bytes are missing.
abbrev pub IsEndIn : Due → List ℕ → ℕ → Type 0
IsEndIn is_due.Head rest place = IsFault IsHeadLine rest place
IsEndIn is_due.Count rest place = IsFault IsCountLine rest place
IsEndIn is_due.Row rest place = place ≡ length rest
IsEndIn (is_due.Turn low c) rest place = IsFault IsTurnLine rest place
IsEndIn is_due.Change rest place = (front : ℕ) × IsFault IsChangeWord rest front × (place ≡ (if nat_lt front 4 then front else length rest))

-- the place of the fault in the first of some lines, the last of which has no newline
abbrev pub IsPlaceFrom : Due → List (List ℕ) → ℕ → Type 0
IsPlaceFrom due [] place = ⊥
IsPlaceFrom due (rest ∷ []) place = IsEndIn due rest place
IsPlaceFrom due (line ∷ more ∷ pieces) place = IsPlaceIn due line place

-- the place of the fault in a text whose line from here on may not stand
abbrev pub IsPlaceOf : List ℕ → Stop → ℕ → Type 0
IsPlaceOf text stop place = (far : ℕ) × (place ≡ stop.at + far) × IsPlaceFrom stop.due (cut 10 (drop stop.at text)) far
