-- The times that scans and marks name.
use Rattle.std.specs.Prelude.{◌≡◌, ◌<◌, ◌≤◌, ◌^◌, ℕ, Option, Some, None, List, [], ◌∷◌, if◌then◌else◌, nat_lt, Result, Ok, Err}
use Rattle.kt_base.specs.Literals.{is_count, count_on}
use Rattle.kt_history.specs.declared.scan.At.{At}
use Rattle.kt_history.specs.declared.scan.At.TheVariants.{Looked, Given}
use Rattle.kt_script.specs.declared.columns.LineNo.{LineNo}
use Rattle.kt_script.specs.declared.columns.LineNo.TheVariants as line
use Rattle.kt_script.specs.declared.times.Time.{Time}
use Rattle.kt_script.specs.declared.times.Time.TheVariants.{Named, TooLate, NoTime}
use Rattle.kt_script.specs.Reasons.{sound, reason_if}

-- the latest time that may be named
abbrev pub most_time : ℕ
most_time = 2 ^ 62

-- a time is spelled by digits without leading zeros
abbrev pub time_in : List ℕ → Option ℕ
time_in word = if is_count word then Some (count_on 0 word) else None

abbrev pub late_no : ℕ → ℕ
late_no t = reason_if (nat_lt most_time t) 20

-- why no time is named, or a time is not taken
abbrev pub time_no : Option ℕ → ℕ
time_no None = 12
time_no (Some t) = late_no t

-- behind "mark": a time alone
abbrev pub mark_in : List (List ℕ) → Option ℕ
mark_in [] = None
mark_in (word ∷ []) = time_in word
mark_in (word ∷ more ∷ words) = None

abbrev pub time_or_zero : Option ℕ → ℕ
time_or_zero None = 0
time_or_zero (Some t) = t

-- why a mark is refused
abbrev pub mark_no : List (List ℕ) → ℕ
mark_no words = time_no (mark_in words)

-- the time of a mark
abbrev pub mark_of : List (List ℕ) → ℕ
mark_of words = time_or_zero (mark_in words)

-- the present is never too late
abbrev pub at_no : At → ℕ
at_no Looked = sound
at_no (Given t) = late_no t

-- a word as it is read where it may name a time
abbrev pub IsTime : List ℕ → Time → Type 0
IsTime word (Named t) = (time_in word ≡ Some t) × (t ≤ most_time)
IsTime word TooLate = (t : ℕ) × (time_in word ≡ Some t) × (most_time < t)
IsTime word NoTime = time_in word ≡ None

-- the time of a mark, or its reason
abbrev pub ReadsMark : List (List ℕ) → Result ℕ LineNo → Type 0
ReadsMark words (Ok t) = (mark_no words ≡ sound) × (t ≡ mark_of words)
ReadsMark words (Err (line.Reason r)) = (mark_no words ≡ r) × (r < sound)
ReadsMark words (Err line.Memory) = ⊥
