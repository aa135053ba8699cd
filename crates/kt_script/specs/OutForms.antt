-- The forms of the lines of an output text: a word, and numbers behind it.
use Rattle.std.specs.Prelude.{◌≡◌, ℕ, true, List, [], ◌∷◌, map, take, is_some, codes, Result, Ok, Err}
use Rattle.std.specs.List.{flat_map}
use Rattle.kt_history.specs.declared.change.Outcome.{Outcome}
use Rattle.kt_script.specs.Texts.{spaced, outcome_word}
use Rattle.kt_script.specs.Outputs.{outcome_in, first_in, event_in, last_in}
use Rattle.kt_script.specs.Places.{IsFault}
use Rattle.kt_script.specs.Fronts.{Chain, IsWord, IsNumber}

-- the greatest number of 64 bits
abbrev pub LONG : ℕ
LONG = 18446744073709551615

-- the greatest number of 32 bits
abbrev pub SHORT : ℕ
SHORT = 4294967295

-- this text with a number behind it
abbrev pub IsCounted : List ℕ → ℕ → List ℕ → Type 0
IsCounted before most text = Chain (IsWord before) (IsNumber most) text

-- numbers up to these, with a space before each
abbrev pub AreCounts : List ℕ → List ℕ → Type 0
AreCounts [] text = text ≡ []
AreCounts (most ∷ more) text = Chain (IsCounted (32 ∷ []) most) (AreCounts more) text

-- a word with such numbers behind it
abbrev pub IsForm : List ℕ → List ℕ → List ℕ → Type 0
IsForm word mosts text = Chain (IsWord word) (AreCounts mosts) text

-- the place up to which a text goes on, and whether it is a whole spelling there
abbrev pub IsFront : (List ℕ → Type 0) → List ℕ → Result ℕ ℕ → Type 0
IsFront L text (Ok n) = IsFault L text n × L (take n text)
IsFront L text (Err n) = IsFault L text n × ¬ L (take n text)

-- outcomes, with a space before each
abbrev pub AreOutcomes : List ℕ → Type 0
AreOutcomes text = (os : List Outcome) × (text ≡ flat_map spaced (map outcome_word os))

abbrev pub IsOutcome : List ℕ → Type 0
IsOutcome text = is_some (outcome_in text) ≡ true

abbrev pub IsSpacedOutcome : List ℕ → Type 0
IsSpacedOutcome text = Chain (IsWord (32 ∷ [])) IsOutcome text

-- a line of the history
abbrev pub IsEventLine : List ℕ → Type 0
IsEventLine text = is_some (event_in text) ≡ true

-- the last line
abbrev pub IsLastLine : List ℕ → Type 0
IsLastLine text = is_some (last_in text) ≡ true

-- the first line of a reply
abbrev pub IsReplyLine : List ℕ → Type 0
IsReplyLine text = is_some (first_in text) ≡ true

-- a write's reply: a timestamp, and outcomes behind it
abbrev pub IsWriteLine : List ℕ → Type 0
IsWriteLine text = Chain (IsCounted (codes "at ") LONG) AreOutcomes text

-- the last line with its numbers
abbrev pub IsNumbersLine : List ℕ → Type 0
IsNumbersLine text = Chain (IsCounted (codes "tablet ahm ") LONG) (Chain (IsCounted (codes " last ") LONG) (IsCounted (codes " rowsets ") LONG)) text
