-- Where no opening goes on in a text that begins with none.
use Rattle.std.specs.Prelude.{◌≡◌, ◌≤◌, ℕ, ◌+◌, List, drop, length, Err}
use Rattle.kt_schema.specs.declared.column.Column.{Column}
use Rattle.kt_script.specs.Pieces.{cut}
use Rattle.kt_opening.specs.declared.lines.Stop.{Stop}
use Rattle.kt_opening.specs.declared.opening_text.OpeningNo.{OpeningNo}
use Rattle.kt_opening.specs.declared.opening_text.OpeningNo.TheVariants as no
use Rattle.kt_opening.specs.LineFronts.{IsPlaceFrom}
use Rattle.kt_opening.specs.OpeningTexts.{opening_in}

-- in the first line that may not stand, where that is at fault
abbrev pub IsOpeningPlace : List Column → List ℕ → ℕ → Type 0
IsOpeningPlace columns text place = (s : Stop) × (opening_in columns text ≡ Err s) × (far : ℕ) × (place ≡ s.at + far) × IsPlaceFrom s.due (cut 10 (drop s.at text)) far

-- Why no opening is read: it has the place where none goes on. Nothing is said where memory is wanting.
abbrev pub IsNoOpening : List Column → List ℕ → OpeningNo → Type 0
IsNoOpening columns text (no.Place offset) = IsOpeningPlace columns text offset
IsNoOpening columns text no.Memory = Unit {0}

-- the place is in the text, or at its end
abbrev pub IsInside : List ℕ → OpeningNo → Type 0
IsInside text (no.Place offset) = offset ≤ length text
IsInside text no.Memory = Unit {0}
