-- The journal of the example.
use Rattle.std.specs.Prelude.{ℕ, List, map, slice_index, Option, Some}
use Rattle.kt_seatlock.specs.declared.uses.Line.{Line}
use Rattle.kt_seatlock.specs.declared.uses.Journal.{Journal}

abbrev pub line : ℕ → ℕ → Line
line by text = record { by = by; text = text }

-- a line for each text, in order
abbrev pub all_lines : ℕ → List ℕ → List Line
all_lines by texts = map (line by) texts

-- each line bears its writer's number
abbrev pub writer : Line → Option ℕ
writer x = Some x.by

abbrev pub lines_of : Journal → List Line
lines_of j = j.lines.items

-- how many lines the journal counts for a writer
abbrev pub count_of : Journal → ℕ → ℕ
count_of j k = slice_index j.counts.items k
