-- The text of an opening: which line may stand where, what the lines say together, and the place of the first that may not.
use Rattle.std.specs.Prelude.{ℕ, zero, suc, ◌+◌, ◌-◌, Bool, true, List, [], ◌∷◌, ◌++◌, length, slice_get, Option, Some, None, Result, Ok, Err, if◌then◌else◌, codes}
use Rattle.std.specs.Option.{option_map}
use Rattle.std.specs.Ordering.{is_lt}
use Rattle.std.specs.FinMap.Entries.{find}
use Rattle.kt_base.specs.Literals.{same}
use Rattle.kt_schema.specs.declared.column.Column.{Column}
use Rattle.kt_history.specs.declared.change.Change.{Change}
use Rattle.kt_history.specs.Rows.{Rows, Changes, fits, changed, key_cmp}
use Rattle.kt_history.specs.History.{Past, PastWrite}
use Rattle.kt_script.specs.Pieces.{cut}
use Rattle.kt_judge.specs.Openings.{past_of}
use Rattle.kt_opening.specs.declared.lines.Due.{Due}
use Rattle.kt_opening.specs.declared.lines.Due.TheVariants as is_due
use Rattle.kt_opening.specs.declared.lines.Stop.{Stop}
use Rattle.kt_opening.specs.declared.opening_text.Read.{Read}
use Rattle.kt_opening.specs.OpeningLines.{begin_in, count_in, turn_in, row_in, change_in}

-- ---- keys that rise

-- a key is above the last one
abbrev pub is_behind : {A : Type 0} → Option (List ℕ × A) → List ℕ → Bool
is_behind None key = true
is_behind (Some last) key = is_lt (key_cmp last.0 key)

abbrev pub is_next : {A : Type 0} → List (List ℕ × A) → List ℕ → Bool
is_next entries key = is_behind (slice_get entries (length entries - 1)) key

-- the entries with one more, if it is there and its key is above theirs
abbrev pub joined : {A : Type 0} → List (List ℕ × A) → Option (List ℕ × A) → Option (List (List ℕ × A))
joined entries None = None
joined entries (Some e) = if is_next entries e.0 then Some (entries ++ e ∷ []) else None

-- ---- stages

-- What stands above a line, and what is due: the first line; the second, below this mark and this last timestamp; a row and so
-- many behind it; a write with a timestamp above this one, or the end; a change of a write at this timestamp and so many behind it.
pub data Stage : Type 0 where
  begin : Stage
  count : ℕ → ℕ → Stage
  rows : ℕ → Past → ℕ → Stage
  turn : ℕ → ℕ → Past → Stage
  changes : ℕ → Past → ℕ → Changes → ℕ → Stage

-- with so many rows due
abbrev pub rows_due : ℕ → Past → ℕ → Stage
rows_due c past zero = turn c past.mark past
rows_due c past (suc due) = rows c past due

-- with so many changes due
abbrev pub changes_due : ℕ → Past → ℕ → Changes → ℕ → Stage
changes_due c past ts done zero = turn c ts (record past { writes = past.writes ++ record { ts = ts; changes = done } ∷ [] })
changes_due c past ts done (suc due) = changes c past ts done due

abbrev pub no_rows : ℕ → Past
no_rows a = record { mark = a; base = []; writes = [] }

-- the rows after some writes
abbrev pub written : List PastWrite → Rows → Rows
written [] base = base
written (w ∷ writes) base = written writes (changed w.changes base)

-- the rows after all writes
abbrev pub rows_now : Past → Rows
rows_now past = written past.writes past.base

-- the change, if it is there and fits the row that its key has
abbrev pub fitting : Rows → Option (List ℕ × Change) → Option (List ℕ × Change)
fitting table None = None
fitting table (Some c) = if fits c.1 (find key_cmp c.0 table) then Some c else None

-- what stands above the next line, if a line may stand
abbrev pub after : List Column → Stage → List ℕ → Option Stage
after columns begin line = option_map (λ (head : ℕ × ℕ). count head.0 head.1) (begin_in line)
after columns (count a c) line = option_map (rows_due c (no_rows a)) (count_in line)
after columns (rows c past due) line = option_map (λ (base : Rows). rows_due c (record past { base = base }) due) (joined past.base (row_in columns line))
after columns (turn c low past) line = option_map (λ (write : ℕ × ℕ). changes_due c past write.0 [] write.1) (turn_in low c line)
after columns (changes c past ts done due) line = option_map (λ (more : Changes). changes_due c past ts more due) (joined done (fitting (rows_now past) (change_in columns line)))

-- ---- whole openings

-- What an opening says: a past, and its last timestamp; and where the text behind it begins.
pub record Found : Type 0 where
  pub past : Past
  pub last : ℕ
  pub at : ℕ

-- the end, where no row and no change is due
abbrev pub found : Stage → ℕ → Option Found
found (turn c low past) at = Some (record { past = past; last = c; at = at })
found _ at = None

-- what is found behind a line `output`
abbrev pub ending : Stage → List ℕ → ℕ → Option Found
ending stage line at = if same line (codes "output") then found stage at else None

-- what is due
abbrev pub due_of : Stage → Due
due_of begin = is_due.Head
due_of (count a c) = is_due.Count
due_of (rows c past left) = is_due.Row
due_of (turn c low past) = is_due.Turn low c
due_of (changes c past ts done left) = is_due.Change

-- it stops here
abbrev pub stop : Stage → ℕ → Stop
stop stage at = record { at = at; due = due_of stage }

abbrev pub or_else : Option Found → Result Found Stop → Result Found Stop
or_else (Some f) later = Ok f
or_else None later = later

abbrev pub or_stop : Stop → Option (Result Found Stop) → Result Found Stop
or_stop here None = Err here
or_stop here (Some later) = later

-- What some lines say from a stage on, the first of which begins at a place, or where the first line stands that may not. The last piece is what follows the last newline.
abbrev pub opening_from : List Column → Stage → ℕ → List (List ℕ) → Result Found Stop
opening_from columns stage at [] = Err (stop stage at)
opening_from columns stage at (rest ∷ []) = Err (stop stage at)
opening_from columns stage at (line ∷ more ∷ pieces) =
    or_else (ending stage line (at + length line + 1))
    (or_stop (stop stage at) (option_map (λ next. opening_from columns next (at + length line + 1) (more ∷ pieces)) (after columns stage line)))

-- what a text says that begins with an opening
abbrev pub opening_in : List Column → List ℕ → Result Found Stop
opening_in columns text = opening_from columns begin 0 (cut 10 text)

-- what an opening says that was read
abbrev pub found_of : Read → Found
found_of r = record { past = past_of r.opening; last = r.opening.c; at = r.at }
