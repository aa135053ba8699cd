-- How the parts of an opening are read.
use Rattle.std.specs.Prelude.{◌≡◌, ◌≤◌, ℕ, List, [], map, drop, length, Result, Ok, Err}
use Rattle.kt_schema.specs.declared.column.Column.{Column}
use Rattle.kt_history.specs.Rows.{Rows}
use Rattle.kt_history.specs.History.{Past, PastWrite}
use Rattle.kt_script.specs.Pieces.{cut}
use Rattle.kt_judge.specs.Openings.{write_of}
use Rattle.kt_opening.specs.declared.lines.Stop.{Stop}
use Rattle.kt_opening.specs.declared.live.Live.{Live}
use Rattle.kt_opening.specs.declared.parts.Head.{Head}
use Rattle.kt_opening.specs.declared.parts.Front.{Front}
use Rattle.kt_opening.specs.declared.parts.RowsPart.{RowsPart}
use Rattle.kt_opening.specs.declared.parts.ChangesPart.{ChangesPart}
use Rattle.kt_opening.specs.declared.parts.WritesPart.{WritesPart}
use Rattle.kt_opening.specs.declared.parts.PartNo.{PartNo}
use Rattle.kt_opening.specs.declared.parts.PartNo.TheVariants as part_no
use Rattle.kt_opening.specs.declared.opening_text.Read.{Read}
use Rattle.kt_opening.specs.OpeningTexts.{Stage, begin, count, turn, rows_due, changes_due, no_rows, rows_now, Found, opening_from, opening_in, found_of}
use Rattle.kt_opening.specs.Live.{IsLive}

-- what a text says from a stage and a place on
abbrev pub opening_at : List Column → List ℕ → Stage → ℕ → Result Found Stop
opening_at columns text stage at = opening_from columns stage at (cut 10 (drop at text))

-- the lines between two places lead from a stage to another
abbrev pub Leads : List Column → List ℕ → Stage → ℕ → Stage → ℕ → Type 0
Leads columns text from start to at = opening_at columns text from start ≡ opening_at columns text to at

-- a line may not stand
abbrev pub Stops : List Column → List ℕ → Stage → ℕ → Stop → Type 0
Stops columns text from start stop = (opening_at columns text from start ≡ Err stop) × (stop.at ≤ length text)

-- a line may not stand, or memory is wanting
abbrev pub Ends : List Column → List ℕ → Stage → ℕ → PartNo → Type 0
Ends columns text from start (part_no.At stop) = Stops columns text from start stop
Ends columns text from start part_no.Memory = Unit {0}

abbrev pub with_rows : ℕ → Rows → Past
with_rows a base = record { mark = a; base = base; writes = [] }

abbrev pub with_writes : ℕ → Rows → List PastWrite → Past
with_writes a base writes = record { mark = a; base = base; writes = writes }

-- the first line
abbrev pub IsHeadRead : List ℕ → Result Head Stop → Type 0
IsHeadRead text (Ok h) = (columns : List Column) → Leads columns text begin 0 (count h.a h.c) h.at
IsHeadRead text (Err stop) = (columns : List Column) → Stops columns text begin 0 stop

-- the first two lines
abbrev pub IsFrontRead : List ℕ → Result Front Stop → Type 0
IsFrontRead text (Ok f) = (columns : List Column) → Leads columns text begin 0 (rows_due f.c (no_rows f.a) f.rows) f.at
IsFrontRead text (Err stop) = (columns : List Column) → Stops columns text begin 0 stop

-- so many rows
abbrev pub AreRowsRead : List Column → List ℕ → ℕ → ℕ → Result RowsPart PartNo → Type 0
AreRowsRead columns text start due (Ok r) = (a c : ℕ) → Leads columns text (rows_due c (no_rows a) due) start (turn c a (with_rows a r.rows.items)) r.at
AreRowsRead columns text start due (Err why) = (a c : ℕ) → Ends columns text (rows_due c (no_rows a) due) start why

-- so many changes of a write, over rows with these keys
abbrev pub AreChangesRead : List Column → Live → List ℕ → ℕ → ℕ → Result ChangesPart PartNo → Type 0
AreChangesRead columns live text start due (Ok r) = (c : ℕ) (past : Past) (ts : ℕ) → IsLive live (rows_now past) → Leads columns text (changes_due c past ts [] due) start (changes_due c past ts r.changes.items 0) r.at
AreChangesRead columns live text start due (Err why) = (c : ℕ) (past : Past) (ts : ℕ) → IsLive live (rows_now past) → Ends columns text (changes_due c past ts [] due) start why

-- the writes and the line `output`, over rows with these keys
abbrev pub AreWritesRead : List Column → Live → List ℕ → ℕ → ℕ → ℕ → Result WritesPart PartNo → Type 0
AreWritesRead columns live text start a c (Ok r) = (base : Rows) → IsLive live base → opening_at columns text (turn c a (with_rows a base)) start ≡ Ok (record { past = with_writes a base (map write_of r.writes.items); last = c; at = r.at })
AreWritesRead columns live text start a c (Err why) = (base : Rows) → IsLive live base → Ends columns text (turn c a (with_rows a base)) start why

-- the parts together
abbrev pub IsWholeRead : List Column → List ℕ → Result Read PartNo → Type 0
IsWholeRead columns text (Ok r) = opening_in columns text ≡ Ok (found_of r)
IsWholeRead columns text (Err why) = Ends columns text begin 0 why
