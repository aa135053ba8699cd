-- Scripts: the first line that is refused, and what a script says where none is.
use Rattle.std.specs.Prelude.{◌≡◌, ◌<◌, ◌≤◌, Result, Ok, Err, ℕ, ◌+◌, min, Bool, true, false, not, List, [], ◌∷◌, ◌++◌, length, drop, map, Option, Some, None, if◌then◌else◌, nat_lt, nat_le, codes}
use Rattle.std.proofs.Common.{Bor}
use Rattle.std.specs.List.{sum_by, list_any}
use Rattle.kt_base.specs.Literals.{same}
use Rattle.kt_schema.specs.Columns.{key_columns, other_columns, fill_of}
use Rattle.kt_schema.specs.declared.column.Column.{Column}
use Rattle.kt_history.specs.Machine.{Workload}
use Rattle.kt_history.specs.declared.command.Command.{Command}
use Rattle.kt_history.specs.declared.command.Command.TheVariants as command
use Rattle.kt_script.specs.declared.columns.LineNo.{LineNo}
use Rattle.kt_script.specs.declared.columns.LineNo.TheVariants as line
use Rattle.kt_script.specs.declared.head.Head.{Head}
use Rattle.kt_script.specs.declared.head.Table.{Table}
use Rattle.kt_script.specs.declared.load.LoadLine.{LoadLine}
use Rattle.kt_script.specs.declared.refusal.ScriptNo.{ScriptNo}
use Rattle.kt_script.specs.declared.refusal.ScriptNo.TheVariants as why
use Rattle.kt_script.specs.Pieces.{cut, words_of, words_in}
use Rattle.kt_script.specs.declared.leads.Word.{Word}
use Rattle.kt_script.specs.declared.leads.Word.TheVariants as word
use Rattle.kt_script.specs.declared.leads.Lead.{Lead}
use Rattle.kt_script.specs.declared.leads.Lead.TheVariants as lead
use Rattle.kt_script.specs.Reasons.{sound, reason_if}
use Rattle.kt_script.specs.Columns.{begins_column, column_no, columns_with, keys_no, IsTable}
use Rattle.kt_script.specs.Writes.{write_no, write_of}
use Rattle.kt_script.specs.Times.{mark_no, mark_of}
use Rattle.kt_script.specs.Scans.{scan_no, scan_of}
use Rattle.kt_script.specs.Leads.{lead_in, alone_no}
use Rattle.kt_script.specs.Loads.{load_no, load_size, load_plan}

abbrev pub most_bytes : ℕ
most_bytes = 67108864

abbrev pub most_sessions : ℕ
most_sessions = 64

abbrev pub most_commands : ℕ
most_commands = 262144

-- why a command is refused, by its first word
abbrev pub command_no : List Column → Word → List (List ℕ) → ℕ
command_no columns word.Scan words = scan_no columns (drop 1 words)
command_no columns word.Mark words = mark_no (drop 1 words)
command_no columns (word.Chore c) words = alone_no words
command_no columns (word.Op k) words = write_no columns words

abbrev pub command_of : List Column → Word → List (List ℕ) → Command
command_of columns word.Scan words = command.Scan (scan_of columns (drop 1 words))
command_of columns word.Mark words = command.Mark (mark_of (drop 1 words))
command_of columns (word.Chore c) words = command.Chore c
command_of columns (word.Op k) words = command.Write (record { ops = write_of columns words })

-- how many commands there are, and whether a session is begun
abbrev pub commands_in : List (List Command) → ℕ
commands_in plan = sum_by (λ (commands : List Command). length commands) plan

abbrev pub is_begun : List (List Command) → Bool
is_begun plan = nat_lt 0 (length plan)

-- a session line is its word alone
abbrev pub session_no : List (List Command) → List (List ℕ) → ℕ
session_no plan words = min (alone_no words) (reason_if (nat_le most_sessions (length plan)) 20)

-- one command too many
abbrev pub full_no : List (List Command) → ℕ
full_no plan = reason_if (nat_le most_commands (commands_in plan)) 20

abbrev pub in_session_no : List Column → List (List Command) → Word → List (List ℕ) → ℕ
in_session_no columns plan w words = if is_begun plan then min (command_no columns w words) (full_no plan) else 11

abbrev pub led_no : List Column → List (List Command) → Option Lead → List (List ℕ) → ℕ
led_no columns plan None words = 11
led_no columns plan (Some lead.Session) words = session_no plan words
led_no columns plan (Some lead.Load) words = load_no columns plan words
led_no columns plan (Some (lead.Command w)) words = in_session_no columns plan w words

abbrev pub is_load : Option Lead → Bool
is_load (Some lead.Load) = true
is_load _ = false

abbrev pub first_lead : List (List ℕ) → Option Lead
first_lead [] = None
first_lead (text ∷ words) = lead_in text

abbrev pub body_no : List Column → List (List Command) → List (List ℕ) → ℕ
body_no columns plan words = led_no columns plan (first_lead words) words

-- the commands with one more in the last session
abbrev pub push_last : Command → List (List Command) → List (List Command)
push_last c [] = (c ∷ []) ∷ []
push_last c (commands ∷ []) = (commands ++ c ∷ []) ∷ []
push_last c (commands ∷ more ∷ plan) = commands ∷ push_last c (more ∷ plan)

abbrev pub led_plan : List Column → List (List Command) → Option Lead → List (List ℕ) → List (List Command)
led_plan columns plan None words = plan
led_plan columns plan (Some lead.Session) words = plan ++ [] ∷ []
led_plan columns plan (Some lead.Load) words = plan
led_plan columns plan (Some (lead.Command w)) words = push_last (command_of columns w words) plan

abbrev pub body_plan : List Column → List (List Command) → List (List ℕ) → List (List Command)
body_plan columns plan words = led_plan columns plan (first_lead words) words

-- What stands above a line: nothing, the first line and columns, or columns and the sessions below them, or columns and a load of so
-- many writes in place of all sessions.
pub data Above : Type 0 where
  start : Above
  head : List Column → Above
  body : List Column → List (List Command) → Above
  load : List Column → ℕ → Above

-- why a line is refused below these
abbrev pub line_no : Above → List ℕ → ℕ
line_no start line = reason_if (not (same line (codes "table"))) 3
line_no (head columns) line = if begins_column line then column_no columns line else (if list_any (λ c. c.key) columns then body_no columns [] (words_of line) else 5)
line_no (body columns plan) line = body_no columns plan (words_of line)
line_no (load columns n) line = min 12 (body_no columns [] (words_of line))

-- why a script must not end below these
abbrev pub end_no : Above → ℕ
end_no start = 3
end_no (head columns) = keys_no columns
end_no (body columns plan) = sound
end_no (load columns n) = sound

-- what stands below a line that is no column's
abbrev pub led_after : List Column → List (List Command) → Option Lead → List (List ℕ) → Above
led_after columns plan None words = body columns plan
led_after columns plan (Some lead.Session) words = body columns (led_plan columns plan (Some lead.Session) words)
led_after columns plan (Some lead.Load) words = load columns (load_size words)
led_after columns plan (Some (lead.Command w)) words = body columns (led_plan columns plan (Some (lead.Command w)) words)

abbrev pub body_after : List Column → List (List Command) → List (List ℕ) → Above
body_after columns plan words = led_after columns plan (first_lead words) words

-- what stands above the next line
abbrev pub after : Above → List ℕ → Above
after start line = head []
after (head columns) line = if begins_column line then head (columns_with columns line) else body_after columns [] (words_of line)
after (body columns plan) line = body_after columns plan (words_of line)
after (load columns n) line = load columns n

-- A fault: the number of a line, from 1, and the least reason that holds in it.
pub record Fault : Type 0 where
  pub number : ℕ
  pub reason : ℕ

abbrev pub fault_if : ℕ → ℕ → Option Fault → Option Fault
fault_if number reason later = if nat_lt reason sound then Some (record { number = number; reason = reason }) else later

-- what follows the last newline: nothing, or a line without its newline
abbrev pub rest_no : Above → List ℕ → ℕ
rest_no above [] = end_no above
rest_no above (b ∷ bytes) = 2

-- the first fault of some lines, the first of which has this number. The last piece is what follows the last newline
abbrev pub fault_from : Above → ℕ → List (List ℕ) → Option Fault
fault_from above number [] = None
fault_from above number (rest ∷ []) = fault_if number (rest_no above rest) None
fault_from above number (line ∷ more ∷ pieces) = fault_if number (line_no above line) (fault_from (after above line) (number + 1) (more ∷ pieces))

-- what stands above the end
abbrev pub above_end : Above → List (List ℕ) → Above
above_end above [] = above
above_end above (rest ∷ []) = above
above_end above (line ∷ more ∷ pieces) = above_end (after above line) (more ∷ pieces)

-- the first fault of a text
abbrev pub fault_of : List ℕ → Option Fault
fault_of text = if nat_lt most_bytes (length text) then Some (record { number = 0; reason = 1 }) else fault_from start 1 (cut 10 text)

-- What a script says: the columns of its table, and the commands of each session.
pub record Said : Type 0 where
  pub columns : List Column
  pub plan : List (List Command)

abbrev pub said : Above → Said
said start = record { columns = []; plan = [] }
said (head columns) = record { columns = columns; plan = [] }
said (body columns plan) = record { columns = columns; plan = plan }
said (load columns n) = record { columns = columns; plan = load_plan n }

abbrev pub said_unless : Option Fault → Said → Option Said
said_unless None script = Some script
said_unless (Some fault) script = None

-- what a text says, if it is a script
abbrev pub script_of : List ℕ → Option Said
script_of text = said_unless (fault_of text) (said (above_end start (cut 10 text)))

-- how many writes each session has where a load line stands in place of all sessions
abbrev pub load_in : Above → Option ℕ
load_in (load columns n) = Some n
load_in _ = None

-- so of a text
abbrev pub load_of : List ℕ → Option ℕ
load_of text = load_in (above_end start (cut 10 text))

-- the run of what a script says, over a pool of so many cells
abbrev pub workload : ℕ → Said → Workload
workload cells s = record { plan = s.plan; cells = cells; keys = map (λ c. (c.id, c.kind)) (key_columns s.columns); others = map (λ c. (c.id, c.kind)) (other_columns s.columns); fill = fill_of s.columns }

-- a line of a session is read: the sessions with what it says, or its reason
abbrev pub ReadsLed : {A : Type 0} → List Column → List (List Command) → Option Lead → List (List ℕ) → List (List Command) → Result A LineNo → Type 0
ReadsLed columns old l words new (Ok done) = (led_no columns old l words ≡ sound) × (new ≡ led_plan columns old l words)
ReadsLed columns old l words new (Err (line.Reason r)) = (led_no columns old l words ≡ r) × (r < sound)
ReadsLed columns old l words new (Err line.Memory) = Unit {0}

abbrev pub ReadsBody : {A : Type 0} → List Column → List (List Command) → List (List ℕ) → List (List Command) → Result A LineNo → Type 0
ReadsBody columns old words new result = ReadsLed columns old (first_lead words) words new result

-- a command more in the last session, unless it is one too many
abbrev pub IsPushed : {A : Type 0} → List (List Command) → Command → List (List Command) → Result A LineNo → Type 0
IsPushed old c new (Ok done) = (full_no old ≡ sound) × (new ≡ push_last c old)
IsPushed old c new (Err (line.Reason r)) = (full_no old ≡ r) × (r < sound)
IsPushed old c new (Err line.Memory) = Unit {0}

-- a fault that is told
abbrev pub at : ℕ → ℕ → Option Fault
at number reason = Some (record { number = number; reason = reason })

-- the first fault of the text, or want of memory
abbrev pub IsFirstFault : List ℕ → ScriptNo → Type 0
IsFirstFault text (why.Line n reason) = fault_of text ≡ at n reason
IsFirstFault text why.Memory = Unit {0}

-- the line at the front, if it has its newline
abbrev pub first_piece : List (List ℕ) → List ℕ
first_piece [] = []
first_piece (rest ∷ []) = []
first_piece (line ∷ more ∷ pieces) = line

-- the refusal of a line, by its number
abbrev pub located : ℕ → LineNo → ScriptNo
located number (line.Reason r) = why.Line number r
located number line.Memory = why.Memory

-- the first line and the text behind it, or no newline
abbrev pub IsLineCut : List ℕ → Option (Bor (List ℕ) × Bor (List ℕ)) → Type 0
IsLineCut text None = cut 10 text ≡ text ∷ []
IsLineCut text (Some line) = (cut 10 text ≡ line.0.now ∷ cut 10 line.1.now) × (length line.1.now < length text)

-- Columns that are read from below this, as line number: a fault, or the columns, and what is left below them, where no line is a column's.
abbrev pub IsReadFrom : Above → ℕ → List ℕ → Result Head ScriptNo → Type 0
IsReadFrom above number text (Ok h) = (fault_from above number (cut 10 text) ≡ fault_from (head h.columns.items) (length h.columns.items + 2) (cut 10 h.rest.now))
    × (above_end above (cut 10 text) ≡ above_end (head h.columns.items) (cut 10 h.rest.now))
    × (begins_column (first_piece (cut 10 h.rest.now)) ≡ false) × IsTable h.columns.items × (length h.rest.now ≤ length text)
IsReadFrom above number text (Err (why.Line n reason)) = fault_from above number (cut 10 text) ≡ at n reason
IsReadFrom above number text (Err why.Memory) = Unit {0}

abbrev pub IsColumns : List ℕ → Result Head ScriptNo → Type 0
IsColumns text result = IsReadFrom (head []) 2 text result

-- the columns of a text, or a fault of its first lines
abbrev pub IsHead : List ℕ → Result Head ScriptNo → Type 0
IsHead text result = IsReadFrom start 1 text result

-- The schema of a text, and what is left below its columns, or a fault up to there.
abbrev pub IsTableRead : List ℕ → Result Table ScriptNo → Type 0
IsTableRead text (Ok t) = (fault_from start 1 (cut 10 text) ≡ fault_from (head t.schema) (length t.schema + 2) (cut 10 t.rest.now))
    × (above_end start (cut 10 text) ≡ above_end (head t.schema) (cut 10 t.rest.now))
    × (begins_column (first_piece (cut 10 t.rest.now)) ≡ false) × IsTable t.schema × (list_any (λ c. c.key) t.schema ≡ true) × (length t.rest.now ≤ length text)
IsTableRead text (Err (why.Line n reason)) = fault_from start 1 (cut 10 text) ≡ at n reason
IsTableRead text (Err why.Memory) = Unit {0}

-- why a text that stands below columns without a key is refused in its first line
abbrev pub IsNoKey : List ℕ → ℕ → Type 0
IsNoKey rest reason = (columns : List Column) (n : ℕ) → list_any (λ c. c.key) columns ≡ false → begins_column (first_piece (cut 10 rest)) ≡ false → fault_from (head columns) n (cut 10 rest) ≡ at n reason

-- the first line begins a load
abbrev pub begins_load : List (List ℕ) → Bool
begins_load pieces = is_load (first_lead (words_of (first_piece pieces)))

-- A text whose first line begins a load, cut behind the word `load` and below that line.
pub record IsLoadText (text : List ℕ) (l : LoadLine) : Type 0 where
  pub line : List ℕ
  pub cut_is : cut 10 text ≡ line ∷ cut 10 l.below.now
  pub begins : first_lead (words_of line) ≡ Some lead.Load
  pub words : drop 1 (words_of line) ≡ words_in l.rest

-- the load line at the front of a text, or another line
abbrev pub IsLoadCut : List ℕ → Option LoadLine → Type 0
IsLoadCut text None = begins_load (cut 10 text) ≡ false
IsLoadCut text (Some l) = IsLoadText text l

-- the fault of what stands below a load line
abbrev pub IsBelowLoad : ℕ → List ℕ → ScriptNo → Type 0
IsBelowLoad number text (why.Line m reason) = (columns : List Column) (n : ℕ) → fault_from (load columns n) number (cut 10 text) ≡ at m reason
IsBelowLoad number text why.Memory = ⊥

-- nothing stands below a load line, or the fault of what does
abbrev pub IsLoadEnd : {A : Type 0} → ℕ → List ℕ → Result A ScriptNo → Type 0
IsLoadEnd number text (Ok done) = (columns : List Column) (n : ℕ) → fault_from (load columns n) number (cut 10 text) ≡ None
IsLoadEnd number text (Err fault) = IsBelowLoad number text fault
