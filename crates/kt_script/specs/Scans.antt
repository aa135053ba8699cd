-- Scan lines: what a line says, and why it is refused.
use Rattle.std.specs.Prelude.{◌≡◌, ◌<◌, ℕ, zero, suc, min, not, is_some, List, [], ◌∷◌, ◌++◌, length, Option, Some, None, if◌then◌else◌, ◌==◌, Result, Ok, Err, codes}
use Rattle.std.proofs.Common.{Bor}
use Rattle.std.specs.List.{list_any, filter_map}
use Rattle.std.specs.Option.{option_map, option_or, option_and_then}
use Rattle.kt_base.specs.declared.cell.Kind.TheVariants as kind
use Rattle.kt_base.specs.declared.cell.Cell.{Cell}
use Rattle.kt_base.specs.declared.literal.LiteralNo.{LiteralNo}
use Rattle.kt_base.specs.declared.literal.LiteralNo.TheVariants as no
use Rattle.kt_base.specs.Literals.{same, cell_in}
use Rattle.kt_schema.specs.Names.{is_name}
use Rattle.kt_schema.specs.declared.column.Column.{Column}
use Rattle.kt_history.specs.declared.scan.At.{At}
use Rattle.kt_history.specs.declared.scan.At.TheVariants.{Looked, Given}
use Rattle.kt_history.specs.declared.scan.Test.{Test}
use Rattle.kt_history.specs.declared.scan.Test.TheVariants as test
use Rattle.kt_history.specs.declared.scan.Pred.{Pred}
use Rattle.kt_history.specs.declared.scan.Scan.{Scan}
use Rattle.kt_script.specs.declared.columns.LineNo.{LineNo}
use Rattle.kt_script.specs.declared.columns.LineNo.TheVariants as line
use Rattle.kt_script.specs.declared.asked.Sign.{Sign}
use Rattle.kt_script.specs.declared.asked.Sign.TheVariants.{Equal, Below, AtMost, Above, AtLeast}
use Rattle.kt_script.specs.declared.asked.Question.{Question}
use Rattle.kt_script.specs.declared.asked.Question.TheVariants as question
use Rattle.kt_script.specs.declared.test_words.TakenTest.{TakenTest}
use Rattle.kt_script.specs.Pieces.{cut, words_in}
use Rattle.kt_script.specs.Reasons.{sound, Reads, reason_if, cell_value}
use Rattle.kt_script.specs.Writes.{name_in, behind_name, column_named}
use Rattle.kt_script.specs.Times.{time_in, at_no}

-- What is said of a column: a comparison with the text of a literal, or whether it is null.
pub data Asked : Type 0 where
  compared : Sign → List ℕ → Asked
  null : Asked
  not_null : Asked

-- A test of the column of this name.
pub record PredLine : Type 0 where
  pub name : List ℕ
  pub asked : Asked

-- a sign that may have = behind it
abbrev pub or_equal : Sign → Sign → List ℕ → Asked
or_equal strict loose [] = compared strict []
or_equal strict loose (b ∷ literal) = if b == 61 then compared loose literal else compared strict (b ∷ literal)

-- the sign and the literal behind a name
abbrev pub signed : List ℕ → Option Asked
signed [] = None
signed (b ∷ rest) = if b == 61 then Some (compared Equal rest) else (if b == 60 then Some (or_equal Below AtMost rest) else (if b == 62 then Some (or_equal Above AtLeast rest) else None))

-- the words behind a test, and the test
abbrev pub Taken : Type 0
Taken = PredLine × List (List ℕ)

-- the words behind this one, if it stands first
abbrev pub behind_word : List ℕ → List (List ℕ) → Option (List (List ℕ))
behind_word first [] = None
behind_word first (word ∷ words) = if same word first then Some words else None

-- what is asked, and the words behind it
abbrev pub Asking : Type 0
Asking = Asked × List (List ℕ)

-- behind "is": null, or not null
abbrev pub is_asked : List (List ℕ) → Option Asking
is_asked words = option_or (option_map (λ ws. (null, ws)) (behind_word (codes "null") words)) (option_map (λ ws. (not_null, ws)) (option_and_then (behind_word (codes "null")) (behind_word (codes "not") words)))

abbrev pub null_asked : List (List ℕ) → Option Asking
null_asked words = option_and_then is_asked (behind_word (codes "is") words)

-- what is asked by a sign, or by the words behind the name
abbrev pub asked_at : Option Asked → List (List ℕ) → Option Asking
asked_at None words = null_asked words
asked_at (Some asked) words = Some (asked, words)

abbrev pub taken_of : List ℕ → Asking → Taken
taken_of name x = (record { name = name; asked = x.0 }, x.1)

-- the first test of some words
abbrev pub pred_at : List (List ℕ) → Option Taken
pred_at [] = None
pred_at (word ∷ words) = if is_name (name_in word) then option_map (taken_of (name_in word)) (asked_at (signed (behind_name word)) words) else None

-- a test and those behind it, with "and" between them
abbrev pub behind_pred : (List (List ℕ) → Option (List PredLine)) → PredLine → List (List ℕ) → Option (List PredLine)
behind_pred later pred [] = Some (pred ∷ [])
behind_pred later pred (word ∷ words) = if same word (codes "and") then option_map (λ preds. pred ∷ preds) (later words) else None

abbrev pub preds_after : (List (List ℕ) → Option (List PredLine)) → Option Taken → Option (List PredLine)
preds_after later None = None
preds_after later (Some taken) = behind_pred later taken.0 taken.1

-- the tests that some words say, at most so many
abbrev pub preds_in : ℕ → List (List ℕ) → Option (List PredLine)
preds_in zero words = None
preds_in (suc n) words = preds_after (preds_in n) (pred_at words)

-- What a scan line says behind its time: the names that it selects, if it does, and its tests.
pub record ScanLine : Type 0 where
  pub names : Option (List (List ℕ))
  pub preds : List PredLine

abbrev pub with_preds : Option (List (List ℕ)) → Option (List PredLine) → Option ScanLine
with_preds names None = None
with_preds names (Some preds) = Some (record { names = names; preds = preds })

-- the tests of a line: none, or those behind "where"
abbrev pub tests_in : List (List ℕ) → Option (List PredLine)
tests_in [] = Some []
tests_in (word ∷ words) = if same word (codes "where") then preds_in (length words) words else None

abbrev pub where_line : Option (List (List ℕ)) → List (List ℕ) → Option ScanLine
where_line names words = with_preds names (tests_in words)

-- behind the time: nothing more, or "select" and names, and then "where" and tests
abbrev pub select_line : List (List ℕ) → Option ScanLine
select_line [] = where_line None []
select_line (word ∷ []) = None
select_line (word ∷ names ∷ words) = if same word (codes "select") then where_line (Some (cut 44 names)) words else where_line None (word ∷ names ∷ words)

-- when a scan reads, and the words behind that
abbrev pub Timed : Type 0
Timed = At × List (List ℕ)

-- behind "scan at"
abbrev pub given : List (List ℕ) → Option Timed
given [] = None
given (word ∷ words) = option_map (λ t. (Given t, words)) (time_in word)

-- behind "scan": the present, or a time
abbrev pub timed : List (List ℕ) → Option Timed
timed [] = None
timed (word ∷ words) = if same word (codes "now") then Some (Looked, words) else (if same word (codes "at") then given words else None)

-- a name of the schema
abbrev pub name_no : List Column → List ℕ → ℕ
name_no columns name = if is_name name then reason_if (not (is_some (column_named columns name))) 13 else 12

-- each selected name once
abbrev pub names_no : List Column → List (List ℕ) → List (List ℕ) → ℕ
names_no columns seen [] = sound
names_no columns seen (name ∷ names) = min (name_no columns name) (min (reason_if (list_any (λ n. same n name) seen) 13) (names_no columns (seen ++ name ∷ []) names))

-- null is not compared
abbrev pub compared_reason : Result Cell LiteralNo → ℕ
compared_reason (Ok c) = sound
compared_reason (Err no.Form) = 12
compared_reason (Err no.Null) = 12
compared_reason (Err no.Kind) = 14
compared_reason (Err no.Long) = 16
compared_reason (Err no.Memory) = sound

-- a literal that is not null, of any kind
abbrev pub literal_reason : Result Cell LiteralNo → ℕ
literal_reason (Err no.Form) = 12
literal_reason (Err no.Null) = 12
literal_reason read = sound

abbrev pub asked_no : Option Column → Asked → ℕ
asked_no None (compared sign literal) = min 13 (literal_reason (cell_in kind.Bool literal))
asked_no None null = 13
asked_no None not_null = 13
asked_no (Some c) (compared sign literal) = compared_reason (cell_in c.kind literal)
asked_no (Some c) null = sound
asked_no (Some c) not_null = sound

abbrev pub preds_no : List Column → List PredLine → ℕ
preds_no columns [] = sound
preds_no columns (p ∷ preds) = min (asked_no (column_named columns p.name) p.asked) (preds_no columns preds)

abbrev pub select_no : List Column → Option (List (List ℕ)) → ℕ
select_no columns None = sound
select_no columns (Some names) = names_no columns [] names

-- why the words behind a scan's time are refused
abbrev pub line_no : List Column → Option ScanLine → ℕ
line_no columns None = 12
line_no columns (Some line) = min (select_no columns line.names) (preds_no columns line.preds)

abbrev pub timed_no : List Column → Option Timed → ℕ
timed_no columns None = 12
timed_no columns (Some said) = min (at_no said.0) (line_no columns (select_line said.1))

-- why a scan is refused
abbrev pub scan_no : List Column → List (List ℕ) → ℕ
scan_no columns words = timed_no columns (timed words)

-- the id of a column, if it is there
abbrev pub id_of : Option Column → Option ℕ
id_of None = None
id_of (Some c) = Some c.id

abbrev pub ids_of : List Column → List (List ℕ) → List ℕ
ids_of columns names = filter_map (λ name. id_of (column_named columns name)) names

abbrev pub test_of : Column → Asked → Test
test_of c (compared Equal literal) = test.Eq (cell_value c.kind literal)
test_of c (compared Below literal) = test.Lt (cell_value c.kind literal)
test_of c (compared AtMost literal) = test.Le (cell_value c.kind literal)
test_of c (compared Above literal) = test.Gt (cell_value c.kind literal)
test_of c (compared AtLeast literal) = test.Ge (cell_value c.kind literal)
test_of c null = test.IsNull
test_of c not_null = test.NotNull

abbrev pub pred_of : Option Column → Asked → Option Pred
pred_of None asked = None
pred_of (Some c) asked = Some (record { column = c.id; test = test_of c asked })

abbrev pub preds_of : List Column → List PredLine → List Pred
preds_of columns preds = filter_map (λ (p : PredLine). pred_of (column_named columns p.name) p.asked) preds

abbrev pub scan_said : List Column → At → Option ScanLine → Scan
scan_said columns at None = record { at = at; columns = None; preds = [] }
scan_said columns at (Some line) = record { at = at; columns = option_map (ids_of columns) line.names; preds = preds_of columns line.preds }

abbrev pub timed_scan : List Column → Option Timed → Scan
timed_scan columns None = scan_said columns Looked None
timed_scan columns (Some said) = scan_said columns said.0 (select_line said.1)

-- the scan that a line says
abbrev pub scan_of : List Column → List (List ℕ) → Scan
scan_of columns words = timed_scan columns (timed words)

-- the names behind a comma, of what is left of them
abbrev pub names_in : Option (Bor (List ℕ)) → List (List ℕ)
names_in None = []
names_in (Some rest) = cut 44 rest.now

-- a question as its words ask it
abbrev pub asked_view : Question → Asked
asked_view (question.Compared sign literal) = compared sign literal.now
asked_view question.Null = null
asked_view question.NotNull = not_null

-- a question and the words behind it, as they are read
abbrev pub asking_view : Question × Option (Bor (List ℕ)) → Asking
asking_view x = (asked_view x.0, words_in x.1)

-- a test and the words behind it, as they are read
abbrev pub taken_view : TakenTest → Taken
taken_view t = (record { name = t.name.now; asked = asked_view t.question }, words_in t.rest)

-- tests that are read, if the words say tests, and the least reason before and behind them
abbrev pub ReadsPreds : List Column → ℕ → ℕ → Option (List PredLine) → Option (List Pred) → Type 0
ReadsPreds columns old new None None = Unit {0}
ReadsPreds columns old new None (Some preds) = ⊥
ReadsPreds columns old new (Some lines) None = ⊥
ReadsPreds columns old new (Some lines) (Some preds) = (preds ≡ preds_of columns lines) × (new ≡ min old (preds_no columns lines))

-- the scan of a time, a selection and tests, unless a reason holds
abbrev pub IsMade : At → Option (List ℕ) → List Pred → ℕ → Result Scan LineNo → Type 0
IsMade at columns preds reason (Ok scan) = (reason ≡ sound) × (scan ≡ record { at = at; columns = columns; preds = preds })
IsMade at columns preds reason (Err (line.Reason r)) = (reason ≡ r) × (r < sound)
IsMade at columns preds reason (Err line.Memory) = ⊥

-- the scan at a time, as it is said behind that, or its reason
abbrev pub ReadsLine : List Column → At → Option ScanLine → Result Scan LineNo → Type 0
ReadsLine columns at said result = Reads (line_no columns said) (scan_said columns at said) result

-- the scan of a time and the words behind it, or its reason
abbrev pub ReadsTimed : List Column → Option Timed → Result Scan LineNo → Type 0
ReadsTimed columns said result = Reads (timed_no columns said) (timed_scan columns said) result

-- the scan of a line, or its reason
abbrev pub ReadsScan : List Column → List (List ℕ) → Result Scan LineNo → Type 0
ReadsScan columns words result = ReadsTimed columns (timed words) result
