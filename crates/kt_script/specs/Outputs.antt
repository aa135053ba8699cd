-- Output texts with each row as its line: what each line says, and which output has a text.
use Rattle.std.specs.Prelude.{◌≡◌, ◌≢◌, ◌^◌, ℕ, Bool, true, List, [], ◌∷◌, length, map, All, Option, Some, None, is_some, nat_lt, if◌then◌else◌, codes}
use Rattle.std.proofs.Common.{Bor}
use Rattle.std.specs.Fmt.{decimal}
use Rattle.std.specs.List.{list_all, AllByRecursion}
use Rattle.std.specs.Option.{option_map, option_and_then}
use Rattle.std.specs.Str.Parse.{digits_value}
use Rattle.kt_base.specs.declared.cell.Kind.{Kind}
use Rattle.kt_base.specs.declared.cell.Cell.{Cell}
use Rattle.kt_base.specs.declared.cell.Cell.TheVariants as cell
use Rattle.kt_base.specs.Literals.{same, value_in, fits, CellBytes}
use Rattle.kt_history.specs.declared.change.Outcome.{Outcome}
use Rattle.kt_history.specs.declared.change.Outcome.TheVariants.{Done, Present, Absent, Ignored}
use Rattle.kt_history.specs.declared.event.Event.{Event}
use Rattle.kt_history.specs.declared.event.Event.TheVariants as event
use Rattle.kt_history.specs.declared.reply.Reply.{Reply}
use Rattle.kt_history.specs.declared.reply.Reply.TheVariants as told
use Rattle.kt_script.specs.declared.lists.ShownReply.{ShownReply}
use Rattle.kt_script.specs.declared.output.LastLine.{LastLine}
use Rattle.kt_script.specs.declared.output.LastLine.TheVariants as last
use Rattle.kt_script.specs.declared.replies.ReplyLine.{ReplyLine}
use Rattle.kt_script.specs.declared.replies.ReplyLine.TheVariants as reply
use Rattle.kt_script.specs.declared.reread.Output.{Output}
use Rattle.kt_script.specs.declared.reread.CodecNo.{CodecNo}
use Rattle.kt_script.specs.declared.reread.CodecNo.TheVariants as no
use Rattle.kt_script.specs.declared.out_lines.FirstLine.{FirstLine}
use Rattle.kt_script.specs.Texts.{line_numbers, rows_in, told_text, event_numbers, output_text, seen}
use Rattle.kt_script.specs.Pieces.{cut, words_of}
use Rattle.kt_script.specs.Places.{IsFault}
use Rattle.kt_script.specs.Laws.{Fits64, Fits32, short_of_reply, short_of_event, LastFits, OutputFits}

-- the text of an output
abbrev pub text_of : Output → List ℕ
text_of out = told_text out.replies out.events out.last

-- ---- words and lines

-- the words of what is left of a line
abbrev pub pieces_in : Option (Bor (List ℕ)) → List (List ℕ)
pieces_in None = []
pieces_in (Some rest) = cut 32 rest.now

-- a decimal number without leading zeros, of 64 bits
abbrev pub number_in : List ℕ → Option ℕ
number_in word = if same (decimal (digits_value 10 word)) word then (if nat_lt (digits_value 10 word) (2 ^ 64) then Some (digits_value 10 word) else None) else None

abbrev pub onto : {A : Type 0} → A → Option (List A) → Option (List A)
onto a others = option_map (λ more. a ∷ more) others

-- what each of some words says
abbrev pub each_in : {A : Type 0} → (List ℕ → Option A) → List (List ℕ) → Option (List A)
each_in read [] = Some []
each_in read (word ∷ more) = option_and_then (λ a. onto a (each_in read more)) (read word)

abbrev pub numbers_in : List (List ℕ) → Option (List ℕ)
numbers_in words = each_in number_in words

-- a value where the word is this one, and else what is said later
abbrev pub if_word : {A : Type 0} → List ℕ → List ℕ → A → Option A → Option A
if_word word name a later = if same word name then Some a else later

abbrev pub outcome_in : List ℕ → Option Outcome
outcome_in word = if_word word (codes "ok") Done (if_word word (codes "present") Present (if_word word (codes "absent") Absent (if_word word (codes "ignored") Ignored None)))

abbrev pub outcomes_in : List (List ℕ) → Option (List Outcome)
outcomes_in words = each_in outcome_in words

-- a number of 32 bits
abbrev pub is_short : ℕ → Bool
is_short n = nat_lt n (2 ^ 32)

-- the first line of a reply, before its rows: the reply without them, and how many there are
abbrev pub first : ReplyLine → FirstLine
first r = record { reply = r; due = 0 }

-- a reply by its word and the numbers after it
abbrev pub first_from : List ℕ → List ℕ → Option FirstLine
first_from word [] = if_word word (codes "done") (first reply.Done) (if_word word (codes "stopped") (first reply.Stopped) None)
first_from word (a ∷ []) = if_word word (codes "ahm") (first (reply.Ahm a)) (if is_short a then if_word word (codes "large") (first (reply.Large a)) None else None)
first_from word (a ∷ b ∷ []) = if_word word (codes "rows") (record { reply = reply.Rows a []; due = b }) (if_word word (codes "ancient") (first (reply.Ancient a b)) (if_word word (codes "busy") (first (reply.Busy a b)) None))
first_from word _ = None

-- a write's reply, by what stands behind its word
abbrev pub at_in : List (List ℕ) → Option FirstLine
at_in [] = None
at_in (ts ∷ more) = option_and_then (λ n. option_map (λ outcomes. first (reply.At n outcomes)) (outcomes_in more)) (number_in ts)

abbrev pub first_of_words : List (List ℕ) → Option FirstLine
first_of_words [] = None
first_of_words (word ∷ more) = if same word (codes "at") then at_in more else option_and_then (first_from word) (numbers_in more)

abbrev pub first_in : List ℕ → Option FirstLine
first_in text = first_of_words (cut 32 text)

-- a command's event, by the numbers behind those of its session and its place there
abbrev pub event_at : List ℕ → ℕ → ℕ → List ℕ → Option Event
event_at word s i [] = if_word word (codes "chore") (event.Chore s i) None
event_at word s i (a ∷ []) = if_word word (codes "end") (event.End s i a) (if_word word (codes "rows") (event.Rows s i a) (if_word word (codes "mark") (event.Mark s i a) (if is_short a then if_word word (codes "large") (event.Large s i a) None else None)))
event_at word s i (a ∷ b ∷ []) = if_word word (codes "begin") (event.Begin s i a b) (if_word word (codes "look") (event.Look s i a b) (if_word word (codes "ancient") (event.Ancient s i a b) (if_word word (codes "busy") (event.Busy s i a b) None)))
event_at word s i _ = None

abbrev pub event_from : List ℕ → List ℕ → Option Event
event_from word [] = if_word word (codes "stop") event.Stop None
event_from word (s ∷ []) = None
event_from word (s ∷ i ∷ more) = if is_short s then (if is_short i then event_at word s i more else None) else None

abbrev pub event_of_words : List (List ℕ) → Option Event
event_of_words [] = None
event_of_words (word ∷ more) = option_and_then (event_from word) (numbers_in more)

abbrev pub event_in : List ℕ → Option Event
event_in text = event_of_words (cut 32 text)

-- a number behind this word, and what follows it
abbrev pub counted : List ℕ → List (List ℕ) → Option (ℕ × List (List ℕ))
counted name [] = None
counted name (word ∷ []) = None
counted name (word ∷ digits ∷ more) = if same word name then option_map (λ n. (n, more)) (number_in digits) else None

abbrev pub unless_more : {A : Type 0} → A → List (List ℕ) → Option A
unless_more a [] = Some a
unless_more a (word ∷ more) = None

abbrev pub last_numbers : List (List ℕ) → Option LastLine
last_numbers words = option_and_then (λ a. option_and_then (λ c. option_and_then (λ n. unless_more (last.Numbers a.0 c.0 n.0) n.1) (counted (codes "rowsets") c.1)) (counted (codes "last") a.1)) (counted (codes "ahm") words)

abbrev pub last_of_words : List (List ℕ) → Option LastLine
last_of_words [] = None
last_of_words (word ∷ more) = if same word (codes "tablet") then last_numbers more else None

abbrev pub last_in : List ℕ → Option LastLine
last_in text = if same text (codes "tablet stopped") then Some last.Stopped else last_of_words (cut 32 text)

-- one or more literals
abbrev pub is_row : List ℕ → Bool
is_row text = list_all (λ word. is_some (value_in word)) (words_of text)

-- ---- outputs that a program can hold

abbrev pub IsRowLine : List ℕ → Type 0
IsRowLine text = All (λ b. b ≢ 10) text × (is_row text ≡ true)

pub record LineHolds (r : ReplyLine) : Type 0 where
  pub numbers : AllByRecursion Fits64 (line_numbers r)
  pub short : AllByRecursion Fits32 (short_of_reply r)
  pub rows : AllByRecursion IsRowLine (rows_in r)

pub record EventHolds (e : Event) : Type 0 where
  pub numbers : AllByRecursion Fits64 (event_numbers e)
  pub short : AllByRecursion Fits32 (short_of_event e)

pub record OutputHolds (out : Output) : Type 0 where
  pub count : Fits64 (length out.replies)
  pub replies : AllByRecursion (AllByRecursion LineHolds) out.replies
  pub events : AllByRecursion EventHolds out.events
  pub last : LastFits out.last

-- the text is that of this output
pub record IsTextOf (text : List ℕ) (out : Output) : Type 0 where
  pub holds : OutputHolds out
  pub text_is : text ≡ text_of out

-- some output has the text
abbrev pub HasOutput : List ℕ → Type 0
HasOutput text = (out : Output) × IsTextOf text out

-- the place is that of the first byte at which no output's text goes on, or the length where bytes are missing
abbrev pub IsPlace : List ℕ → CodecNo → Type 0
IsPlace text (no.Place offset) = IsFault HasOutput text offset
IsPlace text no.Memory = Unit {0}

-- no output has the text
abbrev pub IsNoOutput : List ℕ → CodecNo → Type 0
IsNoOutput text (no.Place offset) = (out : Output) → ¬ IsTextOf text out
IsNoOutput text no.Memory = Unit {0}

-- a text is that of one output
abbrev pub outputs_are_one : Type 0
outputs_are_one = (text : List ℕ) (a b : Output) → IsTextOf text a → IsTextOf text b → a ≡ b

-- what is printed, as it is read again: each row is its line
abbrev pub shown_output : List (List ShownReply) → List Event → LastLine → Output
shown_output replies events end = record { replies = map (map seen) replies; events = events; last = end }

abbrev pub printed_texts : Type 0
printed_texts = (replies : List (List ShownReply)) (events : List Event) (end : LastLine) → output_text replies events end ≡ text_of (shown_output replies events end)

-- an output that has a printed text is the one that was printed
abbrev pub outputs_give_back : Type 0
outputs_give_back = (replies : List (List ShownReply)) (events : List Event) (end : LastLine) (out : Output) → OutputFits replies events end → IsTextOf (output_text replies events end) out → out ≡ shown_output replies events end

-- a cell that has a literal in a column of this kind
abbrev pub CellHolds : Kind → Cell → Type 0
CellHolds kind cell.Null = Unit {0}
CellHolds kind c = (fits kind c ≡ true) × CellBytes c

abbrev pub CellsHold : List Kind → List Cell → Type 0
CellsHold kinds [] = Unit {0}
CellsHold [] (c ∷ cells) = Unit {0}
CellsHold (kind ∷ kinds) (c ∷ cells) = CellHolds kind c × CellsHold kinds cells

-- a row that shows a cell
abbrev pub RowHolds : List Kind → List Cell → Type 0
RowHolds (kind ∷ kinds) (c ∷ cells) = CellHolds kind c × CellsHold kinds cells
RowHolds _ _ = ⊥

abbrev pub rows_told : Reply → List (List Cell)
rows_told (told.Rows t rows) = rows
rows_told _ = []

abbrev pub RowsHold : ShownReply → Type 0
RowsHold shown = AllByRecursion (RowHolds shown.kinds) (rows_told shown.reply)

-- what is printed, and can be read again
pub record PrintedHolds (replies : List (List ShownReply)) (events : List Event) (end : LastLine) : Type 0 where
  pub fits : OutputFits replies events end
  pub rows : AllByRecursion (AllByRecursion RowsHold) replies

-- what is printed of cells that fit their columns is read again
abbrev pub printed_hold : Type 0
printed_hold = (replies : List (List ShownReply)) (events : List Event) (end : LastLine) → PrintedHolds replies events end → IsTextOf (output_text replies events end) (shown_output replies events end)
