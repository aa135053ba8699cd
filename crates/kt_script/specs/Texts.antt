-- The output text: what is printed of the replies, the history and the last line.
use Rattle.std.specs.Prelude.{ℕ, suc, List, [], ◌∷◌, ◌++◌, length, map, codes}
use Rattle.std.specs.Fmt.{decimal}
use Rattle.std.specs.List.{flat_map}
use Rattle.kt_base.specs.declared.cell.Kind.{Kind}
use Rattle.kt_base.specs.declared.cell.Cell.{Cell}
use Rattle.kt_base.specs.Literals.{literal}
use Rattle.kt_history.specs.declared.change.Outcome.{Outcome}
use Rattle.kt_history.specs.declared.change.Outcome.TheVariants.{Done, Present, Absent, Ignored}
use Rattle.kt_history.specs.declared.event.Event.{Event}
use Rattle.kt_history.specs.declared.event.Event.TheVariants as event
use Rattle.kt_history.specs.declared.reply.Reply.{Reply}
use Rattle.kt_history.specs.declared.reply.Reply.TheVariants as told
use Rattle.kt_script.specs.declared.replies.ReplyLine.{ReplyLine}
use Rattle.kt_script.specs.declared.replies.ReplyLine.TheVariants as reply
use Rattle.kt_script.specs.declared.output.LastLine.{LastLine}
use Rattle.kt_script.specs.declared.output.LastLine.TheVariants as last
use Rattle.kt_script.specs.declared.lists.ShownReply.{ShownReply}

-- a line of text
abbrev pub line : List ℕ → List ℕ
line text = text ++ 10 ∷ []

-- a word after another one
abbrev pub spaced : List ℕ → List ℕ
spaced word = 32 ∷ word

-- words with one space between each two
abbrev pub words : List (List ℕ) → List ℕ
words [] = []
words (w ∷ ws) = w ++ flat_map spaced ws

-- the literals of a row, under columns of these kinds
abbrev pub literals : List Kind → List Cell → List (List ℕ)
literals kinds [] = []
literals [] (c ∷ cells) = []
literals (kind ∷ kinds) (c ∷ cells) = literal kind c ∷ literals kinds cells

abbrev pub row_text : List Kind → List Cell → List ℕ
row_text kinds cells = words (literals kinds cells)

abbrev pub outcome_word : Outcome → List ℕ
outcome_word Done = codes "ok"
outcome_word Present = codes "present"
outcome_word Absent = codes "absent"
outcome_word Ignored = codes "ignored"

-- the word of a reply
abbrev pub line_word : ReplyLine → List ℕ
line_word (reply.At ts outcomes) = codes "at"
line_word (reply.Rows t lines) = codes "rows"
line_word (reply.Ancient t a) = codes "ancient"
line_word (reply.Busy t f) = codes "busy"
line_word (reply.Ahm a) = codes "ahm"
line_word reply.Done = codes "done"
line_word (reply.Large n) = codes "large"
line_word reply.Stopped = codes "stopped"

-- the numbers after it
abbrev pub line_numbers : ReplyLine → List ℕ
line_numbers (reply.At ts outcomes) = ts ∷ []
line_numbers (reply.Rows t lines) = t ∷ length lines ∷ []
line_numbers (reply.Ancient t a) = t ∷ a ∷ []
line_numbers (reply.Busy t f) = t ∷ f ∷ []
line_numbers (reply.Ahm a) = a ∷ []
line_numbers reply.Done = []
line_numbers (reply.Large n) = n ∷ []
line_numbers reply.Stopped = []

-- the outcomes after these
abbrev pub line_outcomes : ReplyLine → List (List ℕ)
line_outcomes (reply.At ts outcomes) = map outcome_word outcomes
line_outcomes _ = []

-- the words of a reply's first line
abbrev pub line_words : ReplyLine → List (List ℕ)
line_words r = line_word r ∷ (map decimal (line_numbers r) ++ line_outcomes r)

-- the lines of its rows
abbrev pub rows_in : ReplyLine → List (List ℕ)
rows_in (reply.Rows t lines) = lines
rows_in _ = []

-- every line of a reply
abbrev pub lines_in : ReplyLine → List (List ℕ)
lines_in r = words (line_words r) ∷ rows_in r

abbrev pub lines_text : ReplyLine → List ℕ
lines_text r = flat_map line (lines_in r)

-- the first line of a session
abbrev pub session_line : ℕ → List ℕ
session_line number = words (codes "session" ∷ decimal number ∷ [])

abbrev pub told_session : ℕ → List ReplyLine → List ℕ
told_session number replies = line (session_line number) ++ flat_map lines_text replies

-- the sessions, numbered from this one on
abbrev pub told_sessions : ℕ → List (List ReplyLine) → List ℕ
told_sessions number [] = []
told_sessions number (replies ∷ sessions) = told_session number replies ++ told_sessions (suc number) sessions

abbrev pub event_word : Event → List ℕ
event_word (event.Begin s i ts m) = codes "begin"
event_word (event.End s i ts) = codes "end"
event_word (event.Look s i t m) = codes "look"
event_word (event.Rows s i t) = codes "rows"
event_word (event.Ancient s i t a) = codes "ancient"
event_word (event.Busy s i t f) = codes "busy"
event_word (event.Mark s i a) = codes "mark"
event_word (event.Chore s i) = codes "chore"
event_word (event.Large s i n) = codes "large"
event_word event.Stop = codes "stop"

abbrev pub event_numbers : Event → List ℕ
event_numbers (event.Begin s i ts m) = s ∷ i ∷ ts ∷ m ∷ []
event_numbers (event.End s i ts) = s ∷ i ∷ ts ∷ []
event_numbers (event.Look s i t m) = s ∷ i ∷ t ∷ m ∷ []
event_numbers (event.Rows s i t) = s ∷ i ∷ t ∷ []
event_numbers (event.Ancient s i t a) = s ∷ i ∷ t ∷ a ∷ []
event_numbers (event.Busy s i t f) = s ∷ i ∷ t ∷ f ∷ []
event_numbers (event.Mark s i a) = s ∷ i ∷ a ∷ []
event_numbers (event.Chore s i) = s ∷ i ∷ []
event_numbers (event.Large s i n) = s ∷ i ∷ n ∷ []
event_numbers event.Stop = []

-- a line of the history
abbrev pub event_words : Event → List (List ℕ)
event_words e = event_word e ∷ map decimal (event_numbers e)

abbrev pub event_line : Event → List ℕ
event_line e = line (words (event_words e))

abbrev pub last_words : LastLine → List (List ℕ)
last_words (last.Numbers a c rowsets) = codes "tablet" ∷ codes "ahm" ∷ decimal a ∷ codes "last" ∷ decimal c ∷ codes "rowsets" ∷ decimal rowsets ∷ []
last_words last.Stopped = codes "tablet" ∷ codes "stopped" ∷ []

abbrev pub last_text : LastLine → List ℕ
last_text end = line (words (last_words end))

-- the whole text
abbrev pub told_text : List (List ReplyLine) → List Event → LastLine → List ℕ
told_text replies events end = told_sessions 1 replies ++ line (codes "history") ++ flat_map event_line events ++ last_text end

-- a reply as its text shows it: the texts of rows stand for the rows
abbrev pub seen_of : List Kind → Reply → ReplyLine
seen_of kinds (told.At ts outcomes) = reply.At ts outcomes
seen_of kinds (told.Rows t rows) = reply.Rows t (map (row_text kinds) rows)
seen_of kinds (told.Ancient t a) = reply.Ancient t a
seen_of kinds (told.Busy t f) = reply.Busy t f
seen_of kinds (told.Ahm a) = reply.Ahm a
seen_of kinds told.Done = reply.Done
seen_of kinds (told.Large n) = reply.Large n
seen_of kinds told.Stopped = reply.Stopped

abbrev pub seen : ShownReply → ReplyLine
seen told = seen_of told.kinds told.reply

-- the numbers of a reply
abbrev pub reply_numbers : Reply → List ℕ
reply_numbers (told.At ts outcomes) = ts ∷ []
reply_numbers (told.Rows t rows) = t ∷ length rows ∷ []
reply_numbers (told.Ancient t a) = t ∷ a ∷ []
reply_numbers (told.Busy t f) = t ∷ f ∷ []
reply_numbers (told.Ahm a) = a ∷ []
reply_numbers told.Done = []
reply_numbers (told.Large n) = n ∷ []
reply_numbers told.Stopped = []

-- the text of what was printed
abbrev pub output_text : List (List ShownReply) → List Event → LastLine → List ℕ
output_text replies events end = told_text (map (map seen) replies) events end
