-- What is read of an output text from a place on.
use Rattle.std.specs.Prelude.{◌≡◌, ◌≢◌, ◌≤◌, All, ℕ, ◌+◌, suc, false, List, ◌∷◌, ◌++◌, length, drop, Option, Some, None, Result, Ok, Err, codes}
use Rattle.std.proofs.Common.{Bor}
use Rattle.std.specs.List.{flat_map, AllByRecursion}
use Rattle.kt_script.specs.declared.replies.ReplyLine.{ReplyLine}
use Rattle.kt_script.specs.declared.replies.ReplyLine.TheVariants as reply
use Rattle.kt_script.specs.declared.reread.CodecNo.{CodecNo}
use Rattle.kt_script.specs.declared.reread.CodecNo.TheVariants as no
use Rattle.kt_script.specs.declared.reread.Rows.{Rows}
use Rattle.kt_script.specs.declared.reread.Replies.{Replies}
use Rattle.kt_script.specs.declared.reread.Sessions.{Sessions}
use Rattle.kt_script.specs.declared.reread.Ending.{Ending}
use Rattle.kt_script.specs.Laws.{LastFits}
use Rattle.kt_script.specs.Texts.{line, lines_text, told_sessions, event_line, last_text}
use Rattle.kt_script.specs.Pieces.{cut}
use Rattle.kt_script.specs.Outputs.{first_in, IsRowLine, LineHolds, EventHolds}
use Rattle.kt_script.specs.Stages.{Stage, sessions, history, ended, goes, may_reply, Goes}
use Rattle.kt_script.specs.Places.{IsFault}

-- The first fault of what stands from a place of the text on.
pub record IsFaultFrom (text : List ℕ) (stage : Stage) (start offset : ℕ) : Type 0 where
  pub far : ℕ
  pub offset_is : start + far ≡ offset
  pub fault : IsFault (Goes stage) (drop start text) far
  pub none : goes stage (cut 10 (drop start text)) ≡ false

-- A line stands at a place, with its newline.
pub record StandsAt (text : List ℕ) (at : ℕ) (l : List ℕ) : Type 0 where
  pub parted : cut 10 (drop at text) ≡ l ∷ cut 10 (drop (at + length l + 1) text)
  pub bytes : drop at text ≡ line l ++ drop (at + length l + 1) text
  pub within : at + length l + 1 ≤ length text
  pub clean : All (λ b. b ≢ 10) l

-- the line that begins at a place, or none where it has no newline
abbrev pub IsLineAt : List ℕ → ℕ → Option (Bor (List ℕ)) → Type 0
IsLineAt text at None = All (λ b. b ≢ 10) (drop at text)
IsLineAt text at (Some l) = StandsAt text at l.now

-- From a stage and a place on these bytes are read, up to another place and stage.
pub record Moves (text : List ℕ) (from : Stage) (start : ℕ) (to : Stage) (at : ℕ) (front : List ℕ) : Type 0 where
  pub goes_on : (behind : List ℕ) → goes from (cut 10 (front ++ behind)) ≡ goes to (cut 10 behind)
  pub bytes : drop start text ≡ front ++ drop at text
  pub begins : start ≤ length text
  pub within : at ≤ length text

-- a line at a place begins no reply below so many sessions
abbrev pub NoReply : List ℕ → ℕ → ℕ → Type 0
NoReply text n at = (l : List ℕ) → StandsAt text at l → may_reply n (first_in l) ≡ false

-- the reply with its rows
abbrev pub with_rows : ReplyLine → List (List ℕ) → ReplyLine
with_rows (reply.Rows t none) lines = reply.Rows t lines
with_rows r lines = r

-- so many row lines
abbrev pub AreRowsRead : List ℕ → ℕ → ℕ → Result Rows CodecNo → Type 0
AreRowsRead text start due (Ok rows) = ((n : ℕ) → Moves text (sessions n due) start (sessions n 0) rows.at (flat_map line rows.lines.items)) × (length rows.lines.items ≡ due) × AllByRecursion IsRowLine rows.lines.items
AreRowsRead text start due (Err (no.Place offset)) = (n : ℕ) → IsFaultFrom text (sessions n due) start offset
AreRowsRead text start due (Err no.Memory) = Unit {0}

-- the replies of a session, up to a line that begins none
abbrev pub AreRepliesRead : List ℕ → ℕ → Result Replies CodecNo → Type 0
AreRepliesRead text start (Ok read) = ((n : ℕ) → Moves text (sessions (suc n) 0) start (sessions (suc n) 0) read.at (flat_map lines_text read.replies.items)) × ((n : ℕ) → NoReply text n read.at) × AllByRecursion LineHolds read.replies.items
AreRepliesRead text start (Err (no.Place offset)) = (n : ℕ) → IsFaultFrom text (sessions (suc n) 0) start offset
AreRepliesRead text start (Err no.Memory) = Unit {0}

-- all sessions, and the line behind them
abbrev pub AreSessionsRead : List ℕ → Result Sessions CodecNo → Type 0
AreSessionsRead text (Ok read) = Moves text (sessions 0 0) 0 history read.at (told_sessions 1 read.sessions.items ++ line (codes "history")) × AllByRecursion (AllByRecursion LineHolds) read.sessions.items
AreSessionsRead text (Err (no.Place offset)) = IsFaultFrom text (sessions 0 0) 0 offset
AreSessionsRead text (Err no.Memory) = Unit {0}

-- the history and the last line
abbrev pub IsEndingRead : List ℕ → ℕ → Result Ending CodecNo → Type 0
IsEndingRead text start (Ok read) = Moves text history start ended read.at (flat_map event_line read.events.items ++ last_text read.last) × AllByRecursion EventHolds read.events.items × LastFits read.last
IsEndingRead text start (Err (no.Place offset)) = IsFaultFrom text history start offset
IsEndingRead text start (Err no.Memory) = Unit {0}
