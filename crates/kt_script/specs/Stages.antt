-- Which line of an output text may stand where.
use Rattle.std.specs.Prelude.{◌≡◌, ◌^◌, ℕ, zero, suc, Bool, true, false, ◌&&◌, ◌||◌, List, [], ◌∷◌, Option, Some, None, is_some, nat_lt, if◌then◌else◌, codes}
use Rattle.kt_base.specs.Literals.{same}
use Rattle.kt_script.specs.declared.out_lines.FirstLine.{FirstLine}
use Rattle.kt_script.specs.Texts.{session_line}
use Rattle.kt_script.specs.Pieces.{cut}
use Rattle.kt_script.specs.Outputs.{first_in, event_in, last_in, is_row}

-- Where a line stands: below so many sessions, with so many rows of the last reply still to come, in the history, or behind the last line.
pub data Stage : Type 0 where
  sessions : ℕ → ℕ → Stage
  history : Stage
  ended : Stage

-- a reply has a session above it
abbrev pub may_reply : ℕ → Option FirstLine → Bool
may_reply zero line = false
may_reply (suc n) line = is_some line

-- the first line of the session below so many, whose number a program can hold
abbrev pub begins_session : ℕ → List ℕ → Bool
begins_session n text = nat_lt (suc n) (2 ^ 64) && same text (session_line (suc n))

abbrev pub stands : Stage → List ℕ → Bool
stands (sessions n (suc due)) text = is_row text
stands (sessions n zero) text = may_reply n (first_in text) || (begins_session n text || same text (codes "history"))
stands history text = is_some (event_in text) || is_some (last_in text)
stands ended text = false

abbrev pub rows_due : Option FirstLine → ℕ
rows_due None = 0
rows_due (Some line) = line.due

-- where the next line stands
abbrev pub after : Stage → List ℕ → Stage
after (sessions n (suc due)) text = sessions n due
after (sessions n zero) text = if may_reply n (first_in text) then sessions n (rows_due (first_in text)) else (if begins_session n text then sessions (suc n) 0 else history)
after history text = if is_some (event_in text) then history else ended
after ended text = ended

-- what follows the last newline: nothing, behind the last line
abbrev pub may_end : Stage → List ℕ → Bool
may_end ended [] = true
may_end ended (b ∷ bytes) = false
may_end history rest = false
may_end (sessions n due) rest = false

-- whether these lines may stand from a stage on, up to the end of an output's text. The last piece is what follows the last newline
abbrev pub goes : Stage → List (List ℕ) → Bool
goes stage [] = false
goes stage (rest ∷ []) = may_end stage rest
goes stage (text ∷ more ∷ pieces) = if stands stage text then goes (after stage text) (more ∷ pieces) else false

abbrev pub MayStand : Stage → List ℕ → Type 0
MayStand stage text = stands stage text ≡ true

-- a text that may stand from a stage on
abbrev pub Goes : Stage → List ℕ → Type 0
Goes stage text = goes stage (cut 10 text) ≡ true
