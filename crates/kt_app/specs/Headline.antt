-- What the program prints: the output text of a run of the script.
use Rattle.std.specs.Prelude.{◌≡◌, ℕ, ◌+◌, Bool, true, false, if◌then◌else◌, List, [], ◌∷◌, ◌++◌, Option, Some, None, unwrap_or}
use Rattle.std.specs.List.{AllByRecursion}
use Rattle.kt_base.specs.declared.cell.Kind.{Kind}
use Rattle.kt_history.specs.declared.command.Command.{Command}
use Rattle.kt_history.specs.declared.command.Command.TheVariants as command
use Rattle.kt_history.specs.declared.event.Event.{Event}
use Rattle.kt_history.specs.declared.event.Event.TheVariants as event
use Rattle.kt_history.specs.declared.reply.Reply.{Reply}
use Rattle.kt_history.specs.declared.reply.Reply.TheVariants as reply
use Rattle.kt_history.specs.History.{Past, rows_at}
use Rattle.kt_history.specs.Machine.{Workload, State, IsRun, readings_of, start, state_after}
use Rattle.kt_history.specs.Replies.{answer, kinds_of, past_after}
use Rattle.kt_script.specs.declared.lists.ShownReply.{ShownReply}
use Rattle.kt_script.specs.declared.output.LastLine.{LastLine}
use Rattle.kt_script.specs.declared.output.LastLine.TheVariants as last
use Rattle.kt_script.specs.Scripts.{Said, script_of}
use Rattle.kt_script.specs.Laws.{OutputFits}
use Rattle.kt_script.specs.Texts.{output_text, last_text}
use Rattle.kt_loadlaws.specs.Summary.{Folded, summary, summary_text}

abbrev pub end_of : Workload → Past → ℕ → List Event → State
end_of work past c events = state_after work (start work past c) events

-- the kinds of the columns that the rows of a command's reply have
abbrev pub kinds_shown : Workload → Command → List Kind
kinds_shown work (command.Write w) = []
kinds_shown work (command.Scan scan) = kinds_of work scan.columns
kinds_shown work (command.Mark t) = []
kinds_shown work (command.Chore chore) = []

-- what is printed for each command of a session, from the i-th on: its reply, and stopped where it has none
abbrev pub shown_from : Workload → (ℕ → Option Reply) → ℕ → List Command → List ShownReply
shown_from work f i [] = []
shown_from work f i (c ∷ commands) = record { kinds = kinds_shown work c; reply = unwrap_or (f i) reply.Stopped } ∷ shown_from work f (i + 1) commands

-- the same for each session, from the s-th on
abbrev pub all_shown : Workload → (ℕ → ℕ → Option Reply) → ℕ → List (List Command) → List (List ShownReply)
all_shown work f s [] = []
all_shown work f s (commands ∷ plan) = shown_from work (f s) 1 commands ∷ all_shown work f (s + 1) plan

-- the replies of a history
abbrev pub replies_in : Workload → Past → ℕ → List Event → List (List ShownReply)
replies_in work past c events = all_shown work (answer work (past_after work past c events) events) 1 work.plan

-- the last line tells how the run ended, and of how many disk rowsets its superblock tells
abbrev pub end_line : ℕ → State → LastLine
end_line rowsets st = if st.stopped then last.Stopped else last.Numbers st.a st.c rowsets

-- the command was answered
abbrev pub IsAnswered : Reply → Type 0
IsAnswered (reply.At ts outcomes) = Unit {0}
IsAnswered (reply.Rows t rows) = Unit {0}
IsAnswered (reply.Ancient t a) = Unit {0}
IsAnswered (reply.Busy t f) = Unit {0}
IsAnswered (reply.Ahm a) = Unit {0}
IsAnswered reply.Done = Unit {0}
IsAnswered (reply.Large n) = Unit {0}
IsAnswered reply.Stopped = ⊥

abbrev pub AreAnswered : List (List ShownReply) → Type 0
AreAnswered replies = AllByRecursion (AllByRecursion (λ (r : ShownReply). IsAnswered r.reply)) replies

-- The text is the output text of this run of the workload from a past, whose superblock has so many disk rowsets, in which every number fits in its 64 or 32 bits
-- and the clock gave these readings. Its history ends with `stop` where it was stopped, and else every command was
-- answered.
pub record IsOutput (work : Workload) (past : Past) (c : ℕ) (stopped : Bool) (rowsets : ℕ) (text readings : List ℕ) (events : List Event) : Type 0 where
  pub run : IsRun work past c events
  pub clock : readings_of events ≡ readings
  pub fits : OutputFits (replies_in work past c events) events (end_line rowsets (end_of work past c events))
  pub ended : (end_of work past c events).stopped ≡ stopped
  pub stop : stopped ≡ true → (before : List Event) × (events ≡ before ++ event.Stop ∷ [])
  pub answered : stopped ≡ false → AreAnswered (replies_in work past c events)
  pub printed : text ≡ output_text (replies_in work past c events) events (end_line rowsets (end_of work past c events))

-- ---- a script that loads

-- what is printed of a load that comes to this: that it was stopped, or its summary
abbrev pub load_text : ℕ → Folded → Bool → List ℕ
load_text n folded stopped = if stopped then last_text last.Stopped else summary_text n folded

-- The text tells of this run of a load of n writes a session: that it was stopped, as its history ends with `stop`; or, where each command was answered, its
-- summary over the rows from which it began. It ends with the rows of that summary.
pub record IsSummary (n : ℕ) (work : Workload) (past : Past) (c : ℕ) (stopped : Bool) (text : List ℕ) (events : List Event) : Type 0 where
  pub run : IsRun work past c events
  pub ended : (end_of work past c events).stopped ≡ stopped
  pub stop : stopped ≡ true → (before : List Event) × (events ≡ before ++ event.Stop ∷ [])
  pub answered : stopped ≡ false → AreAnswered (replies_in work past c events)
  pub rows : stopped ≡ false → rows_at (past_after work past c events) (end_of work past c events).c ≡ (summary n (rows_at past c)).rows
  pub printed : text ≡ load_text n (summary n (rows_at past c)) stopped

-- what is printed of a run: its output text, or of a load of so many writes a session what that comes to
abbrev pub IsPrinted : Option ℕ → Workload → Past → ℕ → Bool → ℕ → List ℕ → List Event → Type 0
IsPrinted None work past c stopped rowsets text events = IsOutput work past c stopped rowsets text (readings_of events) events
IsPrinted (Some n) work past c stopped rowsets text events = IsSummary n work past c stopped text events

-- no script is spelled so
abbrev pub IsNoScript : List ℕ → Type 0
IsNoScript text = (said : Said) → script_of text ≡ Some said → ⊥

-- the text of a run has one history: it can be read off the bytes, whatever past the run began from
abbrev pub one_history : Type 0
one_history = (work : Workload) (p q : Past) (c d m n : ℕ) (b e : Bool) (text r s : List ℕ) (xs ys : List Event) → IsOutput work p c b m text r xs → IsOutput work q d e n text s ys → (xs ≡ ys) × (r ≡ s)
