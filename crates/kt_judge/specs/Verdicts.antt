-- What is said of an output: it is that of a run of the script from an opening, or it first is not at a line of the history, at a reply or at its end.
use Rattle.std.specs.Prelude.{◌≡◌, ◌<◌, ◌⊎◌, ℕ, zero, suc, Bool, true, false, List, [], Option, Some, None, is_some}
use Rattle.kt_base.specs.declared.cell.Kind.{Kind}
use Rattle.kt_history.specs.declared.command.Command.{Command}
use Rattle.kt_history.specs.declared.command.Command.TheVariants as command
use Rattle.kt_history.specs.declared.reply.Reply.{Reply}
use Rattle.kt_history.specs.History.{Past}
use Rattle.kt_history.specs.Machine.{Workload, State, IsRun, nth}
use Rattle.kt_history.specs.Replies.{answer, kinds_of, past_after}
use Rattle.kt_script.specs.declared.output.LastLine.{LastLine}
use Rattle.kt_script.specs.declared.output.LastLine.TheVariants as last
use Rattle.kt_script.specs.declared.replies.ReplyLine.{ReplyLine}
use Rattle.kt_script.specs.declared.replies.ReplyLine.TheVariants as line
use Rattle.kt_script.specs.declared.reread.Output.{Output}
use Rattle.kt_script.specs.Texts.{seen_of}
use Rattle.kt_judge.specs.declared.verdict.Verdict.{Verdict}
use Rattle.kt_judge.specs.declared.verdict.Verdict.TheVariants as verdict
use Rattle.kt_judge.specs.Faults.{IsFirstFault}
use Rattle.kt_judge.specs.Grown.{end_of}

-- the kinds of the columns that the rows of a command's reply have
abbrev pub kinds_shown : Workload → Command → List Kind
kinds_shown work (command.Write w) = []
kinds_shown work (command.Scan scan) = kinds_of work scan.columns
kinds_shown work (command.Mark t) = []
kinds_shown work (command.Chore chore) = []

-- what is printed for a command: its answer, and stopped alone where it has none and a stop ended the history
abbrev pub Prints : List Kind → Bool → Option Reply → ReplyLine → Type 0
Prints kinds stopped (Some reply) printed = printed ≡ seen_of kinds reply
Prints kinds stopped None printed = (printed ≡ line.Stopped) × (stopped ≡ true)

-- a command and its reply are both there, and that is what is printed for it, or neither is
abbrev pub ReplyStands : Workload → Bool → Option Command → Option Reply → Option ReplyLine → Type 0
ReplyStands work stopped (Some c) answered (Some printed) = Prints (kinds_shown work c) stopped answered printed
ReplyStands work stopped (Some c) answered None = ⊥
ReplyStands work stopped None answered (Some printed) = ⊥
ReplyStands work stopped None answered None = Unit {0}

abbrev pub in_session : {A : Type 0} → Option (List A) → ℕ → Option A
in_session None i = None
in_session (Some items) i = nth items i

-- place i of session s stands: at 0 the session is both in the script and in the output, or in neither, and from 1 on its i-th reply stands
abbrev pub Stands : Workload → Past → ℕ → Output → ℕ → ℕ → Type 0
Stands work past c out s zero = is_some (nth work.plan s) ≡ is_some (nth out.replies s)
Stands work past c out s (suc i) = ReplyStands work (end_of work past c out.events).stopped (in_session (nth work.plan s) (suc i)) (answer work (past_after work past c out.events) out.events s (suc i)) (in_session (nth out.replies s) (suc i))

-- a place comes before another, by session
abbrev pub IsBefore : ℕ → ℕ → ℕ → ℕ → Type 0
IsBefore s i t j = (s < t) ⊎ ((s ≡ t) × (i < j))

-- the first place that does not stand
pub record IsFirstWrong (work : Workload) (past : Past) (c : ℕ) (out : Output) (s i : ℕ) : Type 0 where
  pub before : (t j : ℕ) → IsBefore t j s i → Stands work past c out t j
  pub wrong : Stands work past c out s i → ⊥

-- the last line: `tablet stopped`, and where no stop ended the history also its mark and last timestamp, whatever the count of rowsets
abbrev pub EndStands : State → LastLine → Type 0
EndStands st last.Stopped = Unit {0}
EndStands st (last.Numbers a c rowsets) = (st.stopped ≡ false) × (a ≡ st.a) × (c ≡ st.c)

abbrev pub IsVerdict : Workload → Past → ℕ → Output → Verdict → Type 0
IsVerdict work past c out verdict.Yes = IsRun work past c out.events × ((s i : ℕ) → Stands work past c out s i) × EndStands (end_of work past c out.events) out.last
IsVerdict work past c out (verdict.NoEvent number) = IsFirstFault work past c out.events number
IsVerdict work past c out (verdict.NoReply session index) = IsRun work past c out.events × IsFirstWrong work past c out session index
IsVerdict work past c out verdict.NoEnd = IsRun work past c out.events × ((s i : ℕ) → Stands work past c out s i) × (EndStands (end_of work past c out.events) out.last → ⊥)
