-- What a plan keeps to. It is asked once, when the plan is taken.
use Rattle.std.specs.Prelude.{◌≡◌, ◌<◌, ℕ, ◌+◌, ◌^◌, true, List, [], length, Some}
use Rattle.kt_history.specs.declared.command.Command.{Command}
use Rattle.kt_history.specs.declared.command.Command.TheVariants as command
use Rattle.kt_history.specs.declared.operation.RowOp.{RowOp}
use Rattle.kt_history.specs.Machine.{Workload, command_at}
use Rattle.kt_history.specs.Operations.{DifferentKeys}
use Rattle.kt_records.specs.declared.entry.Entry.TheVariants.{Replicate}
use Rattle.kt_records.specs.Rules.{may_hold, EachAfter, FollowingOp}
use Rattle.kt_records.specs.Spelling.{spelling}

-- a record of the write of these operations fits a frame, whatever its timestamp
abbrev pub IsShort : List RowOp → Type 0
IsShort ops = (ts : ℕ) → length (spelling (Replicate ts ops)) < 2 ^ 32

-- a write has 1 to 64 operations, each keeps the rules of records, their keys differ, and its record fits a frame
pub record WriteKeeps (ops : List RowOp) : Type 0 where
  pub count : may_hold (length ops) ≡ true
  pub each : EachAfter FollowingOp [] ops
  pub keys : DifferentKeys ops
  pub short : IsShort ops

abbrev pub CommandKeeps : Command → Type 0
CommandKeeps (command.Write w) = WriteKeeps w.ops
CommandKeeps (command.Scan scan) = Unit {0}
CommandKeeps (command.Mark t) = Unit {0}
CommandKeeps (command.Chore chore) = Unit {0}

-- each command keeps to that, and the number behind its own is one of 32 bits
abbrev pub PlanKeeps : Workload → Type 0
PlanKeeps work = (s i : ℕ) (command : Command) → command_at work s i ≡ Some command → (i + 1 < 2 ^ 32) × CommandKeeps command
