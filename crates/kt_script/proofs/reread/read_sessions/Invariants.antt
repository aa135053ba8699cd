use Rattle.std.proofs.Common.{◌-◌, length}
use Rattle.std.specs.List.{AllByRecursion}
use Rattle.kt_script.specs.Texts.{told_sessions}
use Rattle.kt_script.specs.Outputs.{LineHolds}
use Rattle.kt_script.specs.Stages.{sessions}
use Rattle.kt_script.specs.Reread.{Moves, NoReply}
use Rattle.kt_script.proofs.reread.read_sessions.Given as goal

abbrev pub invariant-sessions : goal.invariant-sessions
invariant-sessions l = record {
  moves : Moves l.text (sessions 0 0) 0 (sessions (length l.sessions.items) 0) l.at (told_sessions 1 l.sessions.items);
  no_reply : NoReply l.text (length l.sessions.items) l.at;
  replies : AllByRecursion (AllByRecursion LineHolds) l.sessions.items;
}

abbrev pub decreases-sessions : goal.decreases-sessions
decreases-sessions l = length l.text - l.at
