use Rattle.std.proofs.Common.{take}
use Rattle.kt_judge.specs.Walks.{AreFirst}
use Rattle.kt_judge.proofs.walk.first_turns.Given as goal

abbrev pub invariant-loop-session : goal.invariant-loop-session
invariant-loop-session l = AreFirst l.turns.items (take l._session-index l.sessions)
