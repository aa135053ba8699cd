use Rattle.std.proofs.Common.{◌≡◌, take}
use Rattle.kt_history.specs.History.{Past}
use Rattle.kt_judge.specs.Works.{work_of}
use Rattle.kt_judge.specs.Machine.{Follows}
use Rattle.kt_judge.proofs.walk.walk_lines.Given as goal

-- the lines so far are followed
abbrev pub invariant-loop-at : goal.invariant-loop-at
invariant-loop-at l = (past : Past) → past.mark ≡ l.a → Follows (work_of l.cells l.script) past l.c (take l.at l.events) l.m
