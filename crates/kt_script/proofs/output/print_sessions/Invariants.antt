use Rattle.std.proofs.Common.{◌≡◌, ◌++◌, map, take}
use Rattle.kt_script.specs.Texts.{told_sessions, seen}
use Rattle.kt_script.proofs.output.print_sessions.Given as goal

abbrev pub invariant-loop-at : goal.invariant-loop-at
invariant-loop-at l = l.out ≡ l.fn.out ++ told_sessions 1 (map (map seen) (take l.at l.sessions))
