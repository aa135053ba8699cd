use Rattle.std.proofs.Common.{◌≡◌, ◌++◌, take}
use Rattle.std.specs.List.{flat_map}
use Rattle.kt_script.specs.Print.{session_lines}
use Rattle.kt_script.proofs.print.print_plan.Given as goal

abbrev pub invariant-loop-session : goal.invariant-loop-session
invariant-loop-session l = l.out ≡ l.fn.out ++ flat_map (session_lines l.schema) (take l.session-index l.plan)
