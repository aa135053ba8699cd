use Rattle.std.proofs.Common.{◌≡◌, ◌++◌, take}
use Rattle.kt_script.specs.Print.{session_lines}
use Rattle.kt_script.proofs.print.print_commands.Given as goal

abbrev pub invariant-loop-command : goal.invariant-loop-command
invariant-loop-command l = l.out ≡ l.fn.out ++ session_lines l.schema (take l.command-index l.commands)
