use Rattle.std.proofs.Common.{◌+◌, length}
use Rattle.kt_script.proofs.Bodies.{BodyRead}
use Rattle.kt_script.proofs.script.read_lines.Given as goal

abbrev pub invariant-lines : goal.invariant-lines
invariant-lines l = BodyRead l.schema (length l.schema + 2) l.text l.rest l.number l.sessions

abbrev pub decreases-lines : goal.decreases-lines
decreases-lines l = length l.rest
