use Rattle.std.proofs.Common.{ap}
use Rattle.kt_script.specs.Outputs.{pieces_in}
use Rattle.kt_opening.proofs.LineReads.{head_none}
use Rattle.kt_opening.proofs.opening_lines.head_numbers.Goals as goal

pub returns-in-Some : goal.returns-in-Some
returns-in-Some c =
    head_none (pieces_in c.args.rest) (c.in_ok-a.a, pieces_in c.in_ok-a.behind) (c.in_ok-c.c, pieces_in c.in_ok-c.behind) c.in-Some.field-0.now
    c.in_ok-a.ensures c.in_ok-c.ensures (ap pieces_in c.in-Some.is)
