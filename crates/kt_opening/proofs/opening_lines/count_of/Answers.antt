use Rattle.std.proofs.Common.{ap}
use Rattle.kt_script.specs.Outputs.{pieces_in}
use Rattle.kt_opening.proofs.LineReads.{count_none}
use Rattle.kt_opening.proofs.opening_lines.count_of.Goals as goal

pub returns-in-Some : goal.returns-in-Some
returns-in-Some c = count_none c.args.line.now c.in-Some.field-0.now (c.in_ok-rows.rows, pieces_in c.in_ok-rows.behind) c.in_ok-rows.ensures (ap pieces_in c.in-Some.is)
