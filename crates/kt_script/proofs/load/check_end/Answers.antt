use Rattle.kt_script.proofs.LoadLines.{line_below}
use Rattle.kt_script.proofs.load.check_end.Goals as goal

pub returns-in-Some : goal.returns-in-Some
returns-in-Some c = line_below c.args.number c.below_no.result c.args.text.now c.in-Some.line.now c.in-Some.field-0-1.now c.in-Some.ensures.0 c.below_no.ensures
