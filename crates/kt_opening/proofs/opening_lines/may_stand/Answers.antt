use Rattle.kt_script.specs.Writes.{later_in}
use Rattle.kt_opening.proofs.LineReads.{stands_not, stands_by}
use Rattle.kt_opening.proofs.opening_lines.may_stand.Goals as goal

pub returns-in-Some : goal.returns-in-Some
returns-in-Some c = stands_not c.args.no.now (later_in c.args.rest) c.in-Some.field-0 c.in-Some.ensures

pub returns-in-None : goal.returns-in-None
returns-in-None c = stands_by c.args.no.now (later_in c.args.rest) c.is_above.result c.is_above.ensures.0 c.is_above.ensures.1 c.in-None.ensures
