use Rattle.kt_script.proofs.Faults.{no_key_line}
use Rattle.kt_script.proofs.head.no_key.Goals as goal

pub returns-in-Some : goal.returns-in-Some
returns-in-Some c = no_key_line c.args.rest.now c.in-Some.field-0.0.now c.in-Some.field-0.1.now c.in-Some.ensures.0
