use Rattle.kt_opening.proofs.UpTo.{is_opening}
use Rattle.kt_opening.proofs.opening_text.read_opening.Goals as goal

pub returns-in-Ok-clause-opening : goal.returns-in-Ok-clause-opening
returns-in-Ok-clause-opening c = is_opening c.args.schema.now c.args.text.now c.in-Ok.read c.in-Ok.ensures.read
