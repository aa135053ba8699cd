use Rattle.kt_seatlock.specs.Passes.{number, part, seen}
use Rattle.kt_serve.proofs.Open.{is_answered_ok}
use Rattle.kt_serve.proofs.tablet.SharedTablet.mark.Goals as goal

pub returns-clause-answer : goal.returns-clause-answer
returns-clause-answer g c = is_answered_ok (part c.args.pass.now) (part c.mark_once.new.pass) (seen c.args.pass.now) (seen c.mark_once.new.pass) (number c.args.pass.now) c.args.index c.mark_once.result c.mark_once.ensures.reply c.mark_once.ensures.open
