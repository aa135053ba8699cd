use Rattle.kt_seatlock.specs.Passes.{number, part, seen}
use Rattle.kt_serve.proofs.Maintained.{answered_chore}
use Rattle.kt_serve.proofs.tablet.SharedTablet.chore.Goals as goal

pub returns-clause-answer : goal.returns-clause-answer
returns-clause-answer g c = answered_chore (part c.args.pass.now) (part c.run_chore.new.pass) (seen c.args.pass.now) (seen c.run_chore.new.pass) (number c.args.pass.now) c.args.index c.run_chore.result c.run_chore.ensures.reply c.run_chore.ensures.open
