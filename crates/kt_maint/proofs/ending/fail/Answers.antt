use Rattle.kt_maint.proofs.Visiting.{stands_same}
use Rattle.kt_maint.proofs.ending.fail.Goals as goal

pub take_broken-requires-clause-rose : goal.take_broken-requires-clause-rose
take_broken-requires-clause-rose g c = c.requires.rose c.in-Fault.is

pub returns-in-Memory-clause-still : goal.returns-in-Memory-clause-still
returns-in-Memory-clause-still g c = stands_same c.args.by c.args.engine.now c.give_up.new.engine c.give_up.ensures.tablet
