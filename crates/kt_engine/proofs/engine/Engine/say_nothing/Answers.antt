use Rattle.kt_engine.proofs.JobBoth.{nothing_both}
use Rattle.kt_engine.proofs.engine.Engine.say_nothing.Goals as goal

pub invariant_of-self : goal.invariant_of-self
invariant_of-self g c = nothing_both g.L.Disk.tells g.L.Disk.seen g.L.Disk.now g.L.Disk.leaves g.L.Disk.faults g.D.Disk.tells g.D.Disk.seen g.D.Disk.faults _ c.say_nothing.new.self c.args.number c.args.asked c.say_nothing.ensures.own c.say_nothing.ensures.begun c.self.invariant
