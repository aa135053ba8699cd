use Rattle.kt_maint.specs.declared.jobs.Start.TheVariants as start
use Rattle.kt_maint.proofs.Between.{starts_none}
use Rattle.kt_maint.proofs.work.run_found.Goals as goal

pub returns-in-Over-Nothing-clause-none : goal.returns-in-Over-Nothing-clause-none
returns-in-Over-Nothing-clause-none g c = starts_none g.D.Disk.tells g.D.Disk.seen c.args.by c.args.want.now c.args.engine.now c.start_now.new.engine (start.Over c.in-Over-Nothing.field-0) c.in-Over-Nothing.ensures.starts

pub returns-in-Over-Wait-clause-none : goal.returns-in-Over-Wait-clause-none
returns-in-Over-Wait-clause-none g c = starts_none g.D.Disk.tells g.D.Disk.seen c.args.by c.args.want.now c.args.engine.now c.start_now.new.engine (start.Over c.in-Over-Wait.field-0) c.in-Over-Wait.ensures.starts
