use Rattle.kt_serve.proofs.Ending.{halts_on}
use Rattle.kt_serve.proofs.close.finish.Goals as goal

-- nothing has stopped it before the superblock goes out
pub returns-in-Done-clause-tablet : goal.returns-in-Done-clause-tablet
returns-in-Done-clause-tablet g c = halts_on c.args.engine.now c.append_all.new.engine c.publish_last.new.engine c.append_all.ensures.tablet c.in-Done.ensures.ends.goes c.publish_last.ensures.tablet
