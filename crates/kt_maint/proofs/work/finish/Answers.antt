use Rattle.kt_seatlock.specs.Passes.{seen, part}
use Rattle.kt_maint.proofs.Between.{end_home, end_none}
use Rattle.kt_maint.proofs.work.finish.Goals as goal

pub returns-in-Ok-clause-home : goal.returns-in-Ok-clause-home
returns-in-Ok-clause-home g c = end_home (part c.args.pass.now) (part c.end_outside.new.pass) (seen c.end_outside.new.pass) c.end_outside.result c.end_outside.ensures.end

pub returns-in-Err-clause-home : goal.returns-in-Err-clause-home
returns-in-Err-clause-home g c = end_home (part c.args.pass.now) (part c.end_outside.new.pass) (seen c.end_outside.new.pass) c.end_outside.result c.end_outside.ensures.end

pub returns-in-Ok-clause-none : goal.returns-in-Ok-clause-none
returns-in-Ok-clause-none g c = end_none (part c.args.pass.now) (part c.end_outside.new.pass) (seen c.end_outside.new.pass) c.end_outside.result c.end_outside.ensures.end

pub returns-in-Err-clause-none : goal.returns-in-Err-clause-none
returns-in-Err-clause-none g c = end_none (part c.args.pass.now) (part c.end_outside.new.pass) (seen c.end_outside.new.pass) c.end_outside.result c.end_outside.ensures.end
