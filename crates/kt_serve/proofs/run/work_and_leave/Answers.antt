use Rattle.kt_seatlock.specs.Passes.{part, seen}
use Rattle.kt_serve.proofs.Maintained.{device_log}
use Rattle.kt_serve.proofs.Rests.{idle_device, device_rests, left_none, upkeep_rests}
use Rattle.kt_serve.proofs.run.work_and_leave.Goals as goal

pub work-requires-clause-rests : goal.work-requires-clause-rests
work-requires-clause-rests g c = idle_device (part c.args.pass.now) c.requires.rests c.requires.idle

pub returns-clause-home : goal.returns-clause-home
returns-clause-home g c = c.leave_run.ensures.log (device_log (part c.work.new.pass) c.work.ensures.home)

pub returns-clause-rests : goal.returns-clause-rests
returns-clause-rests g c = upkeep_rests (part c.work.new.pass) (part c.leave_run.new.pass) c.leave_run.ensures.upkeep (device_rests (part c.work.new.pass) c.work.ensures.home)

pub returns-clause-none : goal.returns-clause-none
returns-clause-none g c = λ h. left_none (part c.work.new.pass) (part c.leave_run.new.pass) (seen c.work.new.pass) (seen c.leave_run.new.pass) c.leave_run.ensures.upkeep c.leave_run.ensures.stop (c.work.ensures.none h)
