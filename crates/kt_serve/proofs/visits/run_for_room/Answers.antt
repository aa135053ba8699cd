use Rattle.kt_seatlock.specs.Passes.{number, part, seen}
use Rattle.kt_serve.proofs.Maintained.{still_goes, still_free}
use Rattle.kt_serve.proofs.Rests.{no_device, device_rests, ok_keeps}
use Rattle.kt_serve.proofs.visits.run_for_room.Goals as goal

pub run-requires-clause-rests : goal.run-requires-clause-rests
run-requires-clause-rests g c = no_device (part c.args.pass.now) c.args.index c.requires.rests c.requires.next

pub returns-clause-rests : goal.returns-clause-rests
returns-clause-rests g c = device_rests (part c.run.new.pass) c.run.ensures.home

pub returns-clause-next : goal.returns-clause-next
returns-clause-next g c = still_free (part c.args.pass.now) (part c.run.new.pass) c.args.index c.run.ensures.still c.run.ensures.home c.requires.next

pub returns-clause-going : goal.returns-clause-going
returns-clause-going g c = still_goes (number c.args.pass.now) (part c.args.pass.now) (part c.run.new.pass) (seen c.args.pass.now) (seen c.run.new.pass) c.run.ensures.still c.run.ensures.quiet

pub returns-clause-rounds : goal.returns-clause-rounds
returns-clause-rounds g c = ok_keeps c.args.chore (part c.args.pass.now) (part c.run.new.pass) c.run.result c.run.ensures.done
