use Rattle.std.proofs.Common.{rules}
use Rattle.kt_seatlock.specs.Passes.{number, part, seen}
use Rattle.kt_serve.proofs.Rests.{then_rounds}
use Rattle.kt_serve.proofs.Stills.{going_after}
use Rattle.kt_serve.proofs.visits.make_room.Goals as goal

pub returns-in-Ok-clause-going : goal.returns-in-Ok-clause-going
returns-in-Ok-clause-going g c =
    going_after (number c.args.pass.now) (number c.run_for_room-rows.new.pass) (part c.args.pass.now) (part c.run_for_room-rows.new.pass) (part c.run_for_room.new.pass) (seen c.args.pass.now) (seen c.run_for_room-rows.new.pass) (seen c.run_for_room.new.pass)
    c.run_for_room-rows.ensures.pass.0.1 c.run_for_room-rows.ensures.going c.run_for_room.ensures.going

pub returns-in-Ok-clause-none : goal.returns-in-Ok-clause-none
returns-in-Ok-clause-none g c = λ ne h. c.run_for_room.ensures.none ne (c.run_for_room-rows.ensures.none (search rules) h)

pub returns-in-Ok-clause-rounds : goal.returns-in-Ok-clause-rounds
returns-in-Ok-clause-rounds g c = then_rounds (part c.args.pass.now) (part c.run_for_room-rows.new.pass) (part c.run_for_room.new.pass) c.run_for_room.result c.in-Ok.ensures.rounds c.run_for_room.ensures.rounds
