use Rattle.std.proofs.Common.{rules}
use Rattle.kt_seatlock.specs.Passes.{number, part, seen}
use Rattle.kt_serve.proofs.Commands.{free_rests}
use Rattle.kt_serve.proofs.Rests.{none_same, store_same}
use Rattle.kt_serve.proofs.Stills.{going_after, going_others}
use Rattle.kt_serve.proofs.visits.clear_room.Goals as goal

-- the pass is where it was

pub returns-then-not-is_crowded-clause-going : goal.returns-then-not-is_crowded-clause-going
returns-then-not-is_crowded-clause-going g c = going_others (number c.args.pass.now) (part c.args.pass.now) (part c.is_crowded.new.pass) (seen c.args.pass.now) (seen c.is_crowded.new.pass) c.is_crowded.ensures.same c.is_crowded.ensures.quiet

pub make_room-requires-clause-rests : goal.make_room-requires-clause-rests
make_room-requires-clause-rests g c = store_same _ _ c.is_crowded.ensures.same c.requires.rests

pub make_room-requires-clause-next : goal.make_room-requires-clause-next
make_room-requires-clause-next g c = free_rests _ _ _ c.is_crowded.ensures.same c.requires.next

pub returns-in-Ok-clause-going : goal.returns-in-Ok-clause-going
returns-in-Ok-clause-going g c =
    let here = going_others (number c.args.pass.now) (part c.args.pass.now) (part c.is_crowded.new.pass) (seen c.args.pass.now) (seen c.is_crowded.new.pass) c.is_crowded.ensures.same c.is_crowded.ensures.quiet in
    going_after (number c.args.pass.now) (number c.is_crowded.new.pass) (part c.args.pass.now) (part c.is_crowded.new.pass) (part c.make_room.new.pass) (seen c.args.pass.now) (seen c.is_crowded.new.pass) (seen c.make_room.new.pass) c.is_crowded.ensures.pass.0.1 here c.make_room.ensures.going

pub returns-in-Err-Memory-clause-going : goal.returns-in-Err-Memory-clause-going
returns-in-Err-Memory-clause-going g c =
    let here = going_others (number c.args.pass.now) (part c.args.pass.now) (part c.is_crowded.new.pass) (seen c.args.pass.now) (seen c.is_crowded.new.pass) c.is_crowded.ensures.same c.is_crowded.ensures.quiet in
    going_after (number c.args.pass.now) (number c.is_crowded.new.pass) (part c.args.pass.now) (part c.is_crowded.new.pass) (part c.make_room.new.pass) (seen c.args.pass.now) (seen c.is_crowded.new.pass) (seen c.make_room.new.pass) c.is_crowded.ensures.pass.0.1 here c.make_room.ensures.going

pub returns-in-Err-Stopped-clause-going : goal.returns-in-Err-Stopped-clause-going
returns-in-Err-Stopped-clause-going g c =
    let here = going_others (number c.args.pass.now) (part c.args.pass.now) (part c.is_crowded.new.pass) (seen c.args.pass.now) (seen c.is_crowded.new.pass) c.is_crowded.ensures.same c.is_crowded.ensures.quiet in
    going_after (number c.args.pass.now) (number c.is_crowded.new.pass) (part c.args.pass.now) (part c.is_crowded.new.pass) (part c.make_room.new.pass) (seen c.args.pass.now) (seen c.is_crowded.new.pass) (seen c.make_room.new.pass) c.is_crowded.ensures.pass.0.1 here c.make_room.ensures.going

pub returns-in-Ok-clause-none : goal.returns-in-Ok-clause-none
returns-in-Ok-clause-none g c = λ h. c.make_room.ensures.none (search rules) (none_same _ _ c.is_crowded.ensures.same h)

pub returns-in-Err-Memory-clause-none : goal.returns-in-Err-Memory-clause-none
returns-in-Err-Memory-clause-none g c = λ h. c.make_room.ensures.none (search rules) (none_same _ _ c.is_crowded.ensures.same h)
