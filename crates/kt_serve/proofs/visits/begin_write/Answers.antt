use Rattle.std.proofs.Common.{rules, refl, ap, sym, ◌∙◌, subst}
use Rattle.kt_history.specs.declared.command.Command.TheVariants as command
use Rattle.kt_history.specs.declared.reply.Reply.TheVariants as reply
use Rattle.kt_seatlock.specs.Passes.{number, part, seen}
use Rattle.kt_serve.specs.Sessions.{IsCommand, IsWrite}
use Rattle.kt_serve.proofs.Commands.{command_after, free_log, free_rests, going_rests, going_on, aloft_of, going_answers}
use Rattle.kt_serve.proofs.Rests.{none_same, rounds_same, rounds_then, store_same, upkeep_none, upkeep_rests, upkeep_rounds}
use Rattle.kt_serve.proofs.Stills.{going_after}
use Rattle.kt_serve.proofs.Open.{open_before}
use Rattle.kt_serve.proofs.visits.begin_write.Goals as goal

pub begin_once-requires-clause-command : goal.begin_once-requires-clause-command
begin_once-requires-clause-command g c = subst (λ ops. IsCommand (part c.loop.pass) (number c.loop.pass) c.args.index (command.Write (record { ops = ops }))) (sym c.loop.invariant.3) (command_after _ _ c.args.index (command.Write c.args.write.now) c.requires.next.part _ _ c.requires.next.is c.loop.invariant.0.0.1 c.loop.invariant.2.root c.requires.command)

pub begin_once-requires-clause-write : goal.begin_once-requires-clause-write
begin_once-requires-clause-write g c = subst (IsWrite c.args.index) (sym c.loop.invariant.3) c.requires.write

pub returns-in-Ok-begin_once-clause-begun : goal.returns-in-Ok-begin_once-clause-begun
returns-in-Ok-begin_once-clause-begun g c = let b = rw c.loop.invariant.3 at c.in-Ok-begin_once.ensures.begun in
    ((c.in-Ok-begin_once.field-0, aloft_of _ _ c.args.index c.in-Ok-begin_once.field-0 0 c.args.write.now.ops _ c.loop.invariant.0.0.1 b.0), going_on _ _ _ _ _ _ _ _ c.loop.invariant.0.0.1 c.loop.invariant.2 c.begin_once.ensures.root b.2)

pub returns-in-Err-Stopped-clause-home : goal.returns-in-Err-Stopped-clause-home
returns-in-Err-Stopped-clause-home g c = let b = rw c.in-Err-Stopped.field-0-is at c.in-Err-Stopped.ensures.begun in free_log _ _ b.0

pub returns-in-Err-Stopped-clause-begun : goal.returns-in-Err-Stopped-clause-begun
returns-in-Err-Stopped-clause-begun g c = let b = rw c.in-Err-Stopped.field-0-is at c.in-Err-Stopped.ensures.begun in
    let going = going_on (number c.args.pass.now) (number c.loop.pass) (part c.args.pass.now) (part c.loop.pass) (part c.begin_once.new.pass) (seen c.args.pass.now) (seen c.loop.pass) (seen c.begin_once.new.pass) c.loop.invariant.0.0.1 c.loop.invariant.2 c.begin_once.ensures.root b.1 in ((b.2, going.quiet), going.root)

pub returns-in-Err-Large-clause-home : goal.returns-in-Err-Large-clause-home
returns-in-Err-Large-clause-home g c = let b = rw c.in-Err-Large.field-0-is at c.in-Err-Large.ensures.begun in free_log _ _ b.0

pub returns-in-Err-Large-clause-begun : goal.returns-in-Err-Large-clause-begun
returns-in-Err-Large-clause-begun g c = let b = rw c.in-Err-Large.field-0-is at c.in-Err-Large.ensures.begun in
    ((b.0, going_answers (number c.args.pass.now) (number c.loop.pass) c.args.index (reply.Large c.in-Err-Large.need) (part c.args.pass.now) (part c.loop.pass) (seen c.args.pass.now) (seen c.loop.pass) (seen c.begin_once.new.pass) c.loop.invariant.0.0.1 c.loop.invariant.2 b.1), λ root h. c.begin_once.ensures.root root (c.loop.invariant.2.root root h))

pub loop-preserved-in-Err-Wait : goal.loop-preserved-in-Err-Wait
loop-preserved-in-Err-Wait g c = let b = rw c.in-Err-Wait.field-0-is at c.in-Err-Wait.ensures.begun in (
  search rules,
  free_rests _ _ _ (ap (λ m. m.0.part) c.rest.ensures.2) b.0,
  going_rests _ _ _ _ _ _ _ (ap (λ m. m.0.part) c.rest.ensures.2) (ap (λ m. m.0.seen) c.rest.ensures.2) (going_on _ _ _ _ _ _ _ _ c.loop.invariant.0.0.1 c.loop.invariant.2 c.begin_once.ensures.root b.1),
  c.in-Err-Wait.ensures.kept ∙ c.loop.invariant.3,
  store_same _ _ (ap (λ m. m.0.part) c.rest.ensures.2) (upkeep_rests _ _ c.begin_once.ensures.upkeep c.loop.invariant.4),
  λ h. none_same _ _ (ap (λ m. m.0.part) c.rest.ensures.2) (upkeep_none _ _ c.begin_once.ensures.upkeep (c.loop.invariant.5 h)),
  rounds_then _ _ _ c.loop.invariant.6 (rounds_then _ _ _ (upkeep_rounds _ _ c.begin_once.ensures.upkeep) (rounds_same _ _ (ap (λ m. m.0.part) c.rest.ensures.2))),
)

pub make_room-requires-clause-rests : goal.make_room-requires-clause-rests
make_room-requires-clause-rests g c = upkeep_rests _ _ c.begin_once.ensures.upkeep c.loop.invariant.4

pub returns-in-Err-Memory-clause-home : goal.returns-in-Err-Memory-clause-home
returns-in-Err-Memory-clause-home g c = let b = rw c.in-Err-Memory.field-0-is at c.in-Err-Memory.ensures.begun in free_log _ _ b.0

pub returns-in-Err-Memory-clause-begun : goal.returns-in-Err-Memory-clause-begun
returns-in-Err-Memory-clause-begun g c = let b = rw c.in-Err-Memory.field-0-is at c.in-Err-Memory.ensures.begun in going_on _ _ _ _ _ _ _ _ c.loop.invariant.0.0.1 c.loop.invariant.2 c.begin_once.ensures.root b.1

pub returns-in-Ok-begin_once-clause-open : goal.returns-in-Ok-begin_once-clause-open
returns-in-Ok-begin_once-clause-open g c = open_before (number c.args.pass.now) (number c.loop.pass) c.args.index (part c.args.pass.now) (part c.loop.pass) (seen c.args.pass.now) (seen c.loop.pass) c.loop.invariant.0.0.1 c.loop.invariant.2 c.begin_once.ensures.open

pub returns-in-Err-Stopped-clause-open : goal.returns-in-Err-Stopped-clause-open
returns-in-Err-Stopped-clause-open g c = open_before (number c.args.pass.now) (number c.loop.pass) c.args.index (part c.args.pass.now) (part c.loop.pass) (seen c.args.pass.now) (seen c.loop.pass) c.loop.invariant.0.0.1 c.loop.invariant.2 c.begin_once.ensures.open

pub returns-in-Err-Large-clause-open : goal.returns-in-Err-Large-clause-open
returns-in-Err-Large-clause-open g c = open_before (number c.args.pass.now) (number c.loop.pass) c.args.index (part c.args.pass.now) (part c.loop.pass) (seen c.args.pass.now) (seen c.loop.pass) c.loop.invariant.0.0.1 c.loop.invariant.2 c.begin_once.ensures.open

pub loop-preserved : goal.loop-preserved
loop-preserved g c =
    let b = rw c.in-Err-Room.field-0-is at c.in-Err-Room.ensures.begun in
    let here = going_on (number c.args.pass.now) (number c.loop.pass) (part c.args.pass.now) (part c.loop.pass) (part c.begin_once.new.pass) (seen c.args.pass.now) (seen c.loop.pass) (seen c.begin_once.new.pass) c.loop.invariant.0.0.1 c.loop.invariant.2 c.begin_once.ensures.root b.1 in
    let there = going_after (number c.args.pass.now) (number c.begin_once.new.pass) (part c.args.pass.now) (part c.begin_once.new.pass) (part c.make_room.new.pass) (seen c.args.pass.now) (seen c.begin_once.new.pass) (seen c.make_room.new.pass)
    (c.begin_once.ensures.pass.0.1 ∙ c.loop.invariant.0.0.1) here c.make_room.ensures.going in (
      search rules,
      c.make_room.ensures.next,
      there,
      c.in-Err-Room.ensures.kept ∙ c.loop.invariant.3,
      c.make_room.ensures.rests,
      λ h. c.make_room.ensures.none (search rules) (upkeep_none _ _ c.begin_once.ensures.upkeep (c.loop.invariant.5 h)),
      rounds_then _ _ _ c.loop.invariant.6 (rounds_then _ _ _ (upkeep_rounds _ _ c.begin_once.ensures.upkeep) c.in-Ok-make_room.ensures.rounds),
    )

pub returns-in-Err-Stopped-make_room-clause-begun : goal.returns-in-Err-Stopped-make_room-clause-begun
returns-in-Err-Stopped-make_room-clause-begun g c =
    let b = rw c.in-Err-Room.field-0-is at c.in-Err-Room.ensures.begun in
    let here = going_on (number c.args.pass.now) (number c.loop.pass) (part c.args.pass.now) (part c.loop.pass) (part c.begin_once.new.pass) (seen c.args.pass.now) (seen c.loop.pass) (seen c.begin_once.new.pass) c.loop.invariant.0.0.1 c.loop.invariant.2 c.begin_once.ensures.root b.1 in
    let there = going_after (number c.args.pass.now) (number c.begin_once.new.pass) (part c.args.pass.now) (part c.begin_once.new.pass) (part c.make_room.new.pass) (seen c.args.pass.now) (seen c.begin_once.new.pass) (seen c.make_room.new.pass)
    (c.begin_once.ensures.pass.0.1 ∙ c.loop.invariant.0.0.1) here c.make_room.ensures.going in
    ((c.make_room.ensures.stopped (search rules), there.quiet), there.root)

pub returns-in-Err-Memory-make_room-clause-begun : goal.returns-in-Err-Memory-make_room-clause-begun
returns-in-Err-Memory-make_room-clause-begun g c =
    let b = rw c.in-Err-Room.field-0-is at c.in-Err-Room.ensures.begun in
    let here = going_on (number c.args.pass.now) (number c.loop.pass) (part c.args.pass.now) (part c.loop.pass) (part c.begin_once.new.pass) (seen c.args.pass.now) (seen c.loop.pass) (seen c.begin_once.new.pass) c.loop.invariant.0.0.1 c.loop.invariant.2 c.begin_once.ensures.root b.1 in
    going_after (number c.args.pass.now) (number c.begin_once.new.pass) (part c.args.pass.now) (part c.begin_once.new.pass) (part c.make_room.new.pass) (seen c.args.pass.now) (seen c.begin_once.new.pass) (seen c.make_room.new.pass)
    (c.begin_once.ensures.pass.0.1 ∙ c.loop.invariant.0.0.1) here c.make_room.ensures.going

pub returns-in-Ok-begin_once-clause-rests : goal.returns-in-Ok-begin_once-clause-rests
returns-in-Ok-begin_once-clause-rests g c = upkeep_rests _ _ c.begin_once.ensures.upkeep c.loop.invariant.4

pub returns-in-Err-Stopped-clause-rests : goal.returns-in-Err-Stopped-clause-rests
returns-in-Err-Stopped-clause-rests g c = upkeep_rests _ _ c.begin_once.ensures.upkeep c.loop.invariant.4

pub returns-in-Err-Large-clause-rests : goal.returns-in-Err-Large-clause-rests
returns-in-Err-Large-clause-rests g c = upkeep_rests _ _ c.begin_once.ensures.upkeep c.loop.invariant.4

pub returns-in-Err-Memory-clause-rests : goal.returns-in-Err-Memory-clause-rests
returns-in-Err-Memory-clause-rests g c = upkeep_rests _ _ c.begin_once.ensures.upkeep c.loop.invariant.4

pub returns-in-Ok-begin_once-clause-none : goal.returns-in-Ok-begin_once-clause-none
returns-in-Ok-begin_once-clause-none g c = λ _ h. upkeep_none _ _ c.begin_once.ensures.upkeep (c.loop.invariant.5 h)

pub returns-in-Err-Stopped-clause-none : goal.returns-in-Err-Stopped-clause-none
returns-in-Err-Stopped-clause-none g c = λ _ h. upkeep_none _ _ c.begin_once.ensures.upkeep (c.loop.invariant.5 h)

pub returns-in-Err-Large-clause-none : goal.returns-in-Err-Large-clause-none
returns-in-Err-Large-clause-none g c = λ _ h. upkeep_none _ _ c.begin_once.ensures.upkeep (c.loop.invariant.5 h)

pub returns-in-Err-Memory-clause-none : goal.returns-in-Err-Memory-clause-none
returns-in-Err-Memory-clause-none g c = λ _ h. upkeep_none _ _ c.begin_once.ensures.upkeep (c.loop.invariant.5 h)

pub returns-in-Ok-begin_once-clause-rounds : goal.returns-in-Ok-begin_once-clause-rounds
returns-in-Ok-begin_once-clause-rounds g c = λ _. rounds_then _ _ _ c.loop.invariant.6 (upkeep_rounds _ _ c.begin_once.ensures.upkeep)

pub returns-in-Err-Stopped-clause-rounds : goal.returns-in-Err-Stopped-clause-rounds
returns-in-Err-Stopped-clause-rounds g c = λ _. rounds_then _ _ _ c.loop.invariant.6 (upkeep_rounds _ _ c.begin_once.ensures.upkeep)

pub returns-in-Err-Large-clause-rounds : goal.returns-in-Err-Large-clause-rounds
returns-in-Err-Large-clause-rounds g c = λ _. rounds_then _ _ _ c.loop.invariant.6 (upkeep_rounds _ _ c.begin_once.ensures.upkeep)

pub returns-in-Err-Stopped-make_room-clause-none : goal.returns-in-Err-Stopped-make_room-clause-none
returns-in-Err-Stopped-make_room-clause-none g c = λ ne. absurd (ne refl)

pub returns-in-Err-Stopped-make_room-clause-rounds : goal.returns-in-Err-Stopped-make_room-clause-rounds
returns-in-Err-Stopped-make_room-clause-rounds g c = λ ne. absurd (ne refl)

pub returns-in-Err-Memory-make_room-clause-none : goal.returns-in-Err-Memory-make_room-clause-none
returns-in-Err-Memory-make_room-clause-none g c = λ _ h. c.make_room.ensures.none (search rules) (upkeep_none _ _ c.begin_once.ensures.upkeep (c.loop.invariant.5 h))
