use Rattle.std.proofs.Common.{rules, refl}
use Rattle.kt_history.specs.declared.command.Command.TheVariants as command
use Rattle.kt_seatlock.specs.Passes.{number, part, seen}
use Rattle.kt_serve.proofs.Rests.{no_device, device_rests, upkeep_none, upkeep_rests}
use Rattle.kt_serve.proofs.Maintained.{device_log, still_goes, still_free, done_with, done_chore, open_chore, reply_chore, lost_chore}
use Rattle.kt_serve.proofs.Commands.{command_after}
use Rattle.kt_serve.proofs.chores.run_chore.Goals as goal

pub run-requires-clause-rests : goal.run-requires-clause-rests
run-requires-clause-rests g c = no_device (part c.args.pass.now) c.args.index c.requires.rests c.requires.next

pub answer_once-requires-clause-next : goal.answer_once-requires-clause-next
answer_once-requires-clause-next g c = still_free (part c.args.pass.now) (part c.run.new.pass) c.args.index c.run.ensures.still c.run.ensures.home c.requires.next

pub answer_once-requires-clause-command : goal.answer_once-requires-clause-command
answer_once-requires-clause-command g c =
    let going = still_goes (number c.args.pass.now) (part c.args.pass.now) (part c.run.new.pass) (seen c.args.pass.now) (seen c.run.new.pass) c.run.ensures.still c.run.ensures.quiet in
    command_after (number c.args.pass.now) (number c.run.new.pass) c.args.index (command.Chore c.args.chore) c.requires.next.part _ _ c.requires.next.is c.run.ensures.pass.0.1 going.root c.requires.command

pub answer_once-requires-clause-done : goal.answer_once-requires-clause-done
answer_once-requires-clause-done g c = done_with c.args.chore (part c.args.pass.now) (part c.run.new.pass) c.in-Ok.ensures.done

pub returns-in-Ok-clause-root : goal.returns-in-Ok-clause-root
returns-in-Ok-clause-root g c =
    let going = still_goes (number c.args.pass.now) (part c.args.pass.now) (part c.run.new.pass) (seen c.args.pass.now) (seen c.run.new.pass) c.run.ensures.still c.run.ensures.quiet in
    λ root h. c.answer_once.ensures.root root (going.root root h)

pub returns-in-Ok-clause-open : goal.returns-in-Ok-clause-open
returns-in-Ok-clause-open g c =
    let going = still_goes (number c.args.pass.now) (part c.args.pass.now) (part c.run.new.pass) (seen c.args.pass.now) (seen c.run.new.pass) c.run.ensures.still c.run.ensures.quiet in
    open_chore (number c.args.pass.now) (number c.run.new.pass) c.args.index (part c.args.pass.now) (part c.run.new.pass) (seen c.args.pass.now) (seen c.run.new.pass) c.answer_once.result c.run.ensures.pass.0.1 going c.answer_once.ensures.open

pub returns-in-Ok-clause-reply : goal.returns-in-Ok-clause-reply
returns-in-Ok-clause-reply g c =
    let going = still_goes (number c.args.pass.now) (part c.args.pass.now) (part c.run.new.pass) (seen c.args.pass.now) (seen c.run.new.pass) c.run.ensures.still c.run.ensures.quiet in
    reply_chore (number c.args.pass.now) (number c.run.new.pass) c.args.index (part c.args.pass.now) (part c.run.new.pass) (part c.answer_once.new.pass) (seen c.args.pass.now) (seen c.run.new.pass) (seen c.answer_once.new.pass) c.answer_once.result c.run.ensures.pass.0.1 going c.answer_once.ensures.reply

pub returns-in-Ok-clause-memory : goal.returns-in-Ok-clause-memory
returns-in-Ok-clause-memory g c =
    let going = still_goes (number c.args.pass.now) (part c.args.pass.now) (part c.run.new.pass) (seen c.args.pass.now) (seen c.run.new.pass) c.run.ensures.still c.run.ensures.quiet in
    lost_chore (number c.args.pass.now) (number c.run.new.pass) (part c.args.pass.now) (part c.run.new.pass) (part c.answer_once.new.pass) (seen c.args.pass.now) (seen c.run.new.pass) (seen c.answer_once.new.pass) c.answer_once.result c.run.ensures.pass.0.1 going c.answer_once.ensures.memory

pub returns-in-Err-Stopped-clause-home : goal.returns-in-Err-Stopped-clause-home
returns-in-Err-Stopped-clause-home g c = device_log (part c.run.new.pass) c.run.ensures.home

pub returns-in-Err-Stopped-clause-root : goal.returns-in-Err-Stopped-clause-root
returns-in-Err-Stopped-clause-root g c = let going = still_goes (number c.args.pass.now) (part c.args.pass.now) (part c.run.new.pass) (seen c.args.pass.now) (seen c.run.new.pass) c.run.ensures.still c.run.ensures.quiet in going.root

pub returns-in-Err-Stopped-clause-open : goal.returns-in-Err-Stopped-clause-open
returns-in-Err-Stopped-clause-open g c = λ ne. absurd (ne refl)

pub returns-in-Err-Stopped-clause-reply : goal.returns-in-Err-Stopped-clause-reply
returns-in-Err-Stopped-clause-reply g c = let going = still_goes (number c.args.pass.now) (part c.args.pass.now) (part c.run.new.pass) (seen c.args.pass.now) (seen c.run.new.pass) c.run.ensures.still c.run.ensures.quiet in (c.run.ensures.stopped (search rules), going.quiet)

pub returns-in-Err-Memory-clause-home : goal.returns-in-Err-Memory-clause-home
returns-in-Err-Memory-clause-home g c = device_log (part c.run.new.pass) c.run.ensures.home

pub returns-in-Err-Memory-clause-root : goal.returns-in-Err-Memory-clause-root
returns-in-Err-Memory-clause-root g c = let going = still_goes (number c.args.pass.now) (part c.args.pass.now) (part c.run.new.pass) (seen c.args.pass.now) (seen c.run.new.pass) c.run.ensures.still c.run.ensures.quiet in going.root

pub returns-in-Err-Memory-clause-memory : goal.returns-in-Err-Memory-clause-memory
returns-in-Err-Memory-clause-memory g c = still_goes (number c.args.pass.now) (part c.args.pass.now) (part c.run.new.pass) (seen c.args.pass.now) (seen c.run.new.pass) c.run.ensures.still c.run.ensures.quiet

pub returns-in-Ok-clause-done : goal.returns-in-Ok-clause-done
returns-in-Ok-clause-done g c = done_chore c.args.chore (part c.args.pass.now) (part c.run.new.pass) (part c.answer_once.new.pass) c.answer_once.result c.in-Ok.ensures.done c.answer_once.ensures.upkeep

pub returns-in-Err-Stopped-clause-done : goal.returns-in-Err-Stopped-clause-done
returns-in-Err-Stopped-clause-done g c = λ ne. absurd (ne refl)

pub returns-in-Ok-clause-rests : goal.returns-in-Ok-clause-rests
returns-in-Ok-clause-rests g c = upkeep_rests (part c.run.new.pass) (part c.answer_once.new.pass) c.answer_once.ensures.upkeep (device_rests (part c.run.new.pass) c.run.ensures.home)

pub returns-in-Err-Stopped-clause-rests : goal.returns-in-Err-Stopped-clause-rests
returns-in-Err-Stopped-clause-rests g c = device_rests (part c.run.new.pass) c.run.ensures.home

pub returns-in-Err-Memory-clause-rests : goal.returns-in-Err-Memory-clause-rests
returns-in-Err-Memory-clause-rests g c = device_rests (part c.run.new.pass) c.run.ensures.home

pub returns-in-Ok-clause-none : goal.returns-in-Ok-clause-none
returns-in-Ok-clause-none g c = λ _ h. upkeep_none (part c.run.new.pass) (part c.answer_once.new.pass) c.answer_once.ensures.upkeep (c.run.ensures.none (search rules) h)

pub returns-in-Err-Stopped-clause-none : goal.returns-in-Err-Stopped-clause-none
returns-in-Err-Stopped-clause-none g c = λ ne. absurd (ne refl)

pub returns-in-Err-Memory-clause-none : goal.returns-in-Err-Memory-clause-none
returns-in-Err-Memory-clause-none g c = λ _ h. c.run.ensures.none (search rules) h
