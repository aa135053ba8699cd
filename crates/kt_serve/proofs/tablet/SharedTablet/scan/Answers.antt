use Rattle.std.proofs.Common.{refl}
use Rattle.std.proofs.lemmas.Result.{IfOk-weaker, on_err_weaker, on_ok_weaker}
use Rattle.kt_history.specs.declared.command.Command.TheVariants as command
use Rattle.kt_seatlock.specs.Passes.{number, part, seen}
use Rattle.kt_serve.specs.Scans.{IsOn}
use Rattle.kt_serve.proofs.Commands.{command_after, after_going}
use Rattle.kt_serve.proofs.Tells.{on_root}
use Rattle.kt_serve.proofs.Scans.{lacks_after}
use Rattle.kt_serve.proofs.Open.{is_answered_ok, open_before}
use Rattle.kt_serve.proofs.Rests.{upkeep_then}
use Rattle.kt_serve.proofs.tablet.SharedTablet.scan.Goals as goal

pub read_rows-requires-clause-on : goal.read_rows-requires-clause-on
read_rows-requires-clause-on g c = on_root (λ root. IsOn c.args.schema.now root.work) c.requires.next.part _ _ c.requires.next.is c.draw_time.ensures.going.root c.requires.on

pub read_rows-requires-clause-command : goal.read_rows-requires-clause-command
read_rows-requires-clause-command g c = command_after _ _ c.args.index (command.Scan c.args.scan.now) c.requires.next.part _ _ c.requires.next.is c.draw_time.ensures.pass.0.1 c.draw_time.ensures.going.root c.requires.command

pub returns-in-Ok-clause-root : goal.returns-in-Ok-clause-root
returns-in-Ok-clause-root g c = λ root h. c.read_rows.ensures.root root (c.draw_time.ensures.going.root root h)

pub returns-in-Ok-clause-reply : goal.returns-in-Ok-clause-reply
returns-in-Ok-clause-reply g c = IfOk-weaker c.read_rows.result _ _
    (λ reply h. after_going (number c.args.pass.now) (number c.draw_time.new.pass) c.args.index reply (part c.args.pass.now) (part c.draw_time.new.pass) (part c.read_rows.new.pass) (seen c.args.pass.now) (seen c.draw_time.new.pass) (seen c.read_rows.new.pass) c.draw_time.ensures.pass.0.1 c.draw_time.ensures.going h)
    c.read_rows.ensures.reply

pub returns-in-Ok-clause-memory : goal.returns-in-Ok-clause-memory
returns-in-Ok-clause-memory g c = on_err_weaker c.read_rows.result
    (lacks_after (number c.args.pass.now) (number c.draw_time.new.pass) c.args.index (part c.args.pass.now) (part c.draw_time.new.pass) (part c.read_rows.new.pass) (seen c.args.pass.now) (seen c.draw_time.new.pass) (seen c.read_rows.new.pass) c.draw_time.ensures.pass.0.1 c.draw_time.ensures.going)
    c.read_rows.ensures.memory

pub returns-in-Ok-clause-answer : goal.returns-in-Ok-clause-answer
returns-in-Ok-clause-answer g c = is_answered_ok (part c.args.pass.now) (part c.read_rows.new.pass) (seen c.args.pass.now) (seen c.read_rows.new.pass) (number c.args.pass.now) c.args.index c.read_rows.result (returns-in-Ok-clause-reply g c)
    (on_ok_weaker c.read_rows.result (open_before (number c.args.pass.now) (number c.draw_time.new.pass) c.args.index (part c.args.pass.now) (part c.draw_time.new.pass) (seen c.args.pass.now) (seen c.draw_time.new.pass) c.draw_time.ensures.pass.0.1 c.draw_time.ensures.going) c.read_rows.ensures.open)

pub returns-in-Err-Stopped-clause-answer : goal.returns-in-Err-Stopped-clause-answer
returns-in-Err-Stopped-clause-answer g c = λ ne. absurd (ne refl)

pub returns-in-Ok-clause-upkeep : goal.returns-in-Ok-clause-upkeep
returns-in-Ok-clause-upkeep g c = upkeep_then _ _ _ c.draw_time.ensures.upkeep c.read_rows.ensures.upkeep
