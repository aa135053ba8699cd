use Rattle.std.proofs.Common.{rules, ◌≡◌, ◌∙◌, Option, None, Result, refl, ap, sym, subst, Ok, Some}
use Rattle.std.specs.Prelude.{◌≢◌}
use Rattle.kt_bytes.specs.declared.memory.NoMemory.{NoMemory}
use Rattle.kt_disk.specs.declared.gate.Point.TheVariants as point
use Rattle.kt_history.specs.declared.reply.Reply.{Reply}
use Rattle.kt_history.specs.declared.reply.Reply.TheVariants as reply
use Rattle.kt_seatlock.specs.Passes.{number, part, seen}
use Rattle.kt_serve.proofs.Stills.{going_after}
use Rattle.kt_serve.proofs.Commands.{after_going}
use Rattle.kt_serve.proofs.Applies.{flies_first}
use Rattle.kt_serve.proofs.Open.{is_answered}
use Rattle.kt_serve.proofs.Rests.{rounds_then, upkeep_none, upkeep_rests, upkeep_rounds}
use Rattle.kt_serve.proofs.tablet.SharedTablet.write.Goals as goal

pub finish_write-requires-clause-flying : goal.finish_write-requires-clause-flying
finish_write-requires-clause-flying g c =
    let began = rw c.in-None.is at c.in_ok-reply.ensures.begun in
    (c.args.index, flies_first (number c.args.pass.now) (number c.begin_write.new.pass) c.args.index began.0.0 c.args.write.now c.requires.next.part (part c.args.pass.now) (part c.begin_write.new.pass) (seen c.args.pass.now) (seen c.begin_write.new.pass) c.requires.next.is c.begin_write.ensures.pass.0.1 began.1 began.0.1 c.requires.command c.requires.write.few)

pub returns-in-Ok-clause-root : goal.returns-in-Ok-clause-root
returns-in-Ok-clause-root g c = let began = rw c.in-None.is at c.in_ok-reply.ensures.begun in λ root h. c.finish_write.ensures.root root (began.1.root root h)

pub returns-in-Ok-clause-reply : goal.returns-in-Ok-clause-reply
returns-in-Ok-clause-reply g c =
    let began = rw c.in-None.is at c.in_ok-reply.ensures.begun in
    let flying = flies_first (number c.args.pass.now) (number c.begin_write.new.pass) c.args.index began.0.0 c.args.write.now c.requires.next.part (part c.args.pass.now) (part c.begin_write.new.pass) (seen c.args.pass.now) (seen c.begin_write.new.pass) c.requires.next.is c.begin_write.ensures.pass.0.1 began.1 began.0.1 c.requires.command c.requires.write.few in
    after_going (number c.args.pass.now) (number c.begin_write.new.pass) c.args.index c.in-Ok.reply (part c.args.pass.now) (part c.begin_write.new.pass) (part c.finish_write.new.pass) (seen c.args.pass.now) (seen c.begin_write.new.pass) (seen c.finish_write.new.pass) c.begin_write.ensures.pass.0.1 began.1 (c.in-Ok.ensures.reply c.args.index flying)

pub returns-in-Err-Stopped-clause-root : goal.returns-in-Err-Stopped-clause-root
returns-in-Err-Stopped-clause-root g c = let began = rw c.in-None.is at c.in_ok-reply.ensures.begun in λ root h. c.finish_write.ensures.root root (began.1.root root h)

pub returns-in-Err-Memory-clause-root : goal.returns-in-Err-Memory-clause-root
returns-in-Err-Memory-clause-root g c = let began = rw c.in-None.is at c.in_ok-reply.ensures.begun in λ root h. c.finish_write.ensures.root root (began.1.root root h)

pub returns-in-Err-Memory-clause-memory : goal.returns-in-Err-Memory-clause-memory
returns-in-Err-Memory-clause-memory g c =
    let began = rw c.in-None.is at c.in_ok-reply.ensures.begun in
    going_after (number c.args.pass.now) (number c.begin_write.new.pass) (part c.args.pass.now) (part c.begin_write.new.pass) (part c.finish_write.new.pass) (seen c.args.pass.now) (seen c.begin_write.new.pass) (seen c.finish_write.new.pass) c.begin_write.ensures.pass.0.1 began.1 c.in-Err-Memory.ensures.going

pub returns-in-Ok-clause-answer : goal.returns-in-Ok-clause-answer
returns-in-Ok-clause-answer g c = λ ne. is_answered (part c.args.pass.now) (part c.finish_write.new.pass) (seen c.args.pass.now) (seen c.finish_write.new.pass) (number c.args.pass.now) c.args.index c.in-Ok.reply ne (returns-in-Ok-clause-reply g c) c.in_ok-reply.ensures.open

pub returns-in-Some-clause-answer : goal.returns-in-Some-clause-answer
returns-in-Some-clause-answer g c = λ ne. is_answered (part c.args.pass.now) (part c.begin_write.new.pass) (seen c.args.pass.now) (seen c.begin_write.new.pass) (number c.args.pass.now) c.args.index c.in-Some.reply ne (rw c.in-Some.is at c.in_ok-reply.ensures.begun).0 c.in_ok-reply.ensures.open

pub returns-in-Err-Stopped-clause-answer : goal.returns-in-Err-Stopped-clause-answer
returns-in-Err-Stopped-clause-answer g c = λ ne. absurd (ne refl)

pub returns-in-Some-clause-begun : goal.returns-in-Some-clause-begun
returns-in-Some-clause-begun g c = λ ts outcomes e.
    let written : c.in-Some.reply ≡ reply.At ts outcomes = cc in
    absurd (c.begin_write.ensures.unwritten ts outcomes (c.in_ok-reply.was ∙ ap Ok (c.in-Some.is ∙ ap Some written)))

pub returns-in-Ok-clause-begun : goal.returns-in-Ok-clause-begun
returns-in-Ok-clause-begun g c = λ ts outcomes e. subst (λ n. g.G.Gate.came c.args.gate.now (point.Begun n c.args.index)) c.number-session.ensures c.at.ensures

pub returns-in-Ok-clause-rests : goal.returns-in-Ok-clause-rests
returns-in-Ok-clause-rests g c = upkeep_rests (part c.begin_write.new.pass) (part c.finish_write.new.pass) c.finish_write.ensures.upkeep c.begin_write.ensures.rests

pub returns-in-Err-Stopped-clause-rests : goal.returns-in-Err-Stopped-clause-rests
returns-in-Err-Stopped-clause-rests g c = upkeep_rests (part c.begin_write.new.pass) (part c.finish_write.new.pass) c.finish_write.ensures.upkeep c.begin_write.ensures.rests

pub returns-in-Err-Memory-clause-rests : goal.returns-in-Err-Memory-clause-rests
returns-in-Err-Memory-clause-rests g c = upkeep_rests (part c.begin_write.new.pass) (part c.finish_write.new.pass) c.finish_write.ensures.upkeep c.begin_write.ensures.rests

-- it has no job, and no fewer rounds

abbrev begun_as : Option Reply → Result (Option Reply) NoMemory
begun_as o = Ok o

some_stopped : (o : Option Reply) (q : Reply) → o ≡ Some q → begun_as o ≡ Ok (Some reply.Stopped) → q ≡ reply.Stopped
some_stopped o q is e = cc

none_stopped : (o : Option Reply) → o ≡ None → begun_as o ≢ Ok (Some reply.Stopped)
none_stopped o is e = cc

pub returns-in-Some-clause-none : goal.returns-in-Some-clause-none
returns-in-Some-clause-none g c = λ ne h. c.in_ok-reply.ensures.none (λ e. ne (ap Ok (some_stopped _ c.in-Some.reply c.in-Some.is e))) h

pub returns-in-Some-clause-rounds : goal.returns-in-Some-clause-rounds
returns-in-Some-clause-rounds g c = λ ne. c.in_ok-reply.ensures.rounds (λ e. ne (some_stopped _ c.in-Some.reply c.in-Some.is e))

pub returns-in-Ok-clause-none : goal.returns-in-Ok-clause-none
returns-in-Ok-clause-none g c = λ _ h. upkeep_none (part c.begin_write.new.pass) (part c.finish_write.new.pass) c.finish_write.ensures.upkeep (c.in_ok-reply.ensures.none (none_stopped _ c.in-None.is) h)

pub returns-in-Ok-clause-rounds : goal.returns-in-Ok-clause-rounds
returns-in-Ok-clause-rounds g c = λ _. rounds_then (part c.args.pass.now) (part c.begin_write.new.pass) (part c.finish_write.new.pass) (c.in_ok-reply.ensures.rounds (none_stopped _ c.in-None.is)) (upkeep_rounds (part c.begin_write.new.pass) (part c.finish_write.new.pass) c.finish_write.ensures.upkeep)

pub returns-in-Err-Stopped-clause-none : goal.returns-in-Err-Stopped-clause-none
returns-in-Err-Stopped-clause-none g c = λ ne. absurd (ne refl)

pub returns-in-Err-Stopped-clause-rounds : goal.returns-in-Err-Stopped-clause-rounds
returns-in-Err-Stopped-clause-rounds g c = λ ne. absurd (ne refl)

pub returns-in-Err-Memory-clause-none : goal.returns-in-Err-Memory-clause-none
returns-in-Err-Memory-clause-none g c = λ _ h. upkeep_none (part c.begin_write.new.pass) (part c.finish_write.new.pass) c.finish_write.ensures.upkeep (c.in_ok-reply.ensures.none (none_stopped _ c.in-None.is) h)

pub returns-in_err-reply-clause-none : goal.returns-in_err-reply-clause-none
returns-in_err-reply-clause-none g c = λ _ h. c.begin_write.ensures.none (search rules) h
