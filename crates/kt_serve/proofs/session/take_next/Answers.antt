use Rattle.std.proofs.Common.{◌≡◌, ◌++◌, ◌∷◌, [], Ok, Result, refl, ap, subst, ◌∙◌, rules}
use Rattle.kt_bytes.specs.declared.memory.NoMemory.{NoMemory}
use Rattle.kt_disk.specs.declared.gate.Point.TheVariants as point
use Rattle.kt_history.specs.declared.reply.Reply.{Reply}
use Rattle.kt_seatlock.specs.Passes.{number, part, seen}
use Rattle.kt_serve.proofs.Tells.{then_tells, pushed_tells, answered_of}
use Rattle.kt_serve.proofs.Points.{if_written}
use Rattle.kt_serve.proofs.Rests.{command_rounds}
use Rattle.kt_serve.proofs.Scans.{lacks_tells}
use Rattle.kt_serve.proofs.session.take_next.Goals as goal

abbrev replied : Reply → Result Reply NoMemory
replied r = Ok r

ok_same : (x y : Reply) → replied x ≡ replied y → x ≡ y
ok_same x y e = cc

pub returns-else-is_stopped-clause-tells : goal.returns-else-is_stopped-clause-tells
returns-else-is_stopped-clause-tells g c = λ _. pushed_tells (number c.args.pass.now) c.args.replies.now.items c.reserve.new.self.items c.push_reserved.new.self.items c.in-Ok.reply (seen c.take.new.pass) (part c.args.pass.now) c.reserve.ensures.items c.push_reserved.ensures.items
    (then_tells (number c.args.pass.now) c.args.index c.args.replies.now.items c.in-Ok.reply (seen c.args.pass.now) (seen c.take.new.pass) (part c.args.pass.now) (part c.take.new.pass) (c.is_stopped.ensures.other (search rules)) c.requires.index c.requires.tells c.in-Ok.ensures.reply)

pub returns-else-is_stopped-clause-next : goal.returns-else-is_stopped-clause-next
returns-else-is_stopped-clause-next g c = (answered_of (part c.args.pass.now) (part c.take.new.pass) (seen c.args.pass.now) (seen c.take.new.pass) (number c.args.pass.now) c.args.index c.in-Ok.reply (c.is_stopped.ensures.other (search rules)) c.in-Ok.ensures.reply).0

pub returns-in-Err-clause-lost : goal.returns-in-Err-clause-lost
returns-in-Err-clause-lost g c = λ _. lacks_tells (number c.args.pass.now) c.args.index c.args.replies.now.items c.reserve.new.self.items (seen c.args.pass.now) (seen c.take.new.pass) (part c.args.pass.now) (part c.take.new.pass) c.reserve.ensures.items c.requires.index c.requires.tells c.in-Err.ensures.memory

pub returns-else-is_stopped-clause-points : goal.returns-else-is_stopped-clause-points
returns-else-is_stopped-clause-points g c = (
  c.in-Ok.reply,
  c.push_reserved.ensures.items ∙ ap (λ l. l ++ c.in-Ok.reply ∷ []) c.reserve.ensures.items,
  record {
    before = subst (λ s. g.G.Gate.came c.args.gate.now (point.Before s c.args.index)) c.number-session.ensures c.at.ensures;
    begun = if_written c.in-Ok.reply _ (λ ts outcomes is. c.in-Ok.ensures.begun ts outcomes (ap Ok is));
    after = subst (λ s. g.G.Gate.came c.args.gate.now (point.After s c.args.index)) c.number-session.ensures c.at-in-Ok.ensures;
  },
)

pub returns-then-is_stopped-clause-none : goal.returns-then-is_stopped-clause-none
returns-then-is_stopped-clause-none g c = λ ne. absurd (ne refl)

pub returns-else-is_stopped-clause-none : goal.returns-else-is_stopped-clause-none
returns-else-is_stopped-clause-none g c = λ _ h. c.in-Ok.ensures.none (λ e. c.is_stopped.ensures.other (search rules) (ok_same c.in-Ok.reply _ e)) h

pub returns-else-is_stopped-clause-rounds : goal.returns-else-is_stopped-clause-rounds
returns-else-is_stopped-clause-rounds g c = λ n small h.
    let goes = c.is_stopped.ensures.other (search rules) in
    command_rounds c.args.command.now (part c.args.pass.now) (part c.take.new.pass) n small (c.in-Ok.ensures.rounds goes) (λ chore is. c.in-Ok.ensures.done chore is goes) h

pub returns-in-Err-clause-none : goal.returns-in-Err-clause-none
returns-in-Err-clause-none g c = λ _ h. c.take.ensures.none (search rules) h
