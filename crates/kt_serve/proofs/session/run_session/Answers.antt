use Rattle.std.proofs.Common.{◌≡◌, ℕ, zero, suc, [], Some, None, refl, sym, ap, subst, ◌∙◌, rules}
use Rattle.kt_history.specs.Machine.{nth}
use Rattle.kt_seatlock.specs.Passes.{number, part, seen}
use Rattle.kt_serve.specs.Points.{CameTo}
use Rattle.kt_serve.specs.Scans.{IsOn}
use Rattle.kt_serve.proofs.Scans.{but_before}
use Rattle.kt_serve.proofs.Tells.{on_root, plan_after, still_tells, tells_after, tells_before, tells_of, none_in}
use Rattle.kt_serve.proofs.session.run_session.Goals as goal

-- making room has left the session where it began

pub run_commands-requires-clause-on : goal.run_commands-requires-clause-on
run_commands-requires-clause-on g c = on_root (λ root. IsOn c.args.schema.now root.work) c.requires.next.part _ _ c.requires.next.is c.clear_room.ensures.going.root c.requires.on

pub run_commands-requires-clause-plan : goal.run_commands-requires-clause-plan
run_commands-requires-clause-plan g c = plan_after (number c.args.pass.now) (number c.clear_room.new.pass) c.args.commands.now c.requires.next.part _ _ c.requires.next.is c.clear_room.ensures.pass.0.1 c.clear_room.ensures.going.root c.requires.plan

pub run_commands-requires-clause-tells : goal.run_commands-requires-clause-tells
run_commands-requires-clause-tells g c = tells_after (number c.args.pass.now) (number c.clear_room.new.pass) [] (seen c.clear_room.new.pass) c.requires.next.part _ _ c.requires.next.is c.clear_room.ensures.pass.0.1 c.clear_room.ensures.going.root
    (still_tells (number c.args.pass.now) [] (seen c.args.pass.now) (seen c.clear_room.new.pass) (part c.args.pass.now) c.requires.tells c.clear_room.ensures.going.quiet)

pub returns-in-Ok-clause-root : goal.returns-in-Ok-clause-root
returns-in-Ok-clause-root g c = λ root h. c.run_commands.ensures.root root (c.clear_room.ensures.going.root root h)

pub returns-in-Ok-clause-tells : goal.returns-in-Ok-clause-tells
returns-in-Ok-clause-tells g c = λ ne. tells_before (number c.args.pass.now) (number c.clear_room.new.pass) c.run_commands.result.replies (seen c.run_commands.new.pass) (part c.args.pass.now) (part c.clear_room.new.pass) c.clear_room.ensures.pass.0.1 c.clear_room.ensures.going.root (c.run_commands.ensures.tells ne)

pub returns-in-Ok-clause-lost : goal.returns-in-Ok-clause-lost
returns-in-Ok-clause-lost g c = λ e. but_before (number c.args.pass.now) (number c.clear_room.new.pass) c.run_commands.result.replies c.run_commands.result.replies (seen c.run_commands.new.pass) (part c.args.pass.now) (part c.clear_room.new.pass) c.clear_room.ensures.pass.0.1 refl c.clear_room.ensures.going.root (c.run_commands.ensures.lost e)

pub returns-in-Ok-clause-none : goal.returns-in-Ok-clause-none
returns-in-Ok-clause-none g c = λ ne h. c.run_commands.ensures.none ne (c.in-Ok.ensures.none h)

pub returns-in-Ok-clause-points : goal.returns-in-Ok-clause-points
returns-in-Ok-clause-points g c = λ k reply at. subst (λ n. CameTo g.G.Gate.came c.args.gate.now n k reply) c.clear_room.ensures.pass.0.1 (c.run_commands.ensures.points k reply at)

-- or it has stopped

pub returns-in-Err-clause-root : goal.returns-in-Err-clause-root
returns-in-Err-clause-root g c = c.clear_room.ensures.going.root

pub returns-in-Err-clause-tells : goal.returns-in-Err-clause-tells
returns-in-Err-clause-tells g c = λ ne. tells_of (number c.args.pass.now) [] _ (seen c.clear_room.new.pass) (part c.args.pass.now) c.none.ensures (still_tells (number c.args.pass.now) [] (seen c.args.pass.now) (seen c.clear_room.new.pass) (part c.args.pass.now) c.requires.tells c.clear_room.ensures.going.quiet)

pub returns-in-Err-clause-none : goal.returns-in-Err-clause-none
returns-in-Err-clause-none g c = λ ne. absurd (ne refl)

pub returns-in-Err-clause-points : goal.returns-in-Err-clause-points
returns-in-Err-clause-points g c = λ k reply at. absurd (none_in k reply (ap (λ l. nth l k) (sym c.none.ensures) ∙ at))
