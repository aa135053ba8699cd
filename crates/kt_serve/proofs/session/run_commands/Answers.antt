use Rattle.std.proofs.Common.{rules, arith, [], ◌≡◌, ◌≤◌, refl, length, take, slice_get, Option, None, Some, Ok, Err, Result, ◌+◌, ap, sym, ◌∙◌, subst}
use Rattle.kt_history.specs.Machine.{nth}
use Rattle.kt_seatlock.specs.Passes.{number, part, seen}
use Rattle.kt_serve.specs.Points.{CameTo}
use Rattle.kt_serve.proofs.Begins.{some_is}
use Rattle.kt_serve.proofs.Commands.{command_after}
use Rattle.kt_serve.proofs.Points.{each_more}
use Rattle.kt_serve.specs.declared.log.Halt.{Halt}
use Rattle.kt_serve.specs.declared.log.Halt.TheVariants.{Memory}
use Rattle.kt_serve.specs.Scans.{IsOn}
use Rattle.kt_serve.proofs.Scans.{but_before}
use Rattle.kt_serve.specs.Maintained.{chores_in}
use Rattle.kt_serve.proofs.Rests.{chores_next, few_chores, no_rounds, rounds_as}
use Rattle.std.proofs.lemmas.List.{take_all}
use Rattle.kt_serve.proofs.Tells.{at_command, on_root, tells_after, tells_before, tells_of, nth_at, get_at, none_in}
use Rattle.kt_serve.proofs.session.run_commands.Goals as goal

abbrev halt_of : {A : Type 0} → Result A Halt → Option Halt
halt_of (Ok a) = None
halt_of (Err halt) = Some halt

ok_not : {A : Type 0} (a : A) (halt : Halt) → Ok a ≡ Err halt → ⊥
ok_not a halt e = cc

pub loop-at-init : goal.loop-at-init
loop-at-init g c = (
  search rules,
  λ root h. h,
  c.requires.next,
  ap length c.new-replies.ensures.items,
  tells_of (number c.args.pass.now) [] c.new-replies.result.items (seen c.args.pass.now) (part c.args.pass.now) c.new-replies.ensures.items c.requires.tells,
  λ k reply at. absurd (none_in k reply (ap (λ l. nth l k) (sym c.new-replies.ensures.items) ∙ at)),
  c.requires.rests,
  λ h. h,
  no_rounds (part c.args.pass.now) 1 c.args.commands.now c.requires.next,
)

pub take_next-requires-clause-on : goal.take_next-requires-clause-on
take_next-requires-clause-on g c = on_root (λ root. IsOn c.args.schema.now root.work) c.requires.next.part _ _ c.requires.next.is c.loop-at.invariant.1 c.requires.on

pub take_next-requires-clause-rests : goal.take_next-requires-clause-rests
take_next-requires-clause-rests g c = c.loop-at.invariant.6

pub take_next-requires-clause-command : goal.take_next-requires-clause-command
take_next-requires-clause-command g c = command_after _ _ (c.loop-at.at + 1) c.index-commands-at.result c.requires.next.part _ _ c.requires.next.is c.loop-at.invariant.0.0.1 c.loop-at.invariant.1
    (at_command _ _ (c.loop-at.at + 1) c.args.commands.now c.index-commands-at.result c.requires.plan (nth_at c.args.commands.now c.loop-at.at c.index-commands-at.result c.loop-at-test.true c.index-commands-at.is))

pub take_next-requires-clause-runs : goal.take_next-requires-clause-runs
take_next-requires-clause-runs g c = c.requires.runs (c.loop-at.at + 1) c.index-commands-at.result (nth_at c.args.commands.now c.loop-at.at c.index-commands-at.result c.loop-at-test.true c.index-commands-at.is)

pub take_next-requires-clause-tells : goal.take_next-requires-clause-tells
take_next-requires-clause-tells g c = tells_after (number c.args.pass.now) (number c.loop-at.pass) c.loop-at.replies.items (seen c.loop-at.pass) c.requires.next.part _ _ c.requires.next.is c.loop-at.invariant.0.0.1 c.loop-at.invariant.1 c.loop-at.invariant.4

pub returns-in-Err-clause-root : goal.returns-in-Err-clause-root
returns-in-Err-clause-root g c = λ root h. c.take_next.ensures.root root (c.loop-at.invariant.1 root h)

pub returns-in-Err-clause-tells : goal.returns-in-Err-clause-tells
returns-in-Err-clause-tells g c = λ ne. tells_of (number c.args.pass.now) c.take_next.new.replies.items _ (seen c.take_next.new.pass) (part c.args.pass.now) c.of.ensures
    (tells_before (number c.args.pass.now) (number c.loop-at.pass) c.take_next.new.replies.items (seen c.take_next.new.pass) (part c.args.pass.now) (part c.loop-at.pass) c.loop-at.invariant.0.0.1 c.loop-at.invariant.1 (c.in-Err.ensures.tells (λ e. ne (ap halt_of e))))

pub returns-in-Err-clause-lost : goal.returns-in-Err-clause-lost
returns-in-Err-clause-lost g c = λ e. but_before (number c.args.pass.now) (number c.loop-at.pass) c.take_next.new.replies.items _ (seen c.take_next.new.pass) (part c.args.pass.now) (part c.loop-at.pass) c.loop-at.invariant.0.0.1 c.of.ensures c.loop-at.invariant.1 (c.in-Err.ensures.lost (ap (λ h. Err h) (some_is c.in-Err.halt Memory e)))

pub returns-in-Err-clause-points : goal.returns-in-Err-clause-points
returns-in-Err-clause-points g c = λ k reply at. c.loop-at.invariant.5 k reply (ap (λ l. nth l k) (sym c.in-Err.ensures.same ∙ sym c.of.ensures) ∙ at)

pub loop-at-preserved : goal.loop-at-preserved
loop-at-preserved g c = (
  search rules,
  λ root h. c.take_next.ensures.root root (c.loop-at.invariant.1 root h),
  c.in-Ok.ensures.next,
  c.in-Ok.ensures.more ∙ ap (λ n. n + 1) c.loop-at.invariant.3,
  tells_before (number c.args.pass.now) (number c.loop-at.pass) c.take_next.new.replies.items (seen c.take_next.new.pass) (part c.args.pass.now) (part c.loop-at.pass) c.loop-at.invariant.0.0.1 c.loop-at.invariant.1 (c.in-Ok.ensures.tells (ok_not _ Memory)),
  each_more (λ k reply. CameTo g.G.Gate.came c.args.gate.now (number c.args.pass.now) k reply) c.loop-at.replies.items c.take_next.new.replies.items c.in-Ok.ensures.points.0 (c.loop-at.at + 1) (ap (λ n. n + 1) (sym c.loop-at.invariant.3)) c.in-Ok.ensures.points.1 c.loop-at.invariant.5
      (subst (λ n. CameTo g.G.Gate.came c.args.gate.now n (c.loop-at.at + 1) c.in-Ok.ensures.points.0) c.loop-at.invariant.0.0.1 c.in-Ok.ensures.points.2),
  c.take_next.ensures.rests,
  λ h. c.take_next.ensures.none (search rules) (c.loop-at.invariant.7 h),
  let here : slice_get c.args.commands.now c.loop-at.at ≡ Some c.index-commands-at.result = get_at c.args.commands.now c.loop-at.at c.index-commands-at.result c.loop-at-test.true c.index-commands-at.is in
      let few = few_chores c.args.commands.now c.loop-at.at (omega arith) in
      rounds_as (part c.take_next.new.pass) _ _ (sym (chores_next c.args.commands.now c.loop-at.at c.index-commands-at.result here)) (c.in-Ok.ensures.rounds (chores_in (take c.loop-at.at c.args.commands.now)) (omega (arith, few)) c.loop-at.invariant.8),
)

pub returns-in-Err-clause-none : goal.returns-in-Err-clause-none
returns-in-Err-clause-none g c = λ ne h. c.take_next.ensures.none (λ e. ne (ap halt_of (sym c.in-Err.is ∙ e))) (c.loop-at.invariant.7 h)

pub returns-clause-rounds : goal.returns-clause-rounds
returns-clause-rounds g c = λ _.
    let all : length c.args.commands.now ≤ c.loop-at.at = omega arith in
    rounds_as (part c.loop-at.pass) _ _ (ap chores_in (take_all c.loop-at.at c.args.commands.now all)) c.loop-at.invariant.8

pub returns-clause-tells : goal.returns-clause-tells
returns-clause-tells g c = λ _. tells_of (number c.args.pass.now) c.loop-at.replies.items _ (seen c.loop-at.pass) (part c.args.pass.now) c.of-2.ensures c.loop-at.invariant.4

pub returns-clause-points : goal.returns-clause-points
returns-clause-points g c = λ k reply at. c.loop-at.invariant.5 k reply (ap (λ l. nth l k) (sym c.of-2.ensures) ∙ at)
