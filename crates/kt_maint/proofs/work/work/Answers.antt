use Rattle.std.proofs.Common.{rules, inl, refl, subst}
use Rattle.kt_seatlock.specs.Passes.{number, seen, part}
use Rattle.kt_engine.specs.Calls.{SeesOthers}
use Rattle.kt_maint.proofs.Calling.{still_itself, still_then, sees_itself, sees_then, none_then}
use Rattle.kt_maint.proofs.work.work.Goals as goal

pub steps-init : goal.steps-init
steps-init g c = (((refl, refl), (refl, refl, refl), c.requires.enters.1), c.requires.home, (still_itself (part c.args.pass.now) c.requires.home).0, sees_itself (number c.args.pass.now) (seen c.args.pass.now), λ none. inl none)

pub steps-preserved : goal.steps-preserved
steps-preserved g c =
    let quiet = subst (λ n. SeesOthers n (seen c.steps.pass) (seen c.take_step-step.new.pass)) c.steps.invariant.0.0.1 c.take_step-step.ensures.quiet in (
      search rules,
      c.take_step-step.ensures.home,
      still_then (part c.args.pass.now) (part c.steps.pass) (part c.take_step-step.new.pass) c.steps.invariant.2 c.take_step-step.ensures.still,
      sees_then (number c.args.pass.now) (seen c.args.pass.now) (seen c.steps.pass) (seen c.take_step-step.new.pass) c.steps.invariant.3 quiet,
      none_then (number c.args.pass.now) (part c.args.pass.now) (part c.steps.pass) (part c.take_step-step.new.pass) (seen c.steps.pass) (seen c.take_step-step.new.pass) c.steps.invariant.4 quiet c.take_step-step.ensures.none,
    )

pub returns-then-eq-2-clause-still : goal.returns-then-eq-2-clause-still
returns-then-eq-2-clause-still g c = still_then (part c.args.pass.now) (part c.steps.pass) (part c.take_step-step.new.pass) c.steps.invariant.2 c.take_step-step.ensures.still

pub returns-then-eq-2-clause-none : goal.returns-then-eq-2-clause-none
returns-then-eq-2-clause-none g c =
    let quiet = subst (λ n. SeesOthers n (seen c.steps.pass) (seen c.take_step-step.new.pass)) c.steps.invariant.0.0.1 c.take_step-step.ensures.quiet in
    none_then (number c.args.pass.now) (part c.args.pass.now) (part c.steps.pass) (part c.take_step-step.new.pass) (seen c.steps.pass) (seen c.take_step-step.new.pass) c.steps.invariant.4 quiet c.take_step-step.ensures.none
