use Rattle.std.proofs.Common.{rules, refl, sym, ap, subst, ◌∙◌}
use Rattle.kt_seatlock.specs.Passes.{number, seen, part}
use Rattle.kt_engine.specs.Calls.{SeesOthers}
use Rattle.kt_maint.proofs.Calling.{sees_itself, sees_then, told_by}
use Rattle.kt_maint.proofs.run.enter_quiet.Goals as goal

pub visits-init : goal.visits-init
visits-init g c = (((refl, refl), (refl, refl, refl), c.requires.enters.1), refl, sees_itself (number c.args.pass.now) (seen c.args.pass.now))

pub leave_same-requires-clause-same : goal.leave_same-requires-clause-same
leave_same-requires-clause-same g c = c.enter-engine.ensures.got.0

pub visits-preserved : goal.visits-preserved
visits-preserved g c =
    let n = number c.args.pass.now in
    let x = c.enter-engine.result in
    let here = ap (λ m. m.0.part) c.rest.ensures.2 in
    let sees = ap (λ m. m.0.seen) c.rest.ensures.2 in
    let is = told_by (part c.leave_same.new.pass) x (number c.leave_same.new.pass) (number c.visits.pass) c.leave_same.ensures.told.1 (c.leave_same.ensures.pass.0.1 ∙ c.enter-engine.ensures.pass.0.1) in
    let trail = subst (λ k. SeesOthers k (seen c.visits.pass) x.tablet.core.trail) c.visits.invariant.0.0.1 c.enter-engine.ensures.trail in (
      search rules,
      here ∙ is ∙ sym c.enter-engine.ensures.part.0 ∙ c.visits.invariant.1,
      subst (SeesOthers n (seen c.args.pass.now)) (sym (sees ∙ c.leave_same.ensures.told.0)) (sees_then n (seen c.args.pass.now) (seen c.visits.pass) x.tablet.core.trail c.visits.invariant.2 trail),
    )
