use Rattle.std.proofs.Common.{ap, ◌∙◌}
use Rattle.kt_tablet.specs.Views.{work_of}
use Rattle.kt_tablet.proofs.Plans.{plan_sound, taken, no_flights}
use Rattle.kt_tablet.proofs.Told.{told_none}
use Rattle.kt_tablet.proofs.tablet.Tablet.set_plan.Goals as goal

pub invariant_of-self : goal.invariant_of-self
invariant_of-self g c = (
  plan_sound g.C.Clock.readings _ _ c.args.plan.now c.of.result.value c.begin.new.self c.self.invariant.0 c.self.view_is c.requires.fresh c.requires.keeps c.of.ensures c.begin.ensures,
  c.self.invariant.1,
  told_none (work_of c.self.inside.schema.value c.of.result.value c.self.inside.cells c.self.inside.fill) _ _ _ c.self.inside.trail.items c.self.inside.flights.items (no_flights c.self.inside.flights.items (ap (λ v. v.core.aloft) c.self.view_is ∙ c.requires.fresh.1)),
  c.self.invariant.3,
)

pub returns : goal.returns
returns g c = taken _ _ c.args.plan.now c.of.result.value c.begin.new.self c.self.view_is c.of.ensures c.begin.ensures
