use Rattle.std.proofs.Common.{◌∙◌, refl, map}
use Rattle.kt_histlaws.specs.Core.{flown_by}
use Rattle.kt_tablet.proofs.Scans.{least_is, none_before, none_earlier}
use Rattle.kt_tablet.proofs.tablet.Tablet.in_the_way.Goals as goal

pub returns-then-least-t-clause-flies : goal.returns-then-least-t-clause-flies
returns-then-least-t-clause-flies g c = (least_is _ _ c.self.inside.flights.items c.self.inside.flight.flying c.least.result c.self.view_is refl c.self.invariant.1.held c.least.ensures ∙ c.in-Some.is, c.if-least-t.true)

pub returns-else-least-t-clause-settled : goal.returns-else-least-t-clause-settled
returns-else-least-t-clause-settled g c = none_earlier (map flown_by c.args.self.now.core.aloft) c.args.t c.in-Some.least
    (least_is _ _ c.self.inside.flights.items c.self.inside.flight.flying c.least.result c.self.view_is refl c.self.invariant.1.held c.least.ensures ∙ c.in-Some.is) c.if-least-t.false

pub returns-in-None-clause-settled : goal.returns-in-None-clause-settled
returns-in-None-clause-settled g c = none_before (map flown_by c.args.self.now.core.aloft) c.args.t
    (least_is _ _ c.self.inside.flights.items c.self.inside.flight.flying c.least.result c.self.view_is refl c.self.invariant.1.held c.least.ensures ∙ c.in-None.is)
