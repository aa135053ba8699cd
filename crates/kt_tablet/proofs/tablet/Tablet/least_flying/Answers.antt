use Rattle.std.proofs.Common.{refl, sym}
use Rattle.kt_tablet.proofs.Scans.{least_is}
use Rattle.kt_tablet.proofs.tablet.Tablet.least_flying.Goals as goal

pub returns : goal.returns
returns g c = sym (least_is _ _ c.self.inside.flights.items _ _ c.self.view_is refl c.self.invariant.1.held c.least.ensures)
