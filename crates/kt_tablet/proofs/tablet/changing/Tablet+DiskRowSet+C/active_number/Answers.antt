use Rattle.std.proofs.Common.{sym, ap, ◌∙◌}
use Rattle.std.specs.Prelude.{slice_get}
use Rattle.kt_tablet.proofs.Frozen.{name_there}
use Rattle.kt_tablet.proofs.tablet.changing.Tablet+DiskRowSet+C.active_number.Goals as goal

pub returns : goal.returns
returns g c = ap (λ v. slice_get v.names 0) (sym c.self.view_is) ∙ name_there 0 c.self.inside.stores.shelf ∙ c.active_number.ensures
