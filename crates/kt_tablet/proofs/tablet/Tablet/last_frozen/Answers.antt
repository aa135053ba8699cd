use Rattle.std.proofs.Common.{◌<◌, ap, sym, subst, ◌∙◌}
use Rattle.std.specs.Prelude.{slice_get}
use Rattle.kt_tablet.proofs.Frozen.{name_there}
use Rattle.kt_tablet.proofs.tablet.Tablet.last_frozen.Goals as goal

pub returns-clause-frozen : goal.returns-clause-frozen
returns-clause-frozen g c some =
    let i = c.self.inside in
    ap (λ v. slice_get v.names 1) (sym c.self.view_is) ∙ name_there 1 i.stores.shelf ∙ c.last_frozen.ensures.frozen (subst (λ v. 0 < v.frozen) (sym c.self.view_is) some)
