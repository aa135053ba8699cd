use Rattle.std.proofs.Common.{◌≡◌, [], sym, subst}
use Rattle.kt_tablet.specs.Jobs.{rows_in_first}
use Rattle.kt_tablet.proofs.Frozen.{vacant_told}
use Rattle.kt_tablet.proofs.tablet.Tablet.is_vacant.Goals as goal

pub returns : goal.returns
returns g c =
    let i = c.self.inside in
    let told = vacant_told i.fill i.stores.frozen i.stores.shelf in
    let is = c.is_vacant.ensures in
    ((λ t. subst (λ v. rows_in_first v.core.stores ≡ []) c.self.view_is (told.0 (is.0 t))), (λ none. is.1 (told.1 (subst (λ v. rows_in_first v.core.stores ≡ []) (sym c.self.view_is) none))))
