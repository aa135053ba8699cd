use Rattle.std.proofs.Common.{suc, length, ap, arith}
use Rattle.kt_tablet.proofs.Frozen.{told_length}
use Rattle.kt_tablet.proofs.tablet.Tablet.rowsets.Goals as goal

pub returns : goal.returns
returns g c =
    let i = c.self.inside in
    let e = ap (λ v. length v.core.stores) c.self.view_is in
    let f = ap (λ v. v.frozen) c.self.view_is in
    let long = told_length i.fill (suc i.stores.frozen) i.stores.shelf in
    let is = c.rowsets.ensures in
    omega arith
