use Rattle.std.proofs.Common.{◌≡◌, ◌∙◌, sym, ap, true, Option, Some, None}
use Rattle.std.specs.Prelude.{is_some}
use Rattle.kt_storeside.proofs.side.StoreSide.by.Goals as goal

some_is : {A : Type 0} (o : Option A) → is_some o ≡ true → (x : A) × (o ≡ Some x)
some_is (Some x) h = (x, cc)
some_is None h = absurd cc

pub returns-else-is_none-clause-home : goal.returns-else-is_none-clause-home
returns-else-is_none-clause-home g c = λ _.
    let device = some_is c.self.inside.home c.if-is_none.ensures in
    (device.0, sym (ap (λ v. v.home) c.self.view_is) ∙ device.1)
