use Rattle.std.proofs.Common.{◌-◌, ◌^◌, ℕ, length, min, ap, ◌∙◌}
use Rattle.std.specs.List.{sum_by}
use Rattle.kt_stores.specs.Shelf.{stores_of}
use Rattle.kt_tablet.specs.Jobs.{frozen_stores}
use Rattle.kt_tablet.proofs.Statistics.{frozen_told}
use Rattle.kt_tablet.proofs.tablet.stats.Tablet+DiskRowSet+C.frozen_rows.Goals as goal

pub returns : goal.returns
returns g c =
    let i = c.self.inside in
    c.frozen_rows.ensures ∙ ap (λ (n : ℕ). min n (2 ^ 32 - 1)) (frozen_told i.fill i.stores.frozen (stores_of i.stores) ∙ ap (λ v. sum_by length (frozen_stores v)) c.self.view_is)
