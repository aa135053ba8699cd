use Rattle.std.proofs.Common.{length, ap, ◌∙◌}
use Rattle.kt_tablet.specs.Jobs.{rows_in_first}
use Rattle.kt_tablet.proofs.Statistics.{first_told}
use Rattle.kt_tablet.proofs.tablet.stats.Tablet+DiskRowSet+C.active_rows.Goals as goal

pub returns : goal.returns
returns g c =
    let i = c.self.inside in
    c.active_rows.ensures ∙ first_told i.fill i.stores.frozen i.stores.shelf ∙ ap (λ v. length (rows_in_first v.core.stores)) c.self.view_is
