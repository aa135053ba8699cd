use Rattle.std.proofs.Common.{length, ap, ◌∙◌}
use Rattle.kt_stores.specs.Shelf.{rows_in_first}
use Rattle.kt_stores.proofs.stores.stats.Stores+DiskRowSet.active_rows.Goals as goal

pub returns : goal.returns
returns c =
    let i = c.self.inside in
    c.rows.ensures i.pool c.self.invariant.0.stand.0 ∙ ap (λ v. length (rows_in_first v.shelf)) c.self.view_is
