use Rattle.kt_diskrowset.proofs.Bounds.{least_is, greatest_is}
use Rattle.kt_diskrowset.proofs.rowset.DiskRowSet.ends.Goals as goal

pub returns-clause-least : goal.returns-clause-least
returns-clause-least c =
    let e = c.in_ok-least.ensures in
    least_is c.args.self.now.base.set.value.rows _ e.least (λ none. (e.none none).0)

pub returns-clause-greatest : goal.returns-clause-greatest
returns-clause-greatest c =
    let e = c.in_ok-least.ensures in
    greatest_is c.args.self.now.base.set.value.rows _ e.greatest (λ none. (e.none none).1)
