use Rattle.std.proofs.Common.{suc, refl}
use Rattle.kt_stores.specs.Shelf.{stores_of}
use Rattle.kt_tablet.proofs.Scans.{shows_views, are_copied}
use Rattle.kt_tablet.proofs.tablet.Tablet.copy.Goals as goal

pub returns-clause-copied : goal.returns-clause-copied
returns-clause-copied g c =
    are_copied g.R.Read.StoreRows.row_of (record { t = c.args.t; mark = c.mark-mark.result; views = c.in_ok-views.views }) (suc c.self.inside.stores.frozen) (stores_of c.self.inside.stores) c.self.inside.fill c.in_ok-views.ensures

pub returns-clause-shows : goal.returns-clause-shows
returns-clause-shows g c settled = shows_views g.R.Read.StoreRows.row_of g.C.Clock.readings _ _ (record { t = c.args.t; mark = c.mark-mark.result; views = c.in_ok-views.views })
    c.self.inside.stores.frozen (stores_of c.self.inside.stores) c.self.inside.fill c.self.view_is c.self.invariant.0 refl c.standing.ensures.memory c.mark-mark.ensures c.in_ok-views.ensures settled
