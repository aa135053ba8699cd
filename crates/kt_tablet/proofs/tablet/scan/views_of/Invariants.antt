use Rattle.std.proofs.Common.{suc, take}
use Rattle.kt_stores.specs.Shelf.{stores_of}
use Rattle.kt_tablet.specs.Reads.{AreCopies}
use Rattle.kt_tablet.proofs.tablet.scan.views_of.Given as goal

abbrev pub invariant-stores : goal.invariant-stores
invariant-stores g l = AreCopies g.R.Read.StoreRows.row_of l.since l.t l.fill (suc l.stores.frozen) (take l.at (stores_of l.stores)) l.views.items
