use Rattle.kt_tablet.proofs.Merged.{FillsTo}
use Rattle.kt_tablet.proofs.amend.fill_rising.Given as goal

abbrev pub invariant-fill : goal.invariant-fill
invariant-fill l = FillsTo l.fill l.cells l.own-index l.next l.row l.least
