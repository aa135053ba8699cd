use Rattle.std.proofs.Common.{◌≡◌, drop}
use Rattle.kt_scan.specs.Live.{row_in}
use Rattle.kt_scan.proofs.keys.columns_into.Given as goal

abbrev pub invariant-loop-at : goal.invariant-loop-at
invariant-loop-at g l = row_in g.V.View.row_of (drop l.at l.views) l.key l.t ≡ row_in g.V.View.row_of l.views l.key l.t
