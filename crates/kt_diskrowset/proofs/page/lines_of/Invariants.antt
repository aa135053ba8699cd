use Rattle.std.proofs.Common.{◌≡◌, ◌++◌}
use Rattle.kt_diskrowset.specs.Gathered.{pieces_of, HasPieces}
use Rattle.kt_diskrowset.proofs.page.lines_of.Given as goal

abbrev pub decreases-lines : goal.decreases-lines
decreases-lines l = l.left

abbrev pub invariant-lines : goal.invariant-lines
invariant-lines l = record {
  pieces : HasPieces l.width l.left l.rest;
  rows : l.rows ++ pieces_of l.width l.left l.rest ≡ pieces_of l.width l.count l.cells;
}
