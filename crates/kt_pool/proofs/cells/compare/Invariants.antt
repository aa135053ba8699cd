use Rattle.std.proofs.Common.{◌≡◌}
use Rattle.std.specs.Ordering.{nat_cmp}
use Rattle.std.specs.Cmp.Lexicographic.{slice_cmp}
use Rattle.kt_pool.specs.Contents.{cells_for}
use Rattle.kt_pool.specs.Cells.{IsChain, content}
use Rattle.kt_pool.proofs.cells.compare.Given as goal

abbrev pub invariant-loop-left : goal.invariant-loop-left
invariant-loop-left l = IsChain l.cells l.at (cells_for l.left) × (slice_cmp nat_cmp (content l.cells l.at l.left) l.rest ≡ slice_cmp nat_cmp (content l.cells l.first l.len) l.key)

abbrev pub decreases-loop-left : goal.decreases-loop-left
decreases-loop-left l = l.left
