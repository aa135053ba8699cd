use Rattle.std.proofs.Common.{◌≡◌, ◌++◌, ◌+◌, ◌≤◌, vec_len}
use Rattle.std.specs.Vec.{vec_capacity}
use Rattle.kt_pool.specs.Contents.{cells_for}
use Rattle.kt_pool.specs.Cells.{IsChain, content}
use Rattle.kt_pool.proofs.cells.append.Given as goal

abbrev pub invariant-loop-left : goal.invariant-loop-left
invariant-loop-left l = IsChain l.cells l.at (cells_for l.left) × (l.out.items ++ content l.cells l.at l.left ≡ l.initial.out.items ++ content l.cells l.first l.len) × (vec_len l.out + l.left ≤ vec_capacity l.out)

abbrev pub decreases-loop-left : goal.decreases-loop-left
decreases-loop-left l = l.left
