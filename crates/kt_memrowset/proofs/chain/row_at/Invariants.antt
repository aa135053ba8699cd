use Rattle.std.proofs.Common.{length}
use Rattle.kt_memrowset.specs.Links.{chain}
use Rattle.kt_memrowset.specs.Stores.{Leads}
use Rattle.kt_memrowset.proofs.chain.row_at.Given as goal

abbrev pub invariant-loop-cell : goal.invariant-loop-cell
invariant-loop-cell l = Leads l.pool l.first l.cell l.t l.row

abbrev pub decreases-loop-cell : goal.decreases-loop-cell
decreases-loop-cell l = length (chain l.pool l.cell)
