use Rattle.std.proofs.Common.{◌≡◌, true, length}
use Rattle.kt_memrowset.specs.Ending.{EndsIn}
use Rattle.kt_memrowset.specs.Links.{chain}
use Rattle.kt_memrowset.specs.Stores.{Lists}
use Rattle.kt_memrowset.proofs.chain.push_changes.Given as goal

abbrev pub invariant-loop-cell : goal.invariant-loop-cell
invariant-loop-cell l = record { lists : Lists l.pool l.first l.cell l.times l.key l.initial.list l.list; begun : l.begun ≡ true → EndsIn l.key l.list }

abbrev pub decreases-loop-cell : goal.decreases-loop-cell
decreases-loop-cell l = length (chain l.pool l.cell)
