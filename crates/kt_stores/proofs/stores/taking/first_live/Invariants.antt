use Rattle.kt_stores.specs.Shelf.{has_live}
use Rattle.kt_stores.proofs.Seeking.{FailBelow}
use Rattle.kt_stores.proofs.stores.taking.first_live.Given as goal

abbrev pub invariant-loop-at : goal.invariant-loop-at
invariant-loop-at g l = FailBelow (λ s. has_live l.key (g.S.RowStore.store s l.pool)) l.at l.stores
