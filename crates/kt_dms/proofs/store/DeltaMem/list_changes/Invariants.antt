use Rattle.kt_dms.specs.Walks.{Walks}
use Rattle.kt_dms.proofs.store.DeltaMem.list_changes.Given as goal

abbrev pub invariant-changes : goal.invariant-changes
invariant-changes l = Walks l.self.tree l.pool l.upto l.walk l.counter l.initial.list.items l.list.items
