use Rattle.kt_memrowset.specs.Stores.{Walks}
use Rattle.kt_memrowset.proofs.store.MemRowSet.list.Given as goal

abbrev pub invariant-rows : goal.invariant-rows
invariant-rows l = Walks l.self l.pool l.times l.walk l.at l.list
