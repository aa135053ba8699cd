use Rattle.std.proofs.Common.{take}
use Rattle.kt_stores.proofs.Statistics.{AllTell}
use Rattle.kt_stores.proofs.stores.stats.Stores+DiskRowSet.stats.Given as goal

abbrev pub invariant-rowsets : goal.invariant-rowsets
invariant-rowsets l = AllTell l.self.pool (take l.rowset-index l.rowset-items) l.stats.items
