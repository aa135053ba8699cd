use Rattle.std.proofs.Common.{◌≡◌, ◌^◌, take, length, min}
use Rattle.std.specs.Prelude.{◌-◌}
use Rattle.std.specs.List.{sum_by}
use Rattle.kt_memrowset.specs.declared.store.MemRowSet.{MemRowSet}
use Rattle.kt_memrowset.specs.Stores.{store_of}
use Rattle.kt_stores.proofs.stores.stats.rows_in.Given as goal

abbrev pub invariant-stores : goal.invariant-stores
invariant-stores l = l.rows ≡ min (sum_by (λ (s : MemRowSet). length (store_of s l.pool)) (take l.store-index l.stores)) (2 ^ 32 - 1)
