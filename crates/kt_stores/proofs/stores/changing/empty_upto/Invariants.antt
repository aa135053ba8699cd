use Rattle.std.proofs.Common.{◌≤◌, ◌-◌, length}
use Rattle.kt_memrowset.specs.Stores.{IsStore, Owns}
use Rattle.kt_stores.specs.Leaving.{Going, stays_behind}
use Rattle.kt_stores.specs.Parts.{shelved_mem}
use Rattle.kt_stores.proofs.stores.changing.empty_upto.Given as goal

abbrev pub invariant-stores : goal.invariant-stores
invariant-stores l = record { within : l.at ≤ length l.stores.items; passed : Going IsStore Owns shelved_mem (stays_behind l.last) l.initial.stores.items l.stores.items l.at l.initial.pool l.pool }

abbrev pub decreases-stores : goal.decreases-stores
decreases-stores l = length l.stores.items - l.at
