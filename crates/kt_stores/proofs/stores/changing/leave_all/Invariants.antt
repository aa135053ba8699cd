use Rattle.std.proofs.Common.{◌≤◌, ◌-◌, length}
use Rattle.kt_diskrowset.specs.Rowset.{IsStore, Owns}
use Rattle.kt_stores.specs.Leaving.{Going, shelved_rowset, stays_beside}
use Rattle.kt_stores.proofs.stores.changing.leave_all.Given as goal

abbrev pub invariant-stores : goal.invariant-stores
invariant-stores l = record { within : l.at ≤ length l.stores.items; passed : Going IsStore Owns shelved_rowset (stays_beside l.numbers) l.initial.stores.items l.stores.items l.at l.initial.pool l.pool }

abbrev pub decreases-stores : goal.decreases-stores
decreases-stores l = length l.stores.items - l.at
