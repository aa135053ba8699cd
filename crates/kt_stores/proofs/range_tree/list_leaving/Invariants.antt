use Rattle.std.proofs.Common.{◌≡◌, take}
use Rattle.kt_rowtree.specs.Ranges.{places_out}
use Rattle.kt_stores.specs.Leaving.{stays_beside}
use Rattle.kt_stores.proofs.range_tree.list_leaving.Given as goal

abbrev pub invariant-loop-at : goal.invariant-loop-at
invariant-loop-at l = record { ids : l.places.ids ≡ places_out (stays_beside l.numbers) 0 (take l.at l.rowsets); room : l.places.room ≡ l.fn.places.room }
