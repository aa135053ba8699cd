-- The superblocks of a store that has just begun may spell the names of the stores that come.
use Rattle.std.proofs.Common.{◌≡◌, ◌≤◌, ◌+◌, ◌^◌, ℕ, List, [], ◌∷◌, arith}
use Rattle.kt_history.specs.declared.target.Target.{Target}
use Rattle.kt_super.specs.declared.meta.Meta.{Meta}
use Rattle.kt_super.specs.declared.meta.MetaRowset.{MetaRowset}
use Rattle.kt_storeside.specs.Sides.{greatest_dms, most_from}
use Rattle.kt_engine.specs.Near.{LeavesRoom, first_number}

no_less : (least : ℕ) (rowsets : List MetaRowset) → least ≤ greatest_dms least rowsets
no_less least [] = omega arith
no_less least (r ∷ rowsets) = omega (arith, no_less least rowsets)

pub begins_with_room : (meta : Meta) (mem rowset : ℕ) (names : List Target) → mem ≡ first_number names → LeavesRoom names rowset (most_from meta mem rowset)
begins_with_room meta mem rowset names same = record { mems = omega (arith, same); deltas = no_less (rowset + 2 ^ 44) meta.rowsets }
