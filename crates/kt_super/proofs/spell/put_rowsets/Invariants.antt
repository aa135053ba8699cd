use Rattle.std.proofs.Common.{◌≡◌, ◌++◌, length, take}
use Rattle.std.specs.Int.{w32, to_le_bytes}
use Rattle.std.specs.List.{flat_map}
use Rattle.kt_super.specs.Rowsets.{spelled_rowset}
use Rattle.kt_super.proofs.spell.put_rowsets.Given as goal

abbrev pub invariant-loop-rowset : goal.invariant-loop-rowset
invariant-loop-rowset l = l.out ≡ l.fn.out ++ (to_le_bytes w32 (length l.rowsets) ++ flat_map spelled_rowset (take l.rowset-index l.rowsets))
