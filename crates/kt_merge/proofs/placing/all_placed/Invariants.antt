use Rattle.std.proofs.Common.{◌≡◌, take}
use Rattle.std.specs.List.{flat_map}
use Rattle.kt_diskrowset.specs.Rows.{rows_of}
use Rattle.kt_merge.specs.Late.{placed_of}
use Rattle.kt_merge.proofs.placing.all_placed.Given as goal

abbrev pub invariant-changes : goal.invariant-changes
invariant-changes l = l.list.items ≡ flat_map (placed_of l.bound (rows_of l.output.set.value.rows)) (take l.at l.changes)
