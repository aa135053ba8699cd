use Rattle.std.proofs.Common.{◌≡◌, take}
use Rattle.std.specs.List.{flat_map}
use Rattle.kt_diskrowset.specs.Rows.{rows_of}
use Rattle.kt_merge.specs.Late.{moved_of}
use Rattle.kt_merge.proofs.late.moved.Given as goal

abbrev pub invariant-records : goal.invariant-records
invariant-records l = l.list.items ≡ flat_map (moved_of l.bound l.input.base.set.value.rows (rows_of l.output.set.value.rows)) (take l.record-index l.input.fresh)
