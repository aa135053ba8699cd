use Rattle.std.proofs.Common.{◌≡◌, ◌^◌, take, min}
use Rattle.kt_diskrowset.specs.Stats.{leaving_row}
use Rattle.kt_diskrowset.proofs.rowset.stats.leaving_row.Given as goal

abbrev pub invariant-records : goal.invariant-records
invariant-records l = l.count ≡ min (leaving_row (take l.record-index l.records)) (2 ^ 31)
