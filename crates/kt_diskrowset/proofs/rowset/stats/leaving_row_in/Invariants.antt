use Rattle.std.proofs.Common.{◌≡◌, ◌^◌, take, min}
use Rattle.std.specs.List.{sum_by}
use Rattle.kt_diskrowset.specs.declared.files.FileHeld.{FileHeld}
use Rattle.kt_diskrowset.specs.Stats.{leaving_row}
use Rattle.kt_diskrowset.proofs.rowset.stats.leaving_row_in.Given as goal

abbrev pub invariant-files : goal.invariant-files
invariant-files l = l.count ≡ min (sum_by (λ (f : FileHeld). leaving_row f.deltas.value.list) (take l.file-index l.files)) (2 ^ 31)
