use Rattle.std.proofs.Common.{◌≡◌, ◌^◌, take, length, min}
use Rattle.std.specs.List.{sum_by}
use Rattle.kt_diskrowset.specs.declared.files.FileHeld.{FileHeld}
use Rattle.kt_engine.proofs.telling.records_in.Given as goal

abbrev pub invariant-files : goal.invariant-files
invariant-files l = l.count ≡ min (sum_by (λ (f : FileHeld). length f.deltas.value.list) (take l.file-index l.files)) (2 ^ 31)
