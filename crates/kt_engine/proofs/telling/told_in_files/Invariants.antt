use Rattle.std.proofs.Common.{◌≡◌, ◌^◌, take, min}
use Rattle.kt_engine.proofs.Entries.{told_in_files}
use Rattle.kt_engine.proofs.telling.told_in_files.Given as goal

abbrev pub invariant-files : goal.invariant-files
invariant-files l = l.count ≡ min (told_in_files l.rows (take l.file-index l.files)) (2 ^ 31)
