use Rattle.std.proofs.Common.{take}
use Rattle.std.specs.List.{AllByRecursion}
use Rattle.kt_engine.proofs.Entries.{FileIsOf}
use Rattle.kt_engine.proofs.telling.check_files.Given as goal

abbrev pub invariant-files : goal.invariant-files
invariant-files l = AllByRecursion (FileIsOf l.columns) (take l.file-index l.files)
