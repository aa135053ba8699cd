use Rattle.std.proofs.Common.{◌≡◌, take}
use Rattle.kt_diskrowset.specs.Files.{as_files}
use Rattle.kt_diskrowset.proofs.files.copies.Given as goal

abbrev pub invariant-files : goal.invariant-files
invariant-files l = as_files l.copies.items ≡ as_files (take l.file-index l.files)
