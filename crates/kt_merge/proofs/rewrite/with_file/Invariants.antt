use Rattle.std.proofs.Common.{◌≡◌, take}
use Rattle.kt_diskrowset.specs.Files.{as_files}
use Rattle.kt_merge.proofs.rewrite.with_file.Given as goal

abbrev pub invariant-files : goal.invariant-files
invariant-files l = as_files l.all.items ≡ as_files (take l.held-index l.files)
