use Rattle.std.proofs.Common.{◌≡◌, drop}
use Rattle.kt_rowfiles.specs.Files.{records_in}
use Rattle.kt_diskrowset.specs.Files.{lists_of}
use Rattle.kt_diskrowset.proofs.page.has_records.Given as goal

abbrev pub invariant-files : goal.invariant-files
invariant-files l = records_in l.ordinal (lists_of (drop l.file-index l.files)) ≡ records_in l.ordinal (lists_of l.files)
