use Rattle.std.proofs.Common.{drop}
use Rattle.kt_history.specs.Stores.{Under}
use Rattle.kt_rowfiles.specs.Files.{records_in}
use Rattle.kt_diskrowset.specs.Files.{lists_of}
use Rattle.kt_merge.proofs.rewrite.are_older.Given as goal

abbrev pub invariant-files : goal.invariant-files
invariant-files l = Under l.ts (records_in l.ordinal (lists_of (drop l.file-index l.files))) → Under l.ts (records_in l.ordinal (lists_of l.files))
