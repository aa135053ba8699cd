use Rattle.std.proofs.Common.{◌≡◌, ◌≤◌, drop, length}
use Rattle.kt_rowfiles.specs.Files.{records_in, falling}
use Rattle.kt_diskrowset.specs.Files.{lists_of}
use Rattle.kt_diskrowset.proofs.rows.undos_of.Given as goal

abbrev pub invariant-files : goal.invariant-files
invariant-files l = record { within : l.at ≤ length l.files; put : l.records ≡ falling (records_in l.ordinal (lists_of (drop l.at l.files))) }

abbrev pub decreases-files : goal.decreases-files
decreases-files l = l.at
