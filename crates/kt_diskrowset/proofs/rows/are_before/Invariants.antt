use Rattle.std.proofs.Common.{take}
use Rattle.kt_diskrowset.proofs.NoneAbove.{AllUpTo}
use Rattle.kt_diskrowset.proofs.rows.are_before.Given as goal

abbrev pub invariant-files : goal.invariant-files
invariant-files l = AllUpTo l.t (take l.file-index l.files)
