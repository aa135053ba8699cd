use Rattle.std.proofs.Common.{◌≡◌, false}
use Rattle.kt_dict.specs.Walk.{has_free}
use Rattle.kt_dict.proofs.Words.{nows}
use Rattle.kt_dict.proofs.table.has_free.Given as goal

abbrev pub invariant-loop-b : goal.invariant-loop-b
invariant-loop-b l = has_free (nows l.entries.keys) l.b ≡ false
