use Rattle.std.proofs.Common.{◌≡◌, take}
use Rattle.kt_dict.proofs.Words.{nows}
use Rattle.kt_dict.proofs.table.texts_of.Given as goal

abbrev pub invariant-loop-bytes : goal.invariant-loop-bytes
invariant-loop-bytes l = l.texts ≡ nows (take l.bytes-index l.entries)
