use Rattle.std.proofs.Common.{◌≡◌, ◌++◌, take}
use Rattle.std.specs.List.{flat_map}
use Rattle.kt_dict.specs.Writing.{text}
use Rattle.kt_dict.proofs.Words.{nows}
use Rattle.kt_dict.proofs.writing.put_entries.Given as goal

abbrev pub invariant-loop-bytes : goal.invariant-loop-bytes
invariant-loop-bytes l = l.out.items ≡ l.initial.out.items ++ flat_map text (nows (take l.bytes-index l.entries))
