use Rattle.std.proofs.Common.{◌≡◌, ◌++◌, take}
use Rattle.std.specs.List.{flat_map}
use Rattle.kt_dict.specs.Spelling.{code}
use Rattle.kt_dict.proofs.Words.{nows}
use Rattle.kt_dict.proofs.writing.put_codes.Given as goal

abbrev pub invariant-loop-i : goal.invariant-loop-i
invariant-loop-i l = l.out.items ≡ l.initial.out.items ++ flat_map (code (nows l.table.keys)) (take l.i l.cells)
