use Rattle.std.proofs.Common.{◌≡◌, ◌++◌, take}
use Rattle.std.specs.List.{flat_map}
use Rattle.kt_dict.specs.Spelling.{short}
use Rattle.kt_dict.proofs.writing.put_places.Given as goal

abbrev pub invariant-loop-code : goal.invariant-loop-code
invariant-loop-code l = l.out.items ≡ l.initial.out.items ++ flat_map short (take l.code-index l.codes)
