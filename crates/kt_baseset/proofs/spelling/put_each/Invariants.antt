use Rattle.std.proofs.Common.{take}
use Rattle.kt_baseset.specs.Spelling.{AddsEach}
use Rattle.kt_baseset.proofs.spelling.put_each.Given as goal

abbrev pub invariant-columns : goal.invariant-columns
invariant-columns l = AddsEach l.initial.out (take l.column-index l.columns) l.out
