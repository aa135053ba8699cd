use Rattle.std.proofs.Common.{◌≡◌, ◌<◌, ◌-◌, [], get_or, take}
use Rattle.kt_front.specs.Spelling.{spelling}
use Rattle.kt_front.proofs.writing.encode.Given as goal

abbrev pub invariant-loop-i : goal.invariant-loop-i
invariant-loop-i l = record {
  so_far : l.out.items ≡ spelling (take l.i l.cells);
  before : 0 < l.i → l.before ≡ get_or l.cells (l.i - 1) [];
}
