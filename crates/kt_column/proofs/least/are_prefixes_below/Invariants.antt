use Rattle.std.proofs.Common.{◌≡◌, ◌<◌, ◌≤◌, ◌-◌, ◌*◌, ◌+◌, ◌^◌, [], length, get_or, take}
use Rattle.kt_front.specs.Spelling.{spelling}
use Rattle.kt_column.proofs.least.are_prefixes_below.Given as goal

abbrev pub invariant-loop-i : goal.invariant-loop-i
invariant-loop-i l = record {
  so_far : l.len ≡ length (spelling (take l.i l.items));
  before : 0 < l.i → l.before ≡ get_or l.items (l.i - 1) [];
  most : l.len ≤ (8 + 2 ^ 32) * l.i;
}
