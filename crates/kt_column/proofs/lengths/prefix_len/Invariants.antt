use Rattle.std.proofs.Common.{◌≡◌, ◌<◌, ◌≤◌, ◌-◌, ◌*◌, ◌+◌, ◌^◌, [], length, get_or, take}
use Rattle.kt_front.specs.Spelling.{spelling}
use Rattle.kt_column.proofs.lengths.prefix_len.Given as goal

abbrev pub invariant-loop-i : goal.invariant-loop-i
invariant-loop-i l = record {
  so_far : l.len ≡ length (spelling (take l.i l.texts));
  before : 0 < l.i → l.before ≡ get_or l.texts (l.i - 1) [];
  most : l.len ≤ (8 + 2 ^ 32) * l.i;
}
