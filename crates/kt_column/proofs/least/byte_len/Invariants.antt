use Rattle.std.proofs.Common.{◌≡◌, ◌≤◌, ◌*◌, length, take}
use Rattle.std.specs.List.{sum_by}
use Rattle.kt_column.proofs.least.byte_len.Given as goal

abbrev pub invariant-items : goal.invariant-items
invariant-items l = record {
  so_far : l.sum ≡ sum_by length (take l.i l.items);
  most : l.sum ≤ 65536 * l.i;
}
