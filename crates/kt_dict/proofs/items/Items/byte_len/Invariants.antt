use Rattle.std.proofs.Common.{◌≡◌, ◌≤◌, ◌*◌, length, sum_by, take}
use Rattle.kt_dict.specs.Items.{items_of}
use Rattle.kt_dict.proofs.items.Items.byte_len.Given as goal

abbrev pub invariant-loop-code : goal.invariant-loop-code
invariant-loop-code l = record {
  so_far : l.sum ≡ sum_by length (items_of l.self-inside.entries (take l.code-index l.self-inside.codes.items));
  most : l.sum ≤ 4294967295 * l.code-index;
}
