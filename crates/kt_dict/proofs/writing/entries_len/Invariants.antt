use Rattle.std.proofs.Common.{◌≡◌, ◌≤◌, ◌*◌, ◌+◌, ◌^◌, length, take}
use Rattle.std.specs.List.{flat_map}
use Rattle.kt_dict.specs.Writing.{text}
use Rattle.kt_dict.proofs.Words.{nows}
use Rattle.kt_dict.proofs.writing.entries_len.Given as goal

abbrev pub invariant-loop-bytes : goal.invariant-loop-bytes
invariant-loop-bytes l = record {
  so_far : l.len ≡ length (flat_map text (nows (take l.bytes-index l.entries)));
  most : l.len ≤ (4 + 2 ^ 32) * l.bytes-index;
}
