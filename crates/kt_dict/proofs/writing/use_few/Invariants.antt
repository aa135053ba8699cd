use Rattle.std.proofs.Common.{◌≡◌, ◌≤◌, length, drop}
use Rattle.kt_dict.specs.Spelling.{entries_after}
use Rattle.kt_dict.proofs.Words.{nows}
use Rattle.kt_dict.proofs.writing.use_few.Given as goal

abbrev pub invariant-loop-i : goal.invariant-loop-i
invariant-loop-i l = record {
  so_far : entries_after (nows l.table.keys) (drop l.i l.cells) ≡ entries_after (nows l.initial.table.keys) l.cells;
  few : length (nows l.table.keys) ≤ 4096;
}
