use Rattle.std.proofs.Common.{◌≡◌, ◌≤◌, ℕ, List, Some, length, take}
use Rattle.std.specs.Vec.{vec_len, vec_capacity}
use Rattle.kt_history.specs.Rows.{Row}
use Rattle.kt_rowfiles.specs.Files.{row_under, records_in}
use Rattle.kt_diskrowset.specs.Files.{lists_of}
use Rattle.kt_diskrowset.specs.Rows.{rows_of}
use Rattle.kt_merge.specs.Late.{fresh_in_all}
use Rattle.kt_merge.proofs.late.late_files.Given as goal

abbrev pub invariant-inputs : goal.invariant-inputs
invariant-inputs l = record {
  long : vec_len l.files ≡ l.input-index;
  room : length l.inputs ≤ vec_capacity l.files;
  told : (q : List ℕ) (found : ℕ × Row) → row_under q 0 (rows_of l.output.set.value.rows) ≡ Some found → records_in found.0 (lists_of l.files.items) ≡ fresh_in_all l.bound q (take l.input-index l.inputs);
}
