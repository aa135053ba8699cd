use Rattle.std.proofs.Common.{◌≡◌, ◌≤◌, ℕ, List, Some, length, take}
use Rattle.std.specs.List.{flat_map}
use Rattle.std.specs.Vec.{vec_len, vec_capacity}
use Rattle.kt_history.specs.declared.changes.KeyChange.{KeyChange}
use Rattle.kt_history.specs.Rows.{Row}
use Rattle.kt_histlaws.specs.Fitting.{steps_above}
use Rattle.kt_rowfiles.specs.Files.{row_under, records_in}
use Rattle.kt_diskrowset.specs.Files.{lists_of}
use Rattle.kt_diskrowset.specs.Rows.{rows_of}
use Rattle.kt_merge.specs.Changes.{steps_of}
use Rattle.kt_merge.proofs.placing.files_of.Given as goal

abbrev pub invariant-lists : goal.invariant-lists
invariant-lists l = record {
  long : vec_len l.files ≡ l.changes-index;
  room : length l.lists ≤ vec_capacity l.files;
  told : (q : List ℕ) (found : ℕ × Row) → row_under q 0 (rows_of l.output.set.value.rows) ≡ Some found
      → records_in found.0 (lists_of l.files.items) ≡ flat_map (λ (list : List KeyChange). steps_above l.bound (steps_of q list)) (take l.changes-index l.lists);
}
