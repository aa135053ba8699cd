use Rattle.std.proofs.Common.{◌≡◌, ◌≤◌, None}
use Rattle.std.specs.Prelude.{replicate}
use Rattle.std.specs.Vec.{vec_len, vec_capacity}
use Rattle.kt_maint.proofs.handing.no_files.Given as goal

abbrev pub invariant-files : goal.invariant-files
invariant-files l = record {
  long : vec_len l.files ≡ l.counter;
  room : l.count ≤ vec_capacity l.files;
  made : l.files.items ≡ replicate l.counter None;
}
