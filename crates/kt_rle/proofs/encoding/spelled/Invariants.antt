use Rattle.std.proofs.Common.{◌≡◌, take}
use Rattle.std.specs.List.{flat_map}
use Rattle.kt_rle.specs.Runs.{run_bytes}
use Rattle.kt_rle.specs.Held.{runs_of, end_of}
use Rattle.kt_rle.proofs.encoding.spelled.Given as goal

abbrev pub invariant-runs : goal.invariant-runs
invariant-runs l = record {
  at_end : l.at ≡ end_of 0 (take l.i l.runs);
  written : l.bytes.items ≡ flat_map (run_bytes l.width) (runs_of 0 (take l.i l.runs));
}
