use Rattle.std.proofs.Common.{◌≡◌, ◌≤◌, take, map}
use Rattle.std.specs.List.{sum_by}
use Rattle.kt_engine.specs.Upkeeps.{upkeep_of}
use Rattle.kt_engine.proofs.Passes.{job_count}
use Rattle.kt_engine.proofs.upkeep.running_in.Given as goal

abbrev pub invariant-passes : goal.invariant-passes
invariant-passes l = record {
  running : l.running ≡ sum_by job_count (map upkeep_of (take l.upkeep-index l.passes));
  few : l.running ≤ l.upkeep-index;
}
