use Rattle.std.proofs.Common.{◌≡◌, drop}
use Rattle.kt_engine.specs.DeltaJobs.{redo_files}
use Rattle.kt_engine.proofs.delta_job.redo_files.Given as goal

abbrev pub invariant-rowsets : goal.invariant-rowsets
invariant-rowsets l = redo_files l.rowset l.rowsets ≡ redo_files l.rowset (drop l.named-index l.rowsets)
