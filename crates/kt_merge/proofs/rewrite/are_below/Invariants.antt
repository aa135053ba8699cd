use Rattle.std.proofs.Common.{drop}
use Rattle.kt_history.specs.Stores.{Under}
use Rattle.kt_rowfiles.specs.Reading.{steps_in}
use Rattle.kt_merge.proofs.rewrite.are_below.Given as goal

abbrev pub invariant-records : goal.invariant-records
invariant-records l = Under l.ts (steps_in (drop l.record-index l.records)) → Under l.ts (steps_in l.records)
