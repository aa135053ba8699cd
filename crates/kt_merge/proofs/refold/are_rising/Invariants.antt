use Rattle.std.proofs.Common.{drop}
use Rattle.kt_histlaws.specs.Fitting.{Rises}
use Rattle.kt_rowfiles.specs.Reading.{steps_in}
use Rattle.kt_merge.proofs.refold.are_rising.Given as goal

abbrev pub invariant-records : goal.invariant-records
invariant-records l = Rises l.low (steps_in (drop l.record-index l.records)) → Rises 0 (steps_in l.records)
