use Rattle.std.proofs.Common.{drop}
use Rattle.kt_merge.specs.Rewriting.{AreAbove}
use Rattle.kt_merge.proofs.rewrite.are_above.Given as goal

abbrev pub invariant-records : goal.invariant-records
invariant-records l = AreAbove l.files (drop l.record-index l.records) → AreAbove l.files l.records
