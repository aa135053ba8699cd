use Rattle.std.proofs.Common.{◌<◌, drop}
use Rattle.std.specs.List.{AllByRecursion}
use Rattle.kt_history.specs.declared.changes.Delta.{Delta}
use Rattle.kt_outputs.proofs.whole.are_inside.Given as goal

abbrev pub invariant-records : goal.invariant-records
invariant-records l = AllByRecursion (λ (d : Delta). d.ordinal < l.rows) (drop l.record-index l.records) → AllByRecursion (λ (d : Delta). d.ordinal < l.rows) l.records
