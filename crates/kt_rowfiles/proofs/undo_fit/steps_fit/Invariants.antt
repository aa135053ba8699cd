use Rattle.std.proofs.Common.{◌≡◌, ◌^◌, drop, Some}
use Rattle.std.specs.Prelude.{unwrap_or}
use Rattle.kt_rowfiles.specs.Records.{steps_at}
use Rattle.kt_rowfiles.specs.Fitting.{steps_fit}
use Rattle.kt_rowfiles.proofs.undo_fit.steps_fit.Given as goal

abbrev pub invariant-records : goal.invariant-records
invariant-records l = steps_fit (unwrap_or l.top (2 ^ 64)) (steps_at (drop l.record-index l.records)) l.row ≡ steps_fit (2 ^ 64) (steps_at l.records) (Some l.fn.base)
