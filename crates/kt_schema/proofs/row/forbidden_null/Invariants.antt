use Rattle.std.proofs.Common.{◌≡◌, ℕ, ◌<◌, false}
use Rattle.std.specs.List.{slice_get}
use Rattle.kt_schema.specs.Rows.{is_forbidden}
use Rattle.kt_schema.proofs.row.forbidden_null.Given as goal

abbrev pub invariant-loop-at : goal.invariant-loop-at
invariant-loop-at l = (k : ℕ) → k < l.at → is_forbidden (slice_get l.columns k) (slice_get l.cells k) ≡ false
