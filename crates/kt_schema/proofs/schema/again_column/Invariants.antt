use Rattle.std.proofs.Common.{◌≡◌, ℕ, ◌<◌, false}
use Rattle.kt_schema.specs.Columns.{is_again}
use Rattle.kt_schema.proofs.schema.again_column.Given as goal

abbrev pub invariant-loop-at : goal.invariant-loop-at
invariant-loop-at l = (k : ℕ) → k < l.at → is_again l.columns k ≡ false
