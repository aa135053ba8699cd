use Rattle.std.proofs.Common.{◌≡◌, ℕ, ◌<◌, false}
use Rattle.kt_schema.specs.First.{passes_at}
use Rattle.kt_schema.specs.Columns.{is_weak}
use Rattle.kt_schema.proofs.schema.weak_column.Given as goal

abbrev pub invariant-loop-at : goal.invariant-loop-at
invariant-loop-at l = (k : ℕ) → k < l.at → passes_at is_weak l.columns k ≡ false
