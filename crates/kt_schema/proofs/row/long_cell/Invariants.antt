use Rattle.std.proofs.Common.{◌≡◌, ℕ, ◌<◌, false}
use Rattle.kt_schema.specs.First.{passes_at}
use Rattle.kt_schema.specs.Rows.{is_long}
use Rattle.kt_schema.proofs.row.long_cell.Given as goal

abbrev pub invariant-loop-at : goal.invariant-loop-at
invariant-loop-at l = (k : ℕ) → k < l.at → passes_at is_long l.cells k ≡ false
