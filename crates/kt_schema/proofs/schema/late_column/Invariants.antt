use Rattle.std.proofs.Common.{◌≡◌, ℕ, ◌<◌, false, take, not}
use Rattle.std.specs.List.{list_any}
use Rattle.kt_schema.specs.Columns.{is_late}
use Rattle.kt_schema.proofs.schema.late_column.Given as goal

abbrev pub invariant-loop-at : goal.invariant-loop-at
invariant-loop-at l = (l.other ≡ list_any (λ c. not c.key) (take l.at l.columns)) × ((k : ℕ) → k < l.at → is_late l.columns k ≡ false)
