use Rattle.std.proofs.Common.{◌≡◌, ◌+◌, ℕ, take, min}
use Rattle.std.specs.List.{sum_by}
use Rattle.kt_base.specs.declared.cell.Cell.{Cell}
use Rattle.kt_history.specs.Operations.{cell_len}
use Rattle.kt_merge.proofs.output.cells_len.Given as goal

-- as kt_history's cells_needed
abbrev pub invariant-cells : goal.invariant-cells
invariant-cells l = l.len ≡ min (sum_by (λ (c : ℕ × Cell). 2 + cell_len c.1) (take l.at l.cells)) 33554432
