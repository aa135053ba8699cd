use Rattle.std.proofs.Common.{◌≡◌, ◌++◌, map, drop}
use Rattle.kt_base.specs.Borrowed.{cell_in}
use Rattle.kt_scan.specs.Encoded.{ids_with}
use Rattle.kt_scan.proofs.tested.push_key.Given as goal

-- the cells so far, and those that are left under the columns that are left
abbrev pub invariant-loop-cell : goal.invariant-loop-cell
invariant-loop-cell l = map cell_in l.cells.items ++ map (λ c. c.1) (ids_with l.rest (map cell_in (drop l.cell-index l.key))) ≡ map cell_in l.initial.cells.items ++ map (λ c. c.1) (ids_with l.columns (map cell_in l.key))
