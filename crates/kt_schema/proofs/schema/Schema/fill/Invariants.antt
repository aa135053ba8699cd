use Rattle.std.proofs.Common.{◌≡◌, take, map, unwrap_or}
use Rattle.kt_base.specs.declared.cell.Cell.TheVariants.{Null}
use Rattle.kt_schema.proofs.schema.Schema.fill.Given as goal

abbrev pub invariant-loop-column : goal.invariant-loop-column
invariant-loop-column l = l.cells.items ≡ map (λ c. (c.id, unwrap_or c.default Null)) (take l.column-index l.others)
