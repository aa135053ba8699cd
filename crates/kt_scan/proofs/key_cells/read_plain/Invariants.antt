use Rattle.std.proofs.Common.{◌≡◌, ◌++◌, ◌∷◌, [], drop, map}
use Rattle.kt_base.specs.Borrowed.{cell_in}
use Rattle.kt_base.specs.Keys.{key_cells}
use Rattle.kt_scan.proofs.key_cells.read_plain.Given as goal

abbrev pub invariant-loop-kind : goal.invariant-loop-kind
invariant-loop-kind l = map cell_in l.cells.items ++ key_cells (drop l.kind-index l.others ++ l.last ∷ []) l.rest ≡ key_cells l.kinds l.bytes
