use Rattle.std.proofs.Common.{◌≡◌, ◌++◌, ◌∷◌, [], drop}
use Rattle.kt_base.specs.Keys.{key_cells}
use Rattle.kt_scan.proofs.key_cells.read_key.Given as goal

abbrev pub invariant-loop-kind : goal.invariant-loop-kind
invariant-loop-kind l = l.cells.items ++ key_cells (drop l.kind-index l.others ++ l.last ∷ []) l.rest ≡ key_cells l.kinds l.bytes
