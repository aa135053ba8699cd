-- Operations in the buffers in which they are read.
use Rattle.std.proofs.Common.{◌≡◌, ℕ, ◌^◌, ◌<◌, List, length, sym, ap, subst, ◌∙◌}
use Rattle.kt_cells.specs.Reading.{cells_behind}
use Rattle.kt_cells.specs.Spelled.{SpellsCells}
use Rattle.kt_cells.proofs.Spelled.{spelled}
use Rattle.kt_history.specs.declared.operation.OpKind.{OpKind}
use Rattle.kt_history.specs.declared.operation.RowOp.{RowOp}
use Rattle.kt_history.specs.Spelled.{OpFits}
use Rattle.kt_script.specs.declared.writes.SpelledOp.{SpelledOp}
use Rattle.kt_script.specs.Buffers.{Spells, HasSpelling, spelled_op}
use Rattle.kt_script.proofs.OpSpelled.{op_again}

-- buffers that spell an operation that has a spelling
pub is_spelled : (s : SpelledOp) (o : RowOp) → OpFits o → Spells s o → HasSpelling s
is_spelled s o fits is = record {
  key = subst (λ (k : List ℕ). length k < 2 ^ 16) (sym is.key) fits.key;
  cells = subst SpellsCells (sym is.cells) (spelled o.cells fits.cells);
}

-- and that operation is read from them
pub read_again : (s : SpelledOp) (o : RowOp) → OpFits o → Spells s o → spelled_op s ≡ o
read_again s o fits is = ap (λ (k : OpKind). record { kind = k; key = s.key; cells = cells_behind s.cells.added }) is.kind ∙ op_again o s.key s.cells.added fits is.key is.cells
