use Rattle.std.proofs.Common.{arith, ◌-◌, ◌+◌, ◌*◌, ◌/◌, ◌%◌, ◌≤◌, ◌≡◌, ap, ◌∙◌, take, drop}
use Rattle.std.specs.Prelude.{min}
use Rattle.kt_pool.specs.Cells.{load_at}
use Rattle.kt_pool.proofs.Placing.{chunk_bytes}
use Rattle.kt_pool.proofs.cells.chunk.Goals as goal
use Rattle.kt_pool.proofs.cells.chunk.Goals.{then-left-room, else-left-room}

pub returns : goal.returns
returns c =
    let a = c.args in
    let e = c.if-left-room.end in
    let fits : a.at % 56 + e ≤ 56 = elim c.if-left-room.branch [ then-left-room w ↦ omega arith | else-left-room w ↦ omega arith ] in
    let ends : a.at + e ≡ min a.len (56 * (a.at / 56) + 56) = elim c.if-left-room.branch [ then-left-room w ↦ omega arith | else-left-room w ↦ omega arith ] in
    ap (λ n. take (a.at % 56 + e - a.at % 56) (drop (a.at % 56) (load_at a.cells.now n))) c.walked-cell.ensures ∙ chunk_bytes a.cells.now a.first a.len a.at e c.requires.chain c.requires.full c.requires.inside fits ends
