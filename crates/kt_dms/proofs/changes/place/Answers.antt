use Rattle.std.proofs.Common.{◌∙◌, List, ℕ, ap, sym, subst, arith, length, ◌∷◌, []}
use Rattle.kt_dms.specs.Changes.{change_in, SpellsChange}
use Rattle.kt_dms.proofs.Spelling.{placed_need, placed_bytes, placed_takes, change_again, spelling_spells, length-spelling}
use Rattle.kt_dms.proofs.changes.place.Goals as goal

pub place_two-requires-clause-room : goal.place_two-requires-clause-room
place_two-requires-clause-room c =
    let need = placed_need c.args.kind c.args.op.now.cells (c.kind_byte.result ∷ []) c.spelled_cells.result.now (ap (λ (k : ℕ). k ∷ []) c.kind_byte.ensures) c.spelled_cells.ensures.is in
    omega arith

pub returns-clause-spells : goal.returns-clause-spells
returns-clause-spells c =
    let p = c.place_two in
    let bytes = placed_bytes c.args.kind c.args.op.now.cells (c.kind_byte.result ∷ []) c.spelled_cells.result.now (ap (λ (k : ℕ). k ∷ []) c.kind_byte.ensures) c.spelled_cells.ensures.is c.args.pool.now p.new.self p.result.cell p.ensures.vacant p.ensures.inside p.ensures.placed in
    subst SpellsChange (sym bytes) (spelling_spells c.args.kind c.args.op.now.cells c.spelled_cells.ensures.fits.cells)

pub returns-clause-change : goal.returns-clause-change
returns-clause-change c =
    let p = c.place_two in
    ap change_in (placed_bytes c.args.kind c.args.op.now.cells (c.kind_byte.result ∷ []) c.spelled_cells.result.now (ap (λ (k : ℕ). k ∷ []) c.kind_byte.ensures) c.spelled_cells.ensures.is c.args.pool.now p.new.self p.result.cell p.ensures.vacant p.ensures.inside p.ensures.placed)
    ∙ change_again c.args.kind c.args.op.now.cells c.spelled_cells.ensures.fits.cells

pub returns-clause-long : goal.returns-clause-long
returns-clause-long c =
    let p = c.place_two in
    ap (λ (bytes : List ℕ). length bytes) (placed_bytes c.args.kind c.args.op.now.cells (c.kind_byte.result ∷ []) c.spelled_cells.result.now (ap (λ (k : ℕ). k ∷ []) c.kind_byte.ensures) c.spelled_cells.ensures.is c.args.pool.now p.new.self p.result.cell p.ensures.vacant p.ensures.inside p.ensures.placed)
    ∙ length-spelling c.args.kind c.args.op.now.cells

pub returns-clause-takes : goal.returns-clause-takes
returns-clause-takes c =
    let p = c.place_two in
    placed_takes c.args.kind c.args.op.now.cells (c.kind_byte.result ∷ []) c.spelled_cells.result.now (ap (λ (k : ℕ). k ∷ []) c.kind_byte.ensures) c.spelled_cells.ensures.is c.args.pool.now p.new.self p.result.cell p.ensures.vacant p.ensures.inside p.ensures.placed
