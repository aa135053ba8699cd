use Rattle.std.proofs.Common.{◌≡◌, ◌≢◌, arith}
use Rattle.kt_memrowset.specs.Links.{nothing}
use Rattle.kt_memrowset.proofs.Rows.{here_stands, leads_first, leads_next, leads_done, next_fewer}
use Rattle.kt_memrowset.proofs.chain.row_at.Goals as goal

pub advance-requires : goal.advance-requires
advance-requires c =
    let ne : c.loop-cell.cell ≢ nothing = omega arith in
    let h = c.loop-cell.invariant in
    here_stands c.args.pool.now c.loop-cell.cell h.links h.stand.chains ne

pub loop-cell-smaller : goal.loop-cell-smaller
loop-cell-smaller c =
    let ne : c.loop-cell.cell ≢ nothing = omega arith in
    let h = c.loop-cell.invariant in
    next_fewer c.args.pool.now c.loop-cell.cell c.in_ok-cell.cell ne c.in_ok-cell.ensures.0 h.links h.stand

pub loop-cell-preserved : goal.loop-cell-preserved
loop-cell-preserved c =
    let ne : c.loop-cell.cell ≢ nothing = omega arith in
    leads_next c.args.pool.now c.loop-cell.cell c.in_ok-cell.cell ne c.in_ok-cell.ensures.0 c.args.first c.args.t c.loop-cell.row c.advance.new.row c.in_ok-cell.ensures.1 c.loop-cell.invariant

pub loop-cell-init : goal.loop-cell-init
loop-cell-init c = leads_first c.args.pool.now c.args.first c.args.t c.requires

pub returns : goal.returns
returns c =
    let e : c.loop-cell.cell ≡ nothing = omega arith in
    leads_done c.args.pool.now c.args.first c.loop-cell.cell c.args.t c.loop-cell.row e c.loop-cell.invariant
