use Rattle.std.proofs.Common.{◌≡◌, ◌≢◌, arith}
use Rattle.kt_memrowset.specs.Links.{nothing}
use Rattle.kt_memrowset.proofs.Rows.{here_stands, next_fewer}
use Rattle.kt_memrowset.proofs.Listing.{lists_first, lists_next, lists_done}
use Rattle.kt_memrowset.proofs.chain.push_changes.Goals as goal

pub push_change-requires-clause-link : goal.push_change-requires-clause-link
push_change-requires-clause-link c =
    let ne : c.loop-cell.cell ≢ nothing = omega arith in
    let h = c.loop-cell.invariant.lists in
    here_stands c.args.pool.now c.loop-cell.cell h.links h.stand.chains ne

pub loop-cell-smaller : goal.loop-cell-smaller
loop-cell-smaller c =
    let ne : c.loop-cell.cell ≢ nothing = omega arith in
    let h = c.loop-cell.invariant.lists in
    next_fewer c.args.pool.now c.loop-cell.cell c.in_ok-cell.cell ne c.in_ok-cell.ensures.next h.links h.stand

pub loop-cell-preserved : goal.loop-cell-preserved
loop-cell-preserved c =
    let ne : c.loop-cell.cell ≢ nothing = omega arith in
    record {
      lists = lists_next c.args.pool.now c.loop-cell.cell c.in_ok-cell.cell ne c.in_ok-cell.ensures.next c.args.first c.args.times c.args.key.now c.args.list.now c.loop-cell.list c.push_change.new.list c.in_ok-cell.ensures.list c.loop-cell.invariant.lists;
      begun = c.in_ok-cell.ensures.begun;
    }

pub loop-cell-init : goal.loop-cell-init
loop-cell-init c = record { lists = lists_first c.args.pool.now c.args.first c.args.times c.args.key.now c.args.list.now c.requires; begun = λ e. absurd cc }

pub returns : goal.returns
returns c =
    let e : c.loop-cell.cell ≡ nothing = omega arith in
    lists_done c.args.pool.now c.args.first c.loop-cell.cell c.args.times c.args.key.now c.args.list.now c.loop-cell.list e c.loop-cell.invariant.lists
