use Rattle.std.proofs.Common.{◌≡◌, ◌≢◌, ap, arith, length}
use Rattle.kt_memrowset.specs.declared.link.Head.{Head}
use Rattle.kt_memrowset.specs.Links.{nothing}
use Rattle.kt_memrowset.specs.Stores.{trail_at}
use Rattle.kt_memrowset.proofs.Releasing.{release_starts, release_long, release_stands, release_step, release_fewer, release_ends}
use Rattle.kt_memrowset.proofs.chain.release.Goals as goal

pub head_in-before-requires : goal.head_in-before-requires
head_in-before-requires c =
    let ne : c.loop-cell.cell ≢ nothing = omega arith in
    release_long c.args.pool.now c.loop-cell.pool (trail_at c.args.pool.now (length c.args.pool.now.places) c.args.newest) c.loop-cell.cell ne c.loop-cell.invariant

pub give_back-requires : goal.give_back-requires
give_back-requires c =
    let ne : c.loop-cell.cell ≢ nothing = omega arith in
    release_stands c.args.pool.now c.loop-cell.pool (trail_at c.args.pool.now (length c.args.pool.now.places) c.args.newest) c.loop-cell.cell ne c.loop-cell.invariant

pub loop-cell-smaller : goal.loop-cell-smaller
loop-cell-smaller c =
    let ne : c.loop-cell.cell ≢ nothing = omega arith in
    release_fewer c.args.pool.now c.loop-cell.pool c.give_back.new.self (trail_at c.args.pool.now (length c.args.pool.now.places) c.args.newest) c.loop-cell.cell c.head_in-before.result.before ne (ap (λ (h : Head). h.before) c.head_in-before.ensures) c.give_back.ensures c.loop-cell.invariant

pub loop-cell-preserved : goal.loop-cell-preserved
loop-cell-preserved c =
    let ne : c.loop-cell.cell ≢ nothing = omega arith in
    release_step c.args.pool.now c.loop-cell.pool c.give_back.new.self (trail_at c.args.pool.now (length c.args.pool.now.places) c.args.newest) c.loop-cell.cell c.head_in-before.result.before ne (ap (λ (h : Head). h.before) c.head_in-before.ensures) c.give_back.ensures c.loop-cell.invariant

pub loop-cell-init : goal.loop-cell-init
loop-cell-init c = release_starts c.args.pool.now (trail_at c.args.pool.now (length c.args.pool.now.places) c.args.newest) c.args.newest c.requires

pub returns : goal.returns
returns c =
    let e : c.loop-cell.cell ≡ nothing = omega arith in
    release_ends c.args.pool.now c.loop-cell.pool (trail_at c.args.pool.now (length c.args.pool.now.places) c.args.newest) c.loop-cell.cell e c.loop-cell.invariant
