use Rattle.std.proofs.Common.{Bool, sym, ◌∙◌, arith}
use Rattle.kt_stores.specs.Shelf.{has_live}
use Rattle.kt_stores.proofs.Ordered.{read_is}
use Rattle.kt_stores.proofs.Seeking.{position_is, fail_next, seek_here, seek_past}
use Rattle.kt_stores.proofs.stores.taking.first_live.Goals as goal

pub returns-then-live : goal.returns-then-live
returns-then-live g c =
    let p : g.row.S.Denot → Bool = λ s. has_live c.args.key.now (g.S.RowStore.store s c.args.pool.now) in
    let here = read_is c.args.stores.now c.loop-at.at c.index-stores-at.result (omega arith) c.index-stores-at.is in
    sym (position_is p c.args.stores.now ∙ seek_here p c.loop-at.at c.args.stores.now c.index-stores-at.result c.loop-at.invariant here (sym c.live.ensures ∙ c.if-live.true))

pub loop-at-preserved : goal.loop-at-preserved
loop-at-preserved g c =
    let p : g.row.S.Denot → Bool = λ s. has_live c.args.key.now (g.S.RowStore.store s c.args.pool.now) in
    let here = read_is c.args.stores.now c.loop-at.at c.index-stores-at.result (omega arith) c.index-stores-at.is in
    fail_next p c.loop-at.at c.args.stores.now c.index-stores-at.result c.loop-at.invariant here (sym c.live.ensures ∙ c.if-live.false)

pub returns : goal.returns
returns g c =
    let p : g.row.S.Denot → Bool = λ s. has_live c.args.key.now (g.S.RowStore.store s c.args.pool.now) in
    sym (position_is p c.args.stores.now ∙ seek_past p c.args.stores.now (λ k y low here. c.loop-at.invariant k y (omega arith) here))
