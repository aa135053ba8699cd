use Rattle.std.proofs.Common.{length, map, ◌+◌, ap, ◌∙◌}
use Rattle.kt_pool.specs.Contents.{with_reserved}
use Rattle.kt_stores.specs.Shelf.{StoresView}
use Rattle.kt_stores.proofs.Standing.{pool_same, on_ok, places_reserved}
use Rattle.kt_stores.proofs.stores.Stores.reserve.Goals as goal

pub invariant_of-self : goal.invariant_of-self
invariant_of-self g c =
    let r = g.R.RowStore in
    let i = c.self.inside in
    let same = places_reserved c.reserve.result i.pool c.reserve.new.self (i.pool.reserved + c.args.n) c.reserve.ensures.ok c.reserve.ensures.err in
    ((pool_same r.stands r.owns r.target r.store r.is_closed r.cells c.frame_law.ensures c.placed_law.ensures i.active i.frozen.items i.rowsets.items i.pool c.reserve.new.self c.self.invariant.0 same).0, c.self.invariant.1, c.self.invariant.2)

pub returns-clause-ok : goal.returns-clause-ok
returns-clause-ok g c =
    let r = g.R.RowStore in
    let i = c.self.inside in
    let same = places_reserved c.reserve.result i.pool c.reserve.new.self (i.pool.reserved + c.args.n) c.reserve.ensures.ok c.reserve.ensures.err in
    let shelf = (pool_same r.stands r.owns r.target r.store r.is_closed r.cells c.frame_law.ensures c.placed_law.ensures i.active i.frozen.items i.rowsets.items i.pool c.reserve.new.self c.self.invariant.0 same).1 in
    on_ok c.reserve.result (λ promised. (λ k. record { pool = promised k; shelf = shelf k; frozen = length i.frozen.items; files = map g.R.FileStore.files i.rowsets.items }) ∙ ap (λ (v : StoresView). record { pool = with_reserved v.pool (v.pool.reserved + c.args.n); shelf = v.shelf; frozen = v.frozen; files = v.files }) c.self.view_is) c.reserve.ensures.ok
