use Rattle.std.proofs.Common.{◌≡◌, ◌++◌, List, sym, ap, subst, ◌∙◌, arith, length, map, take, drop}
use Rattle.kt_diskrowset.specs.Rowset.{HeldFiles}
use Rattle.kt_stores.specs.Ranges.{AreRanged}
use Rattle.kt_stores.specs.Shelf.{StoresView, stores_of, place_of}
use Rattle.kt_stores.specs.Parts.{kept, shelved, stands_by, owns_by, read_by, shelf_of, MayTakeAt, HasTakenAt}
use Rattle.kt_stores.proofs.Either.{placed_by}
use Rattle.kt_stores.proofs.Standing.{stay}
use Rattle.kt_stores.proofs.Taking.{may_take, kept_after}
use Rattle.kt_stores.proofs.Took.{Took, at_place, written_back, kept_along, took_along}
use Rattle.kt_stores.proofs.stores.Stores.take.Goals as goal

pub take_at-requires-clause-may : goal.take_at-requires-clause-may
take_at-requires-clause-may g c =
    let r = g.R.RowStore in
    let i = c.self.inside in
    let e = c.place-at.ensures.place ∙ ap (λ q. place_of q (stores_of c.args.self.now)) c.key.ensures ∙ ap (λ (v : StoresView). place_of c.args.op.now.key (stores_of v)) (sym (c.self.view_is ∙ c.place-at.ensures.same)) in
    let may = may_take (read_by (shelved r.target r.store r.is_closed r.cells)) c.place-at.result (kept i.active i.frozen.items i.rowsets.items) i.pool c.args.op.now e c.self.invariant.0.first in
    let same : kept i.active i.frozen.items i.rowsets.items ≡ kept i.active c.deref_mut.result.now c.deref_mut-2.result.now = λ k. kept i.active (sym c.deref_mut.ensures.value k) (sym c.deref_mut-2.ensures.value k) in
    subst (λ xs. MayTakeAt (read_by (shelved r.target r.store r.is_closed r.cells)) c.place-at.result xs i.pool c.args.op.now) same may

pub invariant_of-self : goal.invariant_of-self
invariant_of-self g c =
    let r = g.R.RowStore in
    let i = c.self.inside in
    let same : kept i.active c.deref_mut.result.now c.deref_mut-2.result.now ≡ kept i.active i.frozen.items i.rowsets.items = λ k. kept i.active (c.deref_mut.ensures.value k) (c.deref_mut-2.ensures.value k) in
    let t = subst (λ xs. HasTakenAt (stands_by r.stands) (owns_by r.owns) (read_by (shelved r.target r.store r.is_closed r.cells)) c.place-at.result xs (kept c.take_at.new.active c.take_at.new.frozen c.take_at.new.rowsets) i.pool c.take_at.new.pool c.args.ts c.args.op.now c.take_at.result) same c.take_at.ensures.taken in
    let after = kept_after (stands_by r.stands) (owns_by r.owns) (read_by (shelved r.target r.store r.is_closed r.cells)) (stay r.stands r.owns r.target r.store r.is_closed r.cells c.frame_law.ensures c.placed_law.ensures) (placed_by r.stands r.owns (shelved r.target r.store r.is_closed r.cells) c.placed_law.ensures)
    c.place-at.result (kept i.active i.frozen.items i.rowsets.items) (kept c.take_at.new.active c.take_at.new.frozen c.take_at.new.rowsets) i.pool c.take_at.new.pool c.args.ts c.args.op.now c.take_at.result c.self.invariant.0 t in
    let many = ap length c.deref_mut-2.ensures.value in
    let frozen = written_back i.frozen.items i.frozen.len c.take_at.new.frozen (omega (arith, i.frozen.ok)) (let e = ap length c.deref_mut.ensures.value in omega (arith, c.take_at.auto.frozen)) in
    let rowsets = written_back i.rowsets.items i.rowsets.len c.take_at.new.rowsets (omega (arith, i.rowsets.ok)) (omega (arith, c.take_at.auto.rowsets)) in
    let filed = ap (map g.R.FileStore.files) (sym rowsets) ∙ c.take_at.ensures.files ∙ ap (map g.R.FileStore.files) c.deref_mut-2.ensures.value in
    (kept_along r.stands r.owns (shelved r.target r.store r.is_closed r.cells) c.take_at.new.active c.take_at.new.frozen _ c.take_at.new.rowsets _ c.take_at.new.pool frozen rowsets after, (let e = ap length rowsets in let few = c.self.invariant.1 in omega (arith, c.take_at.auto.rowsets)), subst (λ (fs : List HeldFiles). AreRanged fs i.ranges) (sym filed) c.self.invariant.2)

pub returns : goal.returns
returns g c =
    let r = g.R.RowStore in
    let i = c.self.inside in
    let same : kept i.active c.deref_mut.result.now c.deref_mut-2.result.now ≡ kept i.active i.frozen.items i.rowsets.items = λ k. kept i.active (c.deref_mut.ensures.value k) (c.deref_mut-2.ensures.value k) in
    let t = subst (λ xs. HasTakenAt (stands_by r.stands) (owns_by r.owns) (read_by (shelved r.target r.store r.is_closed r.cells)) c.place-at.result xs (kept c.take_at.new.active c.take_at.new.frozen c.take_at.new.rowsets) i.pool c.take_at.new.pool c.args.ts c.args.op.now c.take_at.result) same c.take_at.ensures.taken in
    let e = c.place-at.ensures.place ∙ ap (λ q. place_of q (stores_of c.args.self.now)) c.key.ensures ∙ ap (λ (v : StoresView). place_of c.args.op.now.key (stores_of v)) (sym (c.self.view_is ∙ c.place-at.ensures.same)) in
    let rowsets = written_back i.rowsets.items i.rowsets.len c.take_at.new.rowsets (omega (arith, i.rowsets.ok)) (let e = ap length c.deref_mut-2.ensures.value in omega (arith, c.take_at.auto.rowsets)) in
    let written = take i.rowsets.len (c.take_at.new.rowsets ++ drop (length c.take_at.new.rowsets) i.rowsets.items) in
    let filed : map g.R.FileStore.files written ≡ map g.R.FileStore.files i.rowsets.items = ap (map g.R.FileStore.files) (sym rowsets) ∙ c.take_at.ensures.files ∙ ap (map g.R.FileStore.files) c.deref_mut-2.ensures.value in
    let took = at_place (stands_by r.stands) (owns_by r.owns) (read_by (shelved r.target r.store r.is_closed r.cells)) (stay r.stands r.owns r.target r.store r.is_closed r.cells c.frame_law.ensures c.placed_law.ensures) (placed_by r.stands r.owns (shelved r.target r.store r.is_closed r.cells) c.placed_law.ensures)
    (length i.frozen.items) c.place-at.result (kept i.active i.frozen.items i.rowsets.items) (kept c.take_at.new.active c.take_at.new.frozen c.take_at.new.rowsets) i.pool c.take_at.new.pool c.args.ts c.args.op.now c.take_at.result c.self.invariant.0 t (map g.R.FileStore.files i.rowsets.items) (map g.R.FileStore.files written) filed e in
    let frozen = written_back i.frozen.items i.frozen.len c.take_at.new.frozen (omega (arith, i.frozen.ok)) (let e = ap length c.deref_mut.ensures.value in omega (arith, c.take_at.auto.frozen)) in
    let now = subst (λ (v : StoresView). Took v (record { pool = c.take_at.new.pool; shelf = shelf_of (read_by (shelved r.target r.store r.is_closed r.cells)) c.take_at.new.pool (kept c.take_at.new.active c.take_at.new.frozen c.take_at.new.rowsets); frozen = length i.frozen.items; files = map g.R.FileStore.files written }) c.args.ts c.args.op.now c.take_at.result) (c.self.view_is ∙ c.place-at.ensures.same) took in
    let told = took_along r.stands r.owns (shelved r.target r.store r.is_closed r.cells) c.take_at.new.active c.take_at.new.frozen _ c.take_at.new.rowsets _ c.take_at.new.pool frozen rowsets (map g.R.FileStore.files written) (length i.frozen.items) (let e = ap length c.deref_mut.ensures.value in let same = ap length frozen in omega (arith, c.take_at.auto.frozen)) c.args.self.now c.args.ts c.args.op.now c.take_at.result now in
    record { there = told.there; changed = told.changed; others = told.others; named = told.named; idle = told.idle }
