use Rattle.std.proofs.Common.{◌≡◌, ◌+◌, ◌-◌, ◌<◌, ◌∙◌, sym, ap, arith, length, inr, rules}
use Rattle.std.specs.Prelude.{slice_get}
use Rattle.kt_history.specs.Stores.{Store, hist_in, row_of}
use Rattle.kt_stores.specs.Shelf.{StoresView, stores_of}
use Rattle.kt_stores.specs.Parts.{kept, shelved, stands_by, read_by}
use Rattle.kt_stores.proofs.Beside.{some_is}
use Rattle.kt_stores.proofs.Ordered.{read_is, rowset_at, count, stand_at, stored_at, length-shelf}
use Rattle.kt_stores.proofs.Standing.{if_ok}
use Rattle.kt_stores.proofs.stores.Stores.read_at.Goals as goal

pub index-requires : goal.index-requires
index-requires g c =
    let r = g.R.RowStore in
    let i = c.self.inside in
    let n = count i.active i.frozen.items i.rowsets.items in
    let m = length-shelf (read_by (shelved r.target r.store r.is_closed r.cells)) i.pool (kept i.active i.frozen.items i.rowsets.items) in
    let v = ap (λ (v : StoresView). length v.shelf) c.self.view_is in
    let f = ap (λ (v : StoresView). v.frozen) c.self.view_is in
    let within = c.requires.within in
    let behind = c.requires.behind in
    let low : c.args.at - 1 - c.frozen-memory.result < length i.rowsets.items = omega (arith, i.frozen.ok, c.frozen-memory.ensures) in
    search rules

pub read-requires : goal.read-requires
read-requires g c =
    let r = g.R.RowStore in
    let i = c.self.inside in
    let n = count i.active i.frozen.items i.rowsets.items in
    let m = length-shelf (read_by (shelved r.target r.store r.is_closed r.cells)) i.pool (kept i.active i.frozen.items i.rowsets.items) in
    let v = ap (λ (v : StoresView). length v.shelf) c.self.view_is in
    let f = ap (λ (v : StoresView). v.frozen) c.self.view_is in
    let within = c.requires.within in
    let behind = c.requires.behind in
    let j = c.args.at - 1 - c.frozen-memory.result in
    let low : c.args.at - 1 - c.frozen-memory.result < length i.rowsets.items = omega (arith, i.frozen.ok, c.frozen-memory.ensures) in
    let e : c.args.at ≡ 1 + length i.frozen.items + (c.args.at - 1 - c.frozen-memory.result) = omega (arith, i.frozen.ok, c.frozen-memory.ensures) in
    let here = rowset_at i.active i.frozen.items i.rowsets.items c.args.at j c.index.result.now e (read_is i.rowsets.items j c.index.result.now low c.index.ensures) in
    stand_at (stands_by r.stands) i.pool c.args.at (inr c.index.result.now) (kept i.active i.frozen.items i.rowsets.items) here c.self.invariant.0.stand

pub returns : goal.returns
returns g c =
    let r = g.R.RowStore in
    let i = c.self.inside in
    let n = count i.active i.frozen.items i.rowsets.items in
    let m = length-shelf (read_by (shelved r.target r.store r.is_closed r.cells)) i.pool (kept i.active i.frozen.items i.rowsets.items) in
    let v = ap (λ (v : StoresView). length v.shelf) c.self.view_is in
    let f = ap (λ (v : StoresView). v.frozen) c.self.view_is in
    let within = c.requires.within in
    let behind = c.requires.behind in
    let j = c.args.at - 1 - c.frozen-memory.result in
    let low : c.args.at - 1 - c.frozen-memory.result < length i.rowsets.items = omega (arith, i.frozen.ok, c.frozen-memory.ensures) in
    let e : c.args.at ≡ 1 + length i.frozen.items + (c.args.at - 1 - c.frozen-memory.result) = omega (arith, i.frozen.ok, c.frozen-memory.ensures) in
    let here = rowset_at i.active i.frozen.items i.rowsets.items c.args.at j c.index.result.now e (read_is i.rowsets.items j c.index.result.now low c.index.ensures) in
    let stored = stored_at (read_by (shelved r.target r.store r.is_closed r.cells)) i.pool c.args.at (inr c.index.result.now) (kept i.active i.frozen.items i.rowsets.items) here in
    if_ok c.read.result
    (λ read told store at key u le.
    let same = some_is (r.store c.index.result.now i.pool) store (sym stored ∙ ap (λ (v : StoresView). slice_get (stores_of v) c.args.at) c.self.view_is ∙ at) in
    told key u le ∙ ap (λ (s : Store). row_of u (hist_in key s)) same)
    c.read.ensures
