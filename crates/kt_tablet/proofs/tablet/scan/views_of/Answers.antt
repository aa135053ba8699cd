use Rattle.std.proofs.Common.{◌+◌, ◌<◌, ◌≤◌, [], suc, length, take, subst, sym, arith}
use Rattle.std.proofs.lemmas.List.{length-map, take_all}
use Rattle.kt_stores.specs.Shelf.{Shelved, stores_of}
use Rattle.kt_tablet.specs.Reads.{AreCopies}
use Rattle.kt_tablet.proofs.Several.{get_there}
use Rattle.kt_tablet.proofs.Scans.{views_more}
use Rattle.kt_tablet.proofs.tablet.scan.views_of.Goals as goal

pub stores-init : goal.stores-init
stores-init g c = subst (AreCopies g.R.Read.StoreRows.row_of c.args.since c.args.t c.args.fill.now (suc c.args.stores.now.frozen) []) (sym c.in_ok-views.ensures.items) tt

pub stores-preserved : goal.stores-preserved
stores-preserved g c =
    let row = g.R.Read.StoreRows.row_of in
    let frozen = c.args.stores.now.frozen in
    let stores = stores_of c.args.stores.now in
    let low : c.stores.at < length stores = (let n = length-map c.args.stores.now.shelf (λ (s : Shelved). s.store) in let m = c.len-count.ensures in let lt = c.stores-test.true in omega arith) in
    let s = get_there stores c.stores.at low in
    subst (AreCopies row c.args.since c.args.t c.args.fill.now (suc frozen) (take (c.stores.at + 1) stores)) (sym c.in_ok-push.ensures.items)
    (views_more row c.args.fill.now c.args.since c.args.t (suc frozen) stores c.stores.at c.stores.views.items s.0 c.in_ok-copy.copy s.1 (c.in_ok-copy.ensures s.0 s.1) c.stores.invariant)

pub returns : goal.returns
returns g c =
    let row = g.R.Read.StoreRows.row_of in
    let frozen = c.args.stores.now.frozen in
    let stores = stores_of c.args.stores.now in
    let count : length stores ≤ c.stores.at = (let n = length-map c.args.stores.now.shelf (λ (s : Shelved). s.store) in let m = c.len-count.ensures in let past = c.stores-test.false in omega arith) in
    subst (AreCopies row c.args.since c.args.t c.args.fill.now (suc frozen) stores) (sym c.of.ensures)
    (subst (λ ss. AreCopies row c.args.since c.args.t c.args.fill.now (suc frozen) ss c.stores.views.items) (take_all c.stores.at stores count) c.stores.invariant)
