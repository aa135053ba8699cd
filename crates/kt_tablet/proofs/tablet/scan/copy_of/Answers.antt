use Rattle.std.proofs.Common.{◌+◌, ◌<◌, ◌≤◌, sym, ap, ◌∙◌, take, arith}
use Rattle.std.specs.Prelude.{slice_get}
use Rattle.kt_stores.specs.Shelf.{stores_of}
use Rattle.kt_stores.proofs.Beside.{some_is}
use Rattle.kt_tablet.specs.Snaps.{rises}
use Rattle.kt_tablet.specs.Reads.{IsViewOf}
use Rattle.kt_tablet.proofs.Scans.{store_of_changes, grown_at, get_take, upto_rises, memory_copied, rowset_copied}
use Rattle.kt_tablet.proofs.tablet.scan.copy_of.Goals as goal

pub of-requires : goal.of-requires
of-requires g c =
    let stores = stores_of c.args.stores.now in
    let frozen = c.args.stores.now.frozen in
    let low : c.args.at < 1 + frozen = omega (arith, c.frozen.ensures) in
    let from = store_of_changes c.args.t (slice_get stores c.args.at) c.in_ok-changes.changes c.in_ok-changes.ensures in
    ap rises from.2 ∙ upto_rises c.args.t from.0 (grown_at (take (1 + frozen) stores) c.args.at from.0 c.requires.grown (get_take stores (1 + frozen) c.args.at from.0 low from.1)).sorted

pub returns-then-at-frozen : goal.returns-then-at-frozen
returns-then-at-frozen g c = λ store here.
    let stores = stores_of c.args.stores.now in
    let frozen = c.args.stores.now.frozen in
    let low : c.args.at ≤ frozen = omega (arith, c.frozen.ensures) in
    let from = store_of_changes c.args.t (slice_get stores c.args.at) c.in_ok-changes.changes c.in_ok-changes.ensures in
    let is : IsViewOf c.args.since c.args.t c.args.fill.now from.0 c.of.result = record { since_is = c.of.ensures.0; changes = c.of.ensures.1 ∙ from.2; fill_is = c.of.ensures.2 ∙ c.in_ok-copy.ensures } in
    memory_copied g.R.Read.StoreRows.row_of c.args.fill.now c.args.since c.args.t frozen c.args.at from.0 store c.of.result low (some_is from.0 store (sym from.1 ∙ here)) is

pub returns : goal.returns
returns g c = λ store here.
    let frozen = c.args.stores.now.frozen in
    let behind : frozen < c.args.at = omega (arith, c.frozen.ensures) in
    rowset_copied g.R.Read.StoreRows.row_of c.args.fill.now c.args.since c.args.t frozen c.args.at store c.in_ok-read.read behind (c.in_ok-read.ensures store here)
