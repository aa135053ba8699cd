use Rattle.std.proofs.Common.{◌≡◌, ◌<◌, ℕ, List, true, map, length, sym, ap, subst, arith}
use Rattle.std.specs.Prelude.{All, ◌==◌}
use Rattle.std.specs.List.{list_any}
use Rattle.std.proofs.lemmas.List.{length-map}
use Rattle.kt_rowtree.specs.Ranges.{AreHolders, Tree, holders_of}
use Rattle.kt_stores.proofs.Ranged.{few_holders, holders_low, all_held}
use Rattle.kt_stores.proofs.range_tree.RangeTree.first_live.Goals as goal

pub holders-requires : goal.holders-requires
holders-requires g c =
    let files = map g.R.FileStore.files c.args.rowsets.now in
    let key = c.args.key.now in
    let view = ap (λ (t : Tree). length (holders_of key t.ranges)) c.self.view_is in
    let room = ap (λ (t : Tree). t.room) c.self.view_is in
    let held = few_holders files c.args.self.now c.requires.ranged key in
    let few = c.requires.ranged.few in
    let has = c.self.invariant.1 in
    omega arith

pub first_among-requires-clause-inside : goal.first_among-requires-clause-inside
first_among-requires-clause-inside g c =
    let files = map g.R.FileStore.files c.args.rowsets.now in
    let ids = c.holders.new.out.ids in
    let held = subst (λ (t : Tree). AreHolders c.args.key.now t.ranges ids) c.self.view_is c.holders.ensures.holders in
    let low = holders_low files c.args.self.now c.requires.ranged c.args.key.now ids held in
    let long = length-map c.args.rowsets.now g.R.FileStore.files in
    subst (λ (ns : List ℕ). All (λ n. n < length c.args.rowsets.now) ns) (sym c.as_slice.ensures) (subst (λ (m : ℕ). All (λ n. n < m) ids) long low)

pub first_among-requires-clause-all : goal.first_among-requires-clause-all
first_among-requires-clause-all g c = λ k d low live.
    let ids = c.holders.new.out.ids in
    let held = subst (λ (t : Tree). AreHolders c.args.key.now t.ranges ids) c.self.view_is c.holders.ensures.holders in
    let found = all_held g.R.FileStore.files (λ s. g.R.RowStore.store s c.args.pool.now) (λ s q. c.keys_law.ensures s c.args.pool.now q) c.args.rowsets.now c.args.self.now c.requires.ranged c.args.key.now ids held k d low live in
    subst (λ (ns : List ℕ). list_any (λ n. n == k) ns ≡ true) (sym c.as_slice.ensures) found
