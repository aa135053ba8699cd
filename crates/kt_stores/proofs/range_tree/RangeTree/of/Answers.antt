use Rattle.std.proofs.Common.{◌∙◌, ◌++◌, map, length, sym, ap, subst, arith, []}
use Rattle.std.proofs.lemmas.List.{length-map}
use Rattle.kt_rowtree.specs.Ranges.{IsOrderly, Tree, without}
use Rattle.kt_stores.proofs.Ranged.{length-ranges, ranged_of, ranges_orderly}
use Rattle.kt_stores.proofs.range_tree.RangeTree.of.Goals as goal

pub replace-requires-clause-orderly : goal.replace-requires-clause-orderly
replace-requires-clause-orderly g c = subst IsOrderly (sym c.in_ok-ranges.ensures.ranges) (ranges_orderly (map g.R.FileStore.files c.args.rowsets.now) c.in_ok-ranges.ensures.rise)

pub replace-requires-clause-room : goal.replace-requires-clause-room
replace-requires-clause-room g c =
    let files = map g.R.FileStore.files c.args.rowsets.now in
    let none = ap (λ (t : Tree). t.ranges) c.all.view_is ∙ c.in_ok-all.ensures.none in
    let all = ap (λ rs. length (without [] rs ++ c.in_ok-ranges.ranges)) none in
    let long = ap length c.in_ok-ranges.ensures.ranges ∙ length-ranges files ∙ length-map c.args.rowsets.now g.R.FileStore.files in
    let room = ap (λ (t : Tree). t.room) c.all.view_is ∙ c.in_ok-all.ensures.room in
    let has = c.all.invariant.0 in
    omega arith

pub returns-clause-ranged : goal.returns-clause-ranged
returns-clause-ranged g c =
    let files = map g.R.FileStore.files c.args.rowsets.now in
    let room = ap (λ (t : Tree). t.room) c.all.view_is ∙ c.in_ok-all.ensures.room in
    let long = length-map c.args.rowsets.now g.R.FileStore.files in
    ranged_of files c.in_ok-ranges.ranges c.all.inside.tree (record { ranges = c.replace.new.self.ranges; room = c.all.inside.room }) c.in_ok-ranges.ensures.ranges c.in_ok-ranges.ensures.rise
    (ap (λ (t : Tree). t.ranges) c.all.view_is ∙ c.in_ok-all.ensures.none) c.replace.ensures.ranges (omega arith)
