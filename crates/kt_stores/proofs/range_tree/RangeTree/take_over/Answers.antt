use Rattle.std.proofs.Common.{◌≡◌, ◌+◌, ◌++◌, ◌∙◌, [], List, map, length, length-append, sym, ap, subst, arith, true}
use Rattle.std.specs.List.Sorted.{IsPermutation}
use Rattle.std.proofs.lemmas.List.{length-map}
use Rattle.std.proofs.lemmas.List.Elements.{All-map}
use Rattle.kt_rowtree.specs.Ranges.{IsOrderly, Tree, is_upto, raised, without}
use Rattle.kt_rowtree.specs.declared.lists.Range.{Range}
use Rattle.kt_stores.proofs.Ranged.{all_left}
use Rattle.kt_stores.proofs.range_tree.RangeTree.take_over.Goals as goal

pub replace-requires-clause-orderly : goal.replace-requires-clause-orderly
replace-requires-clause-orderly c =
    let others = c.into_ranges.ensures ∙ ap (λ (t : Tree). t.ranges) c.others.view_is in
    subst IsOrderly (sym (c.raised.ensures ∙ ap (map (raised c.args.first)) others)) (All-map (λ (r : Range). is_upto r.least r.greatest ≡ true) (raised c.args.first) c.args.others.ranges c.requires.orderly)

pub replace-requires-clause-room : goal.replace-requires-clause-room
replace-requires-clause-room c =
    let own = c.self.inside.tree.ranges in
    let others = ap length (c.into_ranges.ensures ∙ ap (λ (t : Tree). t.ranges) c.others.view_is) in
    let come = ap length c.raised.ensures ∙ length-map c.into_ranges.result (raised c.args.first) in
    let left = ap length (all_left own) in
    let both = length-append (without [] own) c.raised.result in
    let view = ap (λ (t : Tree). length t.ranges) c.self.view_is in
    let room = ap (λ (t : Tree). t.room) c.self.view_is in
    let fits = c.requires.room in
    let has = c.self.invariant.0 in
    omega arith

pub returns-clause-ranges : goal.returns-clause-ranges
returns-clause-ranges c =
    let own = c.self.inside.tree.ranges in
    let others = c.into_ranges.ensures ∙ ap (λ (t : Tree). t.ranges) c.others.view_is in
    let come = c.raised.ensures ∙ ap (map (raised c.args.first)) others in
    let is = ap (λ rs. rs ++ c.raised.result) (all_left own ∙ ap (λ (t : Tree). t.ranges) c.self.view_is) ∙ ap (λ rs. c.args.self.now.ranges ++ rs) come in
    subst (λ (rs : List Range). IsPermutation rs c.replace.new.self.ranges) is c.replace.ensures.ranges
