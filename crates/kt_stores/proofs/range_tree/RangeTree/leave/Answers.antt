use Rattle.std.proofs.Common.{◌∙◌, ℕ, List, sym, ap, subst, arith}
use Rattle.std.specs.List.Sorted.{IsPermutation, IsSorted}
use Rattle.std.specs.Ordering.{nat_cmp}
use Rattle.std.proofs.lemmas.List.{length-map}
use Rattle.kt_diskrowset.specs.Rowset.{held_of}
use Rattle.kt_rowtree.specs.Ranges.{Tree, closed_up, places_out}
use Rattle.kt_rowtree.proofs.Placing.{places_rise}
use Rattle.kt_stores.specs.Leaving.{stays_beside}
use Rattle.kt_stores.proofs.Ranged.{ranged_left}
use Rattle.kt_stores.proofs.range_tree.RangeTree.leave.Goals as goal

pub list_leaving-requires : goal.list_leaving-requires
list_leaving-requires c =
    let few = c.requires.few in
    let long = length-map c.args.rowsets.now held_of in
    let room = ap (λ (t : Tree). t.room) c.self.view_is in
    let has = c.self.invariant.1 in
    omega arith

pub close_up-requires : goal.close_up-requires
close_up-requires c = subst (IsSorted nat_cmp) (sym (c.as_slice.ensures ∙ c.list_leaving.ensures.places)) (places_rise (stays_beside c.args.numbers.now) 0 c.args.rowsets.now)

pub returns : goal.returns
returns c =
    let stays = stays_beside c.args.numbers.now in
    let rowsets = c.args.rowsets.now in
    let new = c.close_up.new.self.ranges in
    let all = subst (λ (ns : List ℕ). IsPermutation (closed_up ns c.self.inside.tree.ranges) new) (c.as_slice.ensures ∙ c.list_leaving.ensures.places) c.close_up.ensures.ranges in
    ranged_left held_of stays rowsets c.args.self.now (record { ranges = new; room = c.self.inside.room }) c.requires
    (subst (λ (t : Tree). IsPermutation (closed_up (places_out stays 0 rowsets) t.ranges) new) c.self.view_is all) (ap (λ (t : Tree). t.room) c.self.view_is)
