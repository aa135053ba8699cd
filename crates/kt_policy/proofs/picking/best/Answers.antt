use Rattle.std.proofs.Common.{◌≡◌, ◌∙◌, ℕ, List, [], ap, sym, subst, get_or, length, arith}
use Rattle.std.proofs.lemmas.List.{get_or_read}
use Rattle.kt_policy.specs.Gain.{AreCandidates}
use Rattle.kt_policy.specs.Sums.{in_order, from_bound}
use Rattle.kt_policy.proofs.Sets.{blank}
use Rattle.kt_policy.proofs.InOrder.{part_are}
use Rattle.kt_policy.proofs.Picks.{none_to_pick, one_to_pick}
use Rattle.kt_policy.proofs.picking.best.Goals as goal

pub returns-then-top-eq0 : goal.returns-then-top-eq0
returns-then-top-eq0 c = none_to_pick c.args.list.now c.as_slice-candidates.result.now c.args.budget c.top_of-top.result.gain c.top_of-top.result.bound c.top_of-top.result.last c.in_ok-table.table c.as_slice.result.now
    c.as_slice-candidates.ensures c.as_slice.ensures c.requires c.in_ok-table.ensures c.top_of-top.ensures c.if-top-eq0.true

pub set_behind-requires-clause-are : goal.set_behind-requires-clause-are
set_behind-requires-clause-are c =
    let cs = c.as_slice-candidates.result.now in
    let bound = get_or cs c.top_of-top.result.bound blank in
    let part : c.deref-2.result.now ≡ from_bound bound (in_order cs) = c.deref-2.ensures.0 ∙ c.from_bound-part.ensures ∙ ap (from_bound bound) (c.deref.ensures.0 ∙ c.in_order-order.ensures) in
    subst AreCandidates (sym part) (part_are bound cs (subst AreCandidates (sym c.as_slice-candidates.ensures) c.requires))

pub returns : goal.returns
returns c =
    let cs = c.as_slice-candidates.result.now in
    let bound = get_or cs c.top_of-top.result.bound blank in
    let part : c.deref-2.result.now ≡ from_bound bound (in_order cs) = c.deref-2.ensures.0 ∙ c.from_bound-part.ensures ∙ ap (from_bound bound) (c.deref.ensures.0 ∙ c.in_order-order.ensures) in
    let rows : c.as_slice-rows.result.now ≡ get_or c.in_ok-table.table c.top_of-top.result.bound [] =
    c.as_slice-rows.ensures ∙ get_or_read c.as_slice-2.result.now c.top_of-top.result.bound c.index-as_slice-top.result (omega (arith, ap (length {A = List (List ℕ)}) c.as_slice-2.ensures, c.in_ok-table.ensures.count, (c.top_of-top.ensures.made (omega (arith, c.if-top-eq0.false))).0)) c.index-as_slice-top.is [] ∙ ap (λ t. get_or t c.top_of-top.result.bound []) c.as_slice-2.ensures in
    one_to_pick c.args.list.now cs c.args.budget c.top_of-top.result.gain c.top_of-top.result.bound c.top_of-top.result.last (record { set = c.in_ok-set.set; gain = c.from.result; table = c.in_ok-table.table }) c.as_slice.result.now c.deref-2.result.now c.as_slice-rows.result.now
    c.as_slice-candidates.ensures c.as_slice.ensures c.requires c.in_ok-table.ensures c.top_of-top.ensures (omega (arith, c.if-top-eq0.false)) c.from.ensures part rows c.in_ok-set.ensures
