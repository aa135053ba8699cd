use Rattle.std.proofs.Common.{◌≡◌, ◌+◌, ◌++◌, ◌∷◌, [], ◌∙◌, ap, sym, subst, length, get_or}
use Rattle.std.proofs.lemmas.List.{length_push}
use Rattle.kt_policy.specs.Gain.{AreCandidates}
use Rattle.kt_policy.specs.Sums.{in_order, from_bound}
use Rattle.kt_policy.proofs.Sets.{blank}
use Rattle.kt_policy.proofs.InOrder.{part_are}
use Rattle.kt_policy.proofs.Parts.{table_grows}
use Rattle.kt_policy.proofs.filling.table_of.Goals as goal

pub part_of-requires : goal.part_of-requires
part_of-requires c =
    let bound = get_or c.args.list.now c.loop-bound.bound-index blank in
    let part : c.deref-in-loop-bound.result.now ≡ from_bound bound (in_order c.args.list.now) =
    c.deref-in-loop-bound.ensures.0 ∙ c.from_bound-part.ensures ∙ ap (from_bound bound) (c.deref.ensures.0 ∙ c.requires.order) in
    record { are = subst AreCandidates (sym part) (part_are bound c.args.list.now c.requires.are) }

pub loop-bound-preserved : goal.loop-bound-preserved
loop-bound-preserved c =
    let bound = get_or c.args.list.now c.loop-bound.bound-index blank in
    let part : c.deref-in-loop-bound.result.now ≡ from_bound bound (in_order c.args.list.now) =
    c.deref-in-loop-bound.ensures.0 ∙ c.from_bound-part.ensures ∙ ap (from_bound bound) (c.deref.ensures.0 ∙ c.requires.order) in
    let items : c.push.new.self.items ≡ c.loop-bound.parts.items ++ c.in_ok-part_of.field-0 ∷ [] = c.in_ok-push.ensures.items in
    record {
      count = ap length items ∙ length_push c.loop-bound.parts.items c.in_ok-part_of.field-0 ∙ ap (λ n. n + 1) c.loop-bound.invariant.count;
      parts_are = table_grows c.args.list.now c.args.budget c.loop-bound.bound-index blank c.loop-bound.parts.items c.push.new.self.items c.deref-in-loop-bound.result.now c.in_ok-part_of.field-0
          c.loop-bound-test.true c.loop-bound.invariant.count c.loop-bound.invariant.parts_are part c.in_ok-part_of.ensures items;
    }
