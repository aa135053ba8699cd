use Rattle.std.proofs.Common.{◌≡◌, [], ◌∙◌, ap, sym, subst, get_or, arith}
use Rattle.std.proofs.lemmas.List.{get_or_read}
use Rattle.kt_policy.specs.Gain.{AreCandidates}
use Rattle.kt_policy.specs.Sums.{in_order, from_bound}
use Rattle.kt_policy.proofs.Sets.{blank}
use Rattle.kt_policy.proofs.InOrder.{part_are}
use Rattle.kt_policy.proofs.Parts.{table_refused, table_goes_on}
use Rattle.kt_policy.proofs.filling.is_table.Goals as goal

pub is_part-requires : goal.is_part-requires
is_part-requires c =
    let bound = get_or c.args.list.now c.loop-l.l blank in
    let part : c.deref-in-loop-l.result.now ≡ from_bound bound (in_order c.args.list.now) = c.deref-in-loop-l.ensures.0 ∙ c.from_bound-part.ensures ∙ ap (from_bound bound) (c.deref.ensures.0 ∙ c.requires.order) in
    record { are = subst AreCandidates (sym part) (part_are bound c.args.list.now c.requires.are) }

pub returns-then-not-is_part : goal.returns-then-not-is_part
returns-then-not-is_part c =
    let bound = get_or c.args.list.now c.loop-l.l blank in
    let part : c.deref-in-loop-l.result.now ≡ from_bound bound (in_order c.args.list.now) = c.deref-in-loop-l.ensures.0 ∙ c.from_bound-part.ensures ∙ ap (from_bound bound) (c.deref.ensures.0 ∙ c.requires.order) in (
      λ never. cc,
      table_refused c.args.list.now c.args.budget c.loop-l.l blank c.args.table.now c.deref-in-loop-l.result.now c.as_slice.result.now c.is_part.result (omega arith) part
          (c.as_slice.ensures ∙ get_or_read c.args.table.now c.loop-l.l c.index-table-l.result (omega (arith, c.loop-l.invariant.count)) c.index-table-l.is []) c.is_part.ensures.1 c.if-not-is_part.true,
    )

pub loop-l-preserved : goal.loop-l-preserved
loop-l-preserved c =
    let bound = get_or c.args.list.now c.loop-l.l blank in
    let part : c.deref-in-loop-l.result.now ≡ from_bound bound (in_order c.args.list.now) = c.deref-in-loop-l.ensures.0 ∙ c.from_bound-part.ensures ∙ ap (from_bound bound) (c.deref.ensures.0 ∙ c.requires.order) in
    record {
      count = c.loop-l.invariant.count;
      parts_are = table_goes_on c.args.list.now c.args.budget c.loop-l.l blank c.args.table.now c.deref-in-loop-l.result.now c.as_slice.result.now (omega arith) c.loop-l.invariant.parts_are part
          (c.as_slice.ensures ∙ get_or_read c.args.table.now c.loop-l.l c.index-table-l.result (omega (arith, c.loop-l.invariant.count)) c.index-table-l.is []) (c.is_part.ensures.0 c.if-not-is_part.false);
    }
