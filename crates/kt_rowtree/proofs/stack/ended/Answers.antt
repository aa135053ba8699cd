use Rattle.std.proofs.Common.{arith, sym, ap, ◌∙◌, ◌≡◌, ◌+◌, ◌-◌, ◌/◌, ◌<◌, ◌≤◌, length, get_or}
use Rattle.std.specs.Ordering.{is_lt, nat_cmp}
use Rattle.std.specs.Cmp.Lexicographic.{slice_cmp}
use Rattle.kt_rowtree.specs.Ranges.{end_at}
use Rattle.kt_rowtree.proofs.Counted.{past_below, past_above, ended_is}
use Rattle.kt_rowtree.proofs.Upto.{lt_past}
use Rattle.kt_rowtree.proofs.stack.ended.Goals as goal

pub loop-low-preserved-then-is_lt : goal.loop-low-preserved-then-is_lt
loop-low-preserved-then-is_lt c =
    let l = c.loop-low in
    let i = l.invariant in
    let mid = l.low + (l.high - l.low) / 2 in
    let inside : mid < length c.args.ends.now = omega arith in
    let past = sym (lt_past (end_at c.args.ranges.now (get_or c.args.ends.now mid 0)) c.args.key.now) ∙ ap (λ end. is_lt (slice_cmp nat_cmp end c.args.key.now)) (sym c.end_of.ensures) ∙ sym (ap is_lt c.cmp.ensures) ∙ sym c.is_lt.ensures ∙ c.if-is_lt.true in
    record { ordered = omega arith; bound = i.bound; below = past_below c.args.ranges.now c.args.ends.now c.requires c.args.key.now mid inside past; above = i.above }

pub loop-low-preserved : goal.loop-low-preserved
loop-low-preserved c =
    let l = c.loop-low in
    let i = l.invariant in
    let mid = l.low + (l.high - l.low) / 2 in
    let past = sym (lt_past (end_at c.args.ranges.now (get_or c.args.ends.now mid 0)) c.args.key.now) ∙ ap (λ end. is_lt (slice_cmp nat_cmp end c.args.key.now)) (sym c.end_of.ensures) ∙ sym (ap is_lt c.cmp.ensures) ∙ sym c.is_lt.ensures ∙ c.if-is_lt.false in
    record { ordered = omega arith; bound = omega arith; below = i.below; above = past_above c.args.ranges.now c.args.ends.now c.requires c.args.key.now mid past }

pub returns : goal.returns
returns c =
    let i = c.loop-low.invariant in
    let bound : c.loop-low.low ≤ length c.args.ends.now = omega arith in
    let same : c.loop-low.low ≡ c.loop-low.high = omega arith in
    ended_is c.args.ranges.now c.args.ends.now c.requires c.args.key.now c.loop-low.low bound i.below (λ k high low. i.above k (omega arith) low)
