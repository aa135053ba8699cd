use Rattle.std.proofs.Common.{arith, sym, ◌+◌, ◌-◌, ◌/◌, ◌<◌, length}
use Rattle.kt_rowtree.proofs.Found.{below_mid, above_mid}
use Rattle.kt_rowtree.proofs.search.reach.Goals as goal

pub loop-low-preserved-then-begins_by : goal.loop-low-preserved-then-begins_by
loop-low-preserved-then-begins_by c =
    let l = c.loop-low in
    let i = l.invariant in
    let mid = l.low + (l.high - l.low) / 2 in
    let r = c.index-ranges-mid in
    let inside : mid < length c.args.ranges.now = omega arith in
    record { ordered = omega arith; bound = i.bound; below = below_mid c.args.ranges.now c.requires c.args.key.now mid inside r.result r.is (sym c.if-begins_by.ensures); above = i.above }

pub loop-low-preserved : goal.loop-low-preserved
loop-low-preserved c =
    let l = c.loop-low in
    let i = l.invariant in
    let mid = l.low + (l.high - l.low) / 2 in
    let r = c.index-ranges-mid in
    let inside : mid < length c.args.ranges.now = omega arith in
    record { ordered = omega arith; bound = omega arith; below = i.below; above = above_mid c.args.ranges.now c.requires c.args.key.now mid inside r.result r.is (sym c.if-begins_by.ensures) }
