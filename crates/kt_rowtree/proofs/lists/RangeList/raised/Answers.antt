use Rattle.std.proofs.Common.{arith, length, get_or, ◌<◌}
use Rattle.std.proofs.lemmas.List.{get_or_default}
use Rattle.std.proofs.lemmas.List.Edits.{map_over_more}
use Rattle.kt_rowtree.specs.Ranges.{raised}
use Rattle.kt_rowtree.proofs.lists.RangeList.raised.Goals as goal

pub loop-range-preserved : goal.loop-range-preserved
loop-range-preserved c =
    let l = c.loop-range in
    let within : l.range-index < length l.range-items = omega arith in
    let here = get_or l.range-items l.range-index c.range-item.result in
    map_over_more (raised c.args.more) c.deref_mut-range-items.result.now l.range-items l.range-index here (omega arith) l.invariant (get_or_default l.range-items l.range-index c.range-item.result here within)
