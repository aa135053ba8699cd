use Rattle.std.proofs.Common.{arith, ◌+◌}
use Rattle.kt_rowtree.proofs.Linked.{step_is, outlast_over}
use Rattle.kt_rowtree.proofs.links.link_of.Goals as goal

pub returns-then-next-over : goal.returns-then-next-over
returns-then-next-over c =
    let q = c.requires in
    let ranges = c.args.ranges.now in
    let links = c.args.links.now in
    let near = c.near_of-near in
    let next = c.link_before-next in
    let over = c.link_before-over in
    let back = near.ensures.back in
    let first = step_is ranges links q.links near.result (omega (arith, q.here, back)) next.result next.ensures.none next.ensures.last in
    let back_first = first.back in
    let second = step_is ranges links q.links next.result.far (omega (arith, q.here, back, back_first)) over.result over.ensures.none over.ensures.last in
    let back_second = second.back in
    let fewer_first = first.fewer in
    let fewer_second = second.fewer in
    record {
      back = back;
      last = near.ensures.last;
      farther = omega arith;
      front = outlast_over ranges next.result.far (c.args.at + 1) over.result (outlast_over ranges near.result (c.args.at + 1) next.result near.ensures.front first) second;
      fewer = omega arith;
    }
