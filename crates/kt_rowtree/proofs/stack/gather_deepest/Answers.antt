use Rattle.std.proofs.Common.{arith}
use Rattle.kt_rowtree.proofs.Deep.{length-holders, deepest_is}
use Rattle.kt_rowtree.proofs.stack.gather_deepest.Goals as goal

pub gather-requires-clause-room : goal.gather-requires-clause-room
gather-requires-clause-room c = let q = c.requires.room in omega (arith, length-holders c.as_slice.result.now c.args.ranges.now, c.list_ends.ensures.room)

pub returns-clause-deepest : goal.returns-clause-deepest
returns-clause-deepest c = λ some.
    let q = c.requires in
    let e = c.deepest-best.ensures in
    deepest_is c.args.ranges.now q.by_least q.orderly c.deepest-best.result c.index-ranges-best.result e.inside e.most e.first c.as_slice.result.now c.gather.new.out.items c.as_slice.ensures c.gather.ensures.holders
