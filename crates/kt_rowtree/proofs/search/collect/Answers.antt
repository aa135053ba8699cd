use Rattle.std.proofs.Common.{arith, sym, ◌∙◌, ◌++◌, ◌∷◌, [], ◌<◌, vec_len}
use Rattle.std.specs.Vec.{vec_capacity}
use Rattle.kt_rowtree.proofs.Found.{found_more, found_room, found_past, found_all, push_fits}
use Rattle.kt_rowtree.proofs.search.collect.Goals as goal

pub loop-at-preserved-then-ends_from : goal.loop-at-preserved-then-ends_from
loop-at-preserved-then-ends_from c =
    let l = c.loop-at in
    let i = l.invariant in
    let r = c.index-ranges-at in
    let e = c.reach-at.ensures in
    let room = found_room c.args.ranges.now c.args.key.now c.reach-at.result e.bound e.below l.at c.loop-at-test.true i.back r.result r.is l.out.items i.found (sym c.if-ends_from.ensures) in
    let more = found_more c.args.ranges.now c.args.key.now c.reach-at.result e.bound e.below l.at c.loop-at-test.true i.back r.result r.is l.out.items i.found (sym c.if-ends_from.ensures) in
    let q = c.requires.room in
    let fits : vec_len l.out < vec_capacity l.out = omega (arith, l.out.ok, i.room) in
    record {
      back = omega arith;
      found = push_fits c.push.result l.out.items (l.out.items ++ r.result.rowset ∷ []) c.push.new.self.items (vec_len l.out) (vec_capacity l.out) c.push.ensures.items c.push.ensures.full fits ∙ more;
      room = omega (arith, c.push.ensures.capacity, i.room);
    }

pub loop-at-preserved : goal.loop-at-preserved
loop-at-preserved c =
    let l = c.loop-at in
    let i = l.invariant in
    let r = c.index-ranges-at in
    let e = c.reach-at.ensures in
    let p = c.past-at.ensures in
    record {
      back = omega (arith, p.back);
      found = found_past c.args.ranges.now c.args.key.now c.reach-at.result e.bound e.below l.at c.loop-at-test.true i.back r.result r.is l.out.items i.found c.past-at.result p.back p.early;
      room = i.room;
    }

pub returns-clause-ids : goal.returns-clause-ids
returns-clause-ids c =
    let l = c.loop-at in
    let e = c.reach-at.ensures in
    found_all c.args.ranges.now c.args.key.now c.reach-at.result e.above l.out.items l.at (omega arith) l.invariant.found
