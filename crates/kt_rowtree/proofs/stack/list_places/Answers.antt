use Rattle.std.proofs.Common.{arith, ap, length, length-append, ◌≡◌, ◌++◌, ◌∷◌, [], ◌<◌, vec_len}
use Rattle.std.specs.Vec.{vec_capacity}
use Rattle.kt_rowtree.proofs.Found.{push_fits}
use Rattle.kt_rowtree.proofs.Counted.{places_more, places_all}
use Rattle.kt_rowtree.proofs.stack.list_places.Goals as goal

pub loop-place-preserved : goal.loop-place-preserved
loop-place-preserved c =
    let l = c.loop-place in
    let i = l.invariant in
    let q = c.requires in
    let fits : vec_len l.places < vec_capacity l.places = omega (arith, l.places.ok, i.room) in
    let pushed : c.push.new.self.items ≡ l.places.items ++ l.place ∷ [] =
    push_fits c.push.result l.places.items (l.places.items ++ l.place ∷ []) c.push.new.self.items (vec_len l.places) (vec_capacity l.places) c.push.ensures.items c.push.ensures.full fits in
    record {
      all = places_more c.args.ranges.now l.places.items c.push.new.self.items l.place c.loop-place-test.true i.all pushed;
      long = let n = ap length pushed in let m = length-append l.places.items (l.place ∷ []) in omega (arith, i.long);
      room = omega (arith, i.room, c.push.ensures.capacity);
    }

pub returns-clause-all : goal.returns-clause-all
returns-clause-all c = let l = c.loop-place in places_all c.args.ranges.now l.places.items l.place (omega arith) l.invariant.all
