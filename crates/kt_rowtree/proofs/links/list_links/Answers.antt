use Rattle.std.proofs.Common.{arith, ap, length, length-append, ◌≡◌, ◌++◌, ◌∷◌, [], ◌<◌, vec_len}
use Rattle.std.specs.Vec.{vec_capacity}
use Rattle.kt_rowtree.proofs.Found.{push_fits}
use Rattle.kt_rowtree.proofs.Linked.{links_more}
use Rattle.kt_rowtree.proofs.links.list_links.Goals as goal

pub loop-at-preserved : goal.loop-at-preserved
loop-at-preserved c =
    let l = c.loop-at in
    let i = l.invariant in
    let q = c.requires in
    let link = c.link_of-link.result in
    let fits : vec_len l.links < vec_capacity l.links = omega (arith, l.links.ok, i.room) in
    let pushed : c.push.new.self.items ≡ l.links.items ++ link ∷ [] =
    push_fits c.push.result l.links.items (l.links.items ++ link ∷ []) c.push.new.self.items (vec_len l.links) (vec_capacity l.links) c.push.ensures.items c.push.ensures.full fits in
    record {
      links = links_more c.args.ranges.now l.links.items c.push.new.self.items link l.at i.links i.all pushed c.link_of-link.ensures;
      all = let n = ap length pushed in let m = length-append l.links.items (link ∷ []) in omega (arith, i.all);
      room = omega (arith, i.room, c.push.ensures.capacity);
    }
