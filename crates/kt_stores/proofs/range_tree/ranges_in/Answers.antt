use Rattle.std.proofs.Common.{◌≡◌, ◌+◌, ◌∙◌, ◌++◌, ◌<◌, [], ◌∷◌, map, take, length, length-append, sym, ap, subst, arith}
use Rattle.std.proofs.lemmas.List.{length-map, length-take-le, map_more}
use Rattle.kt_stores.specs.Ranges.{ranges_of, KeysRise}
use Rattle.kt_stores.proofs.Ranged.{ranges_next, rise_more}
use Rattle.kt_stores.proofs.range_tree.ranges_in.Goals as goal

pub loop-rowset-preserved : goal.loop-rowset-preserved
loop-rowset-preserved g c =
    let file = g.R.FileStore.files in
    let rowsets = c.args.rowsets.now in
    let i = c.loop-rowset.rowset-index in
    let was = c.loop-rowset.invariant in
    let done = map file (take i rowsets) in
    let h = file c.rowset-item.result in
    let low : c.loop-rowset.rowset-index < length c.args.rowsets.now = omega arith in
    let more : map g.R.FileStore.files (take (c.loop-rowset.rowset-index + 1) c.args.rowsets.now) ≡ map g.R.FileStore.files (take c.loop-rowset.rowset-index c.args.rowsets.now) ++ g.R.FileStore.files c.rowset-item.result ∷ [] =
    map_more file rowsets i c.rowset-item.result low ∙ ap (λ r. done ++ file r ∷ []) (sym c.rowset-item.is) in
    let long = length-map (take i rowsets) file in
    let taken = length-take-le i rowsets (omega arith) in
    let count : c.len.result ≡ length done = omega (arith, was.count) in
    let items = c.push_reserved.ensures.items in
    let one = ap length items ∙ length-append c.loop-rowset.ranges.items (_ ∷ []) in
    record {
      ranges = items ∙ ap (λ rs. rs ++ record { rowset = c.len.result; least = c.in_ok-least.least; greatest = c.in_ok-least.greatest } ∷ []) was.ranges
          ∙ sym (ranges_next done h c.len.result c.in_ok-least.least c.in_ok-least.greatest count c.in_ok-least.ensures.least c.in_ok-least.ensures.greatest) ∙ ap ranges_of (sym more);
      rise = subst KeysRise (sym more) (rise_more done (h ∷ []) was.rise (c.ends.ensures.rise, tt));
      count = omega (arith, was.count);
      room = omega (arith, was.room, c.push_reserved.ensures.capacity);
    }
