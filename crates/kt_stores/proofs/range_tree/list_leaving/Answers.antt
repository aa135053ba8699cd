use Rattle.std.proofs.Common.{◌<◌, ◌++◌, ◌∙◌, [], ◌∷◌, cond, take, length, append-nil, sym, ap, arith}
use Rattle.std.specs.Prelude.{not}
use Rattle.std.proofs.lemmas.List.{length-take-le, take_all}
use Rattle.kt_rowtree.specs.Ids.{Ids}
use Rattle.kt_rowtree.specs.Ranges.{places_out}
use Rattle.kt_rowtree.proofs.Placing.{length-places_out}
use Rattle.kt_stores.specs.Leaving.{stays_beside}
use Rattle.kt_stores.proofs.Ranged.{out_more}
use Rattle.kt_stores.proofs.range_tree.list_leaving.Goals as goal
use Rattle.kt_stores.proofs.range_tree.list_leaving.Goals.{then-is_among, else-is_among}

pub add-requires : goal.add-requires
add-requires c =
    let l = c.loop-at in
    let low : l.at < length c.args.rowsets.now = omega arith in
    let long = ap length l.invariant.ids in
    let few = length-places_out (stays_beside c.args.numbers.now) 0 (take l.at c.args.rowsets.now) in
    let taken = length-take-le l.at c.args.rowsets.now (omega arith) in
    omega (arith, l.invariant.room)

pub loop-at-preserved : goal.loop-at-preserved
loop-at-preserved c =
    let stays = stays_beside c.args.numbers.now in
    let at = c.loop-at.at in
    let front = places_out stays 0 (take at c.args.rowsets.now) in
    let low : c.loop-at.at < length c.args.rowsets.now = omega arith in
    let more = out_more stays c.args.rowsets.now at c.index-rowsets-at.result low ∙ ap (λ r. front ++ cond (stays r) [] (at ∷ [])) (sym c.index-rowsets-at.is) in
    elim c.if-is_among.branch [
      | then-is_among w ↦
          let leaves = ap not (sym c.is_among.ensures ∙ w.if-is_among.true) in
          record {
            ids = ap (λ (p : Ids). p.ids) w.places-is ∙ w.add.ensures.ids ∙ ap (λ ns. ns ++ at ∷ []) c.loop-at.invariant.ids ∙ sym (more ∙ ap (λ b. front ++ cond b [] (at ∷ [])) leaves);
            room = ap (λ (p : Ids). p.room) w.places-is ∙ w.add.ensures.room ∙ c.loop-at.invariant.room;
          }
      | else-is_among w ↦
          let stay = ap not (sym c.is_among.ensures ∙ w.if-is_among.false) in
          record {
            ids = ap (λ (p : Ids). p.ids) w.places-is ∙ c.loop-at.invariant.ids ∙ sym (more ∙ ap (λ b. front ++ cond b [] (at ∷ [])) stay ∙ append-nil front);
            room = ap (λ (p : Ids). p.room) w.places-is ∙ c.loop-at.invariant.room;
          }
    ]

pub returns-clause-places : goal.returns-clause-places
returns-clause-places c =
    let over = take_all c.loop-at.at c.args.rowsets.now (omega arith) in
    c.loop-at.invariant.ids ∙ ap (places_out (stays_beside c.args.numbers.now) 0) over
