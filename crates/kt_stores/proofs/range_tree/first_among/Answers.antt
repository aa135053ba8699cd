use Rattle.std.proofs.Common.{◌≡◌, ◌<◌, Bool, sym, ap, ◌∙◌, arith, length, get_or, inl, inr}
use Rattle.std.proofs.lemmas.Bool.{cases_lt}
use Rattle.std.proofs.lemmas.List.{get_or_default}
use Rattle.std.proofs.lemmas.List.Elements.{All-get_or}
use Rattle.kt_stores.specs.Shelf.{has_live}
use Rattle.kt_stores.proofs.Ranged.{first_place, no_place}
use Rattle.kt_stores.proofs.range_tree.first_among.Goals as goal

pub returns-then-live : goal.returns-then-live
returns-then-live g c =
    let p : g.row.R.Denot → Bool = λ s. has_live c.args.key.now (g.R.RowStore.store s c.args.pool.now) in
    let rowsets = c.args.rowsets.now in
    let places = c.args.places.now in
    let l = c.loop-place in
    let low : l.place-index < length places = omega arith in
    let at = get_or places l.place-index 0 in
    let inside : at < length rowsets = All-get_or (λ n. n < length rowsets) places l.place-index 0 low c.requires.inside in
    sym (first_place p rowsets places c.requires.rise c.requires.all l.place-index l.invariant at c.index-rowsets-at.result low (λ k. at) inside (ap p (sym c.index-rowsets-at.is) ∙ sym c.live.ensures ∙ c.if-live.true))

pub loop-place-preserved : goal.loop-place-preserved
loop-place-preserved g c = λ i d low.
    let p : g.row.R.Denot → Bool = λ s. has_live c.args.key.now (g.R.RowStore.store s c.args.pool.now) in
    let rowsets = c.args.rowsets.now in
    let places = c.args.places.now in
    let l = c.loop-place in
    let inside : get_or places l.place-index 0 < length rowsets = All-get_or (λ n. n < length rowsets) places l.place-index 0 (omega arith) c.requires.inside in
    elim (cases_lt i l.place-index) [
      | inl before ↦ l.invariant i d before
      | inr other ↦
          let here : i ≡ l.place-index = omega arith in
          ap (λ n. p (get_or rowsets (get_or places n 0) d)) here ∙ ap p (get_or_default rowsets (get_or places l.place-index 0) d c.index-rowsets-at.result inside ∙ sym c.index-rowsets-at.is) ∙ sym c.live.ensures ∙ c.if-live.false
    ]

pub returns : goal.returns
returns g c =
    let p : g.row.R.Denot → Bool = λ s. has_live c.args.key.now (g.R.RowStore.store s c.args.pool.now) in
    sym (no_place p c.args.rowsets.now c.args.places.now c.requires.rise c.requires.all c.loop-place.place-index c.loop-place.invariant (omega arith))
