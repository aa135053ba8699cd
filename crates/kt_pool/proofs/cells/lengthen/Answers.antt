use Rattle.std.proofs.Common.{arith, ◌≡◌, ℕ, ◌+◌, ◌-◌, ap, ◌∙◌, sym, subst, refl, length, max}
use Rattle.std.proofs.lemmas.List.{length_push}
use Rattle.kt_pool.specs.Sound.{IsSound, places_in, padded}
use Rattle.kt_pool.proofs.Fresh.{pushed_sound, pushed_places}
use Rattle.kt_pool.proofs.Padded.{padded-more}
use Rattle.kt_pool.proofs.cells.lengthen.Goals as goal

pub loop-made-preserved : goal.loop-made-preserved
loop-made-preserved c =
    let v = c.loop-made.invariant in
    let cells = c.loop-made.cells.items in
    let new = c.push_reserved.new.self.items in
    let e = c.push_reserved.ensures.items in
    let r = c.requires.small in
    let few = v.count in
    let t = c.loop-made-test.true in
    let at : c.len-number.result ≡ length cells = omega (arith, c.len-number.ensures, c.loop-made.cells.ok) in
    record {
      from = omega arith;
      to = omega arith;
      sound = subst (λ (n : ℕ). IsSound new n (c.loop-made._made + 1)) (sym at) (pushed_sound cells new c.loop-made.at c.loop-made._made _ v.sound e refl refl refl (omega arith));
      places = pushed_places cells new c.loop-made.at c.loop-made._made _ v.sound e refl refl refl (omega arith) ∙ ap (λ l. padded l 1) v.places ∙ padded-more (places_in c.args.cells.now.items) (c.loop-made._made - c.args.spare) 1 ∙ ap (padded (places_in c.args.cells.now.items)) (omega (arith, v.from));
      count = ap length e ∙ length_push cells _ ∙ omega arith;
      room = c.push_reserved.ensures.capacity ∙ v.room;
    }

pub returns-clause-sound : goal.returns-clause-sound
returns-clause-sound c =
    let v = c.loop-made.invariant in
    let f = v.from in
    let t = v.to in
    let k = c.loop-made-test.false in
    let e : c.loop-made._made ≡ max c.args.spare c.args.count = omega arith in
    subst (λ (n : ℕ). IsSound c.loop-made.cells.items c.loop-made.at n) e v.sound

pub returns-clause-places : goal.returns-clause-places
returns-clause-places c =
    let v = c.loop-made.invariant in
    let f = v.from in
    let t = v.to in
    let k = c.loop-made-test.false in
    v.places ∙ ap (padded (places_in c.args.cells.now.items)) (omega arith)
