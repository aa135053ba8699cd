use Rattle.std.proofs.Common.{◌≡◌, ◌≤◌, ◌+◌, [], ◌∷◌, ◌++◌, length, take, refl, sym, ap, ◌∙◌, subst, arith}
use Rattle.std.proofs.lemmas.List.{take_all, take_more}
use Rattle.kt_mvcc.specs.declared.flier.Flier.{Flier}
use Rattle.kt_mvcc.specs.Held.{Tells}
use Rattle.kt_mvcc.proofs.Index.{tells_none, tells_more}
use Rattle.kt_mvcc.proofs.flight.renew.Goals as goal

pub loop-flier-init : goal.loop-flier-init
loop-flier-init c = tells_none c.clear.new.self (take 0 c.args.flying.now) c.clear.ensures.empty refl

pub loop-flier-preserved : goal.loop-flier-preserved
loop-flier-preserved c =
    let flying = c.args.flying.now in
    let i = c.loop-flier.flier-index in
    let f = c.flier-item.result in
    let more : take (i + 1) flying ≡ take i flying ++ f ∷ [] = take_more flying i f (omega arith) ∙ ap (λ (g : Flier). take i flying ++ g ∷ []) (sym c.flier-item.is) in
    rw more (tells_more c.loop-flier.held c.hold.new.self (take i flying) f c.hold.ensures.keeps c.hold.ensures.held c.hold.ensures.stood c.loop-flier.invariant)

pub returns : goal.returns
returns c =
    let past : length c.args.flying.now ≤ c.loop-flier.flier-index = omega arith in
    subst (Tells c.loop-flier.held) (take_all c.loop-flier.flier-index c.args.flying.now past) c.loop-flier.invariant
