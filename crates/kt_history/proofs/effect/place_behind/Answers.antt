use Rattle.std.proofs.Common.{ap, ◌∙◌, arith}
use Rattle.std.proofs.lemmas.List.{get_or_default}
use Rattle.kt_history.proofs.Merging.{place_there, place_gap}
use Rattle.kt_history.proofs.effect.place_behind.Goals as goal

pub returns-then-here-id-2-clause-place : goal.returns-then-here-id-2-clause-place
returns-then-here-id-2-clause-place g c = place_there c.args.id c.places.at c.args.cells.now c.index-cells-at.result c.places-test.true c.places.invariant.below c.if-here-id-2.true

pub returns-then-here-id-2-clause-found : goal.returns-then-here-id-2-clause-found
returns-then-here-id-2-clause-found g c = λ d lt. ap (λ x. x.0) (get_or_default c.args.cells.now c.places.at d c.index-cells-at.result lt) ∙ c.if-here-id-2.true

pub returns-else-here-id-2-clause-place : goal.returns-else-here-id-2-clause-place
returns-else-here-id-2-clause-place g c =
    place_gap c.args.id c.places.at c.args.cells.now c.places.invariant.bound c.places.invariant.below (λ d lt. let here = ap (λ x. x.0) (get_or_default c.args.cells.now c.places.at d c.index-cells-at.result lt) in omega (arith, here))

pub returns-clause-place : goal.returns-clause-place
returns-clause-place g c = place_gap c.args.id c.places.at c.args.cells.now c.places.invariant.bound c.places.invariant.below (λ d lt. absurd (omega arith))
