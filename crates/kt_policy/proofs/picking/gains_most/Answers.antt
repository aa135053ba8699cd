use Rattle.std.proofs.Common.{◌≡◌, ◌∙◌, ap, sym, subst, arith, true}
use Rattle.std.specs.List.{All}
use Rattle.kt_policy.specs.Gain.{gain, chosen, is_in, is_known}
use Rattle.kt_policy.proofs.Picks.{found, right_set, from_found}
use Rattle.kt_policy.proofs.picking.gains_most.Goals as goal

pub returns-then-picked-from : goal.returns-then-picked-from
returns-then-picked-from c = (
  λ never. cc,
  λ is.
      let p = found c.args.list.now c.args.budget c.top_of-top.result.gain c.top_of-top.result.bound c.top_of-top.result.last c.args.picked.now c.as_slice.result.now c.requires.are c.as_slice.ensures c.top_of-top.ensures is in
      absurd (c.if-picked-from.true (p.1 ∙ sym c.from.ensures)),
)

pub returns-then-measure-top : goal.returns-then-measure-top
returns-then-measure-top c = (
  λ never. cc,
  λ is.
      let p = found c.args.list.now c.args.budget c.top_of-top.result.gain c.top_of-top.result.bound c.top_of-top.result.last c.args.picked.now c.as_slice.result.now c.requires.are c.as_slice.ensures c.top_of-top.ensures is in
      absurd (c.if-measure-top.true (c.measure_of-measure.ensures.gain ∙ ap (λ s. gain (chosen (is_in s) c.args.list.now)) c.as_slice-set.ensures ∙ p.2.gains)),
)

pub returns : goal.returns
returns c =
    let r = right_set c.args.list.now c.args.budget c.top_of-top.result.gain c.args.picked.now c.as_slice-set.result.now c.measure_of-measure.result.cost c.measure_of-measure.result.gain c.is_rising.result c.are_known.result c.as_slice-set.ensures
    c.measure_of-measure.ensures.cost c.measure_of-measure.ensures.gain c.if-measure-top.false (omega (arith, c.if-from-measure.false, c.from-2.ensures)) c.is_rising.ensures.0 c.if-not-is_rising.false c.are_known.ensures.0 in (
      λ known. from_found c.args.list.now c.args.budget c.top_of-top.result.gain c.top_of-top.result.bound c.top_of-top.result.last c.args.picked.now c.as_slice.result.now c.requires.are c.as_slice.ensures c.requires.table c.top_of-top.ensures
          (omega (arith, c.if-picked-from.false, c.from.ensures, c.if-picked-eq0.false)) (c.if-picked-from.false ∙ c.from.ensures) (r known),
      λ is.
          let p = found c.args.list.now c.args.budget c.top_of-top.result.gain c.top_of-top.result.bound c.top_of-top.result.last c.args.picked.now c.as_slice.result.now c.requires.are c.as_slice.ensures c.top_of-top.ensures is in
          c.are_known.ensures.1 (subst (All (λ id. is_known c.args.list.now id ≡ true)) (sym c.as_slice-set.ensures) p.2.known),
    )
