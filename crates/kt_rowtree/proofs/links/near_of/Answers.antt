use Rattle.std.proofs.Common.{sym, ap, ◌∙◌, ◌≡◌, ◌-◌, get_or, arith}
use Rattle.kt_rowtree.specs.declared.lists.Range.{Range}
use Rattle.kt_rowtree.specs.Ranges.{is_upto}
use Rattle.kt_rowtree.proofs.Found.{read_at}
use Rattle.kt_rowtree.proofs.Upto.{upto_other}
use Rattle.kt_rowtree.proofs.Linked.{near_last, near_back, near_front}
use Rattle.kt_rowtree.proofs.links.near_of.Goals as goal

pub loop-low-preserved : goal.loop-low-preserved
loop-low-preserved c =
    let l = c.loop-low in
    let r = c.index-ranges-low in
    let q = c.requires in
    let at_end : (d : Range) → (get_or c.args.ranges.now c.args.at d).greatest ≡ c.as_slice-end.result.now = λ d. ap (λ (r : Range). r.greatest) (read_at c.args.ranges.now c.args.at c.index-ranges-at.result d q.inside c.index-ranges-at.is ∙ c.index-ranges-at.is) ∙ sym c.as_slice-end.ensures in
    record {
      back = near_back c.args.ranges.now c.args.links.now q.links c.args.at l.low q.inside q.here c.loop-low-test.true l.invariant.back l.invariant.last r.result r.is c.as_slice-end.result.now at_end (sym c.if-ends_by.ensures) _;
      last = near_last c.args.ranges.now c.args.links.now q.links c.args.at l.low q.inside q.here c.loop-low-test.true l.invariant.back l.invariant.last r.result r.is c.as_slice-end.result.now at_end (sym c.if-ends_by.ensures) _;
    }

pub returns-else-ends_by-clause-front : goal.returns-else-ends_by-clause-front
returns-else-ends_by-clause-front c =
    let l = c.loop-low in
    let r = c.index-ranges-low in
    let ranges = c.args.ranges.now in
    let at_end : (d : Range) → (get_or ranges c.args.at d).greatest ≡ c.as_slice-end.result.now = λ d. ap (λ (r : Range). r.greatest) (read_at ranges c.args.at c.index-ranges-at.result d c.requires.inside c.index-ranges-at.is ∙ c.index-ranges-at.is) ∙ sym c.as_slice-end.ensures in
    near_front ranges c.args.at l.low l.invariant.last (λ d some.
    upto_other (get_or ranges (l.low - 1) d).greatest (get_or ranges c.args.at d).greatest
    (ap (λ (r : Range). is_upto r.greatest (get_or ranges c.args.at d).greatest) (read_at ranges (l.low - 1) r.result d (omega (arith, c.requires.inside, l.invariant.back)) r.is) ∙ ap (is_upto r.result.greatest) (at_end d) ∙ sym c.if-ends_by.ensures))
