use Rattle.std.proofs.Common.{◌≡◌, ◌+◌, ◌∙◌, ap, sym, get_or, arith}
use Rattle.kt_policy.specs.declared.candidate.Candidate.{Candidate}
use Rattle.kt_policy.specs.Gain.{is_in}
use Rattle.kt_policy.proofs.Sets.{blank}
use Rattle.kt_policy.proofs.Ends.{widths_fit, high_fits, gain_is, measured_with, measured_without}
use Rattle.kt_policy.proofs.checking.measure_of.Goals as goal
use Rattle.kt_policy.proofs.checking.measure_of.Goals.{then-contains, else-contains}

pub overflow_add-widths : goal.overflow_add-widths
overflow_add-widths c = omega (arith, widths_fit (is_in c.args.set.now) c.args.list.now c.loop-candidate.candidate-index c.requires.are (omega arith), c.loop-candidate.invariant.sums, c.width-widths.ensures, (c.requires.are.each c.loop-candidate.candidate-index blank (omega arith)).ranks)

pub loop-candidate-preserved : goal.loop-candidate-preserved
loop-candidate-preserved c =
    let i = c.loop-candidate.candidate-index in
    let list = c.args.list.now in
    let t = is_in c.args.set.now in
    let x : Candidate = get_or list i blank in
    let has : c.contains.result ≡ t x.rowset = c.contains.ensures.value in
    elim c.if-contains.branch [
      | then-contains w ↦
          let cost_of = w.cost-cost.ensures in
          measured_with t list i blank c.loop-candidate.cost c.loop-candidate.widths c.loop-candidate.low c.loop-candidate.high _ _ _ _ c.requires.are (omega arith) (sym has ∙ w.if-contains.true) c.loop-candidate.invariant
          (omega (arith, cost_of.units, cost_of.small)) (w.cost-is ∙ ap (λ n. c.loop-candidate.cost + n) cost_of.units) (w.widths-is ∙ ap (λ n. c.loop-candidate.widths + n) w.width-widths.ensures) (w.low-is ∙ w.min-low.ensures) (w.high-is ∙ w.max-high.ensures)
      | else-contains w ↦ measured_without t list i blank c.loop-candidate.cost c.loop-candidate.widths c.loop-candidate.low c.loop-candidate.high _ _ _ _ c.requires.are (omega arith) (sym has ∙ w.if-contains.false) c.loop-candidate.invariant
          w.cost-is w.widths-is w.low-is w.high-is
    ]

pub overflow_add-high : goal.overflow_add-high
overflow_add-high c = omega (arith, high_fits (is_in c.args.set.now) c.args.list.now c.loop-candidate.candidate-index c.requires.are, c.loop-candidate.invariant.high_is)

pub returns-clause-gain : goal.returns-clause-gain
returns-clause-gain c = gain_is (is_in c.args.set.now) c.args.list.now c.loop-candidate.candidate-index c.loop-candidate.widths c.loop-candidate.low c.loop-candidate.high _ _ c.requires.are (omega arith)
    c.loop-candidate.invariant.sums c.loop-candidate.invariant.low_is c.loop-candidate.invariant.high_is c.saturating_sub-hull.ensures c.saturating_sub.ensures
