use Rattle.std.proofs.Common.{◌≡◌, ◌+◌, length, ap, subst, arith, length-drop}
use Rattle.kt_script.specs.Places.{IsFault}
use Rattle.kt_script.specs.OutForms.{AreOutcomes}
use Rattle.kt_script.proofs.OutcomeBytes.{outcomes_more, outcomes_stop, outcome_some}
use Rattle.kt_script.proofs.out_fronts.outcomes_front.Goals as goal

pub outcomes-smaller : goal.outcomes-smaller
outcomes-smaller c =
    let within = c.in-Ok.ensures.0.within in
    let some = outcome_some c.args.text.now c.split_at.result.1.now c.outcomes.at c.in-Ok.n c.split_at.ensures.back c.in-Ok.ensures in
    omega (arith, within, some, ap length c.split_at.ensures.back, length-drop c.outcomes.at c.args.text.now, c.outcomes.invariant.within)

pub outcomes-preserved : goal.outcomes-preserved
outcomes-preserved c =
    let at = c.outcomes.at in
    let n = c.in-Ok.n in
    let within = c.in-Ok.ensures.0.within in
    record {
      within = omega (arith, within, ap length c.split_at.ensures.back, length-drop at c.args.text.now, c.outcomes.invariant.within);
      whole = λ m q.
          let same : at + (n + m) ≡ at + n + m = omega arith in
          subst (λ k. IsFault AreOutcomes c.args.text.now k) same
          (c.outcomes.invariant.whole (n + m) (outcomes_more c.args.text.now c.split_at.result.1.now at n c.split_at.ensures.back m c.in-Ok.ensures q));
    }

pub returns-in-Err : goal.returns-in-Err
returns-in-Err c = c.outcomes.invariant.whole c.in-Err.n (outcomes_stop c.args.text.now c.split_at.result.1.now c.outcomes.at c.in-Err.n c.split_at.ensures.back c.in-Err.ensures)
