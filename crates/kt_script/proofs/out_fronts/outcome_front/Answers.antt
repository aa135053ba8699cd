use Rattle.std.proofs.Common.{◌≡◌, ℕ, List, [], ◌∷◌, take, true, sym, ap, subst, ◌∙◌, arith}
use Rattle.std.specs.Prelude.{is_some}
use Rattle.kt_script.specs.Places.{IsFault}
use Rattle.kt_script.specs.Fronts.{IsWord}
use Rattle.kt_script.specs.Outputs.{outcome_in}
use Rattle.kt_script.proofs.OutcomeBytes.{outcome_missing, outcome_there, outcome_wrong}
use Rattle.kt_script.proofs.out_fronts.outcome_front.Goals as goal

pub returns-then-space-eq0 : goal.returns-then-space-eq0
returns-then-space-eq0 c = outcome_missing c.args.text.now (subst (λ n. IsFault (IsWord (32 ∷ [])) c.args.text.now n) c.if-space-eq0.true c.word_front-space.ensures)

pub returns-in-Some : goal.returns-in-Some
returns-in-Some c =
    let other = c.if-space-eq0.false in
    outcome_there c.args.text.now c.split_at.result.1.now c.word_front-space.result c.one_outcome_front-at.result c.word_front-space.ensures (omega arith) c.split_at.ensures.back c.one_outcome_front-at.ensures
    (ap (λ (w : List ℕ). is_some (outcome_in w)) (sym c.split_at-2.ensures.front) ∙ ap is_some (sym c.in-Some.ensures))

pub returns-in-None : goal.returns-in-None
returns-in-None c =
    let other = c.if-space-eq0.false in
    outcome_wrong c.args.text.now c.split_at.result.1.now c.word_front-space.result c.one_outcome_front-at.result c.word_front-space.ensures (omega arith) c.split_at.ensures.back c.one_outcome_front-at.ensures
    (λ o. let e : is_some (outcome_in (take c.one_outcome_front-at.result c.split_at.result.1.now)) ≡ true = o in let none = ap (λ (w : List ℕ). is_some (outcome_in w)) (sym c.split_at-2.ensures.front) ∙ ap is_some (sym c.in-None.ensures) in cc)
