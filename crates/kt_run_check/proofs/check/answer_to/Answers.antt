use Rattle.std.proofs.Common.{ℕ, List, take, drop, ap, sym, ◌∙◌, subst, arith}
use Rattle.kt_script.specs.Scripts.{script_of}
use Rattle.kt_run_check.specs.Sources.{script_len}
use Rattle.kt_run_check.specs.Checks.{IsRestJudged, said_in}
use Rattle.kt_run_check.proofs.Answered.{answered_so}
use Rattle.kt_run_check.proofs.check.answer_to.Goals as goal

pub returns-in_ok-answer-in-Ok : goal.returns-in_ok-answer-in-Ok
returns-in_ok-answer-in-Ok c =
    let text = c.args.text.now in
    let said = said_in c.in-Ok.script in
    let answer = c.in_ok-answer-in-Ok.answer in
    let len = c.script_len.ensures.len in
    answered_so c.args.cells text said answer (omega arith) (ap script_of (ap (λ n. take n text) (sym len) ∙ sym c.split_at.ensures.front) ∙ c.in-Ok.ensures.script)
    (subst (λ (rest : List ℕ). IsRestJudged c.args.cells said rest (script_len text) answer) (c.split_at.ensures.back ∙ ap (λ n. drop n text) len)
    (subst (λ (begins : ℕ). IsRestJudged c.args.cells said c.split_at.result.1.now begins answer) (c.split_at.ensures.front_len ∙ len) c.in_ok-answer-in-Ok.ensures))
