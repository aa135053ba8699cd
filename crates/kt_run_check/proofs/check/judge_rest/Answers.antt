use Rattle.std.proofs.Common.{ℕ, ◌+◌, List, subst}
use Rattle.kt_judge.specs.Openings.{past_of}
use Rattle.kt_judge.specs.Works.{work_of}
use Rattle.kt_opening.specs.OpeningTexts.{found_of}
use Rattle.kt_run_check.specs.Checks.{IsOutputJudged, said_in}
use Rattle.kt_run_check.proofs.Answered.{rest_judged}
use Rattle.kt_run_check.proofs.check.judge_rest.Goals as goal

pub returns-in_ok-answer-in-Ok : goal.returns-in_ok-answer-in-Ok
returns-in_ok-answer-in-Ok c =
    let read = c.in-Ok.field-0 in
    let answer = c.in_ok-answer-in-Ok.answer in
    rest_judged c.args.cells (said_in c.args.script.now) c.args.text.now c.args.begins (found_of read) answer c.in-Ok.ensures.read
    (subst (λ (text : List ℕ). IsOutputJudged (work_of c.args.cells c.args.script.now) (past_of read.opening) read.opening.c text (c.args.begins + read.at) answer) c.split_at.ensures.back c.in_ok-answer-in-Ok.ensures)
