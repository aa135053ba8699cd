use Rattle.std.proofs.Common.{ℕ, suc, arith, ap, length, subst}
use Rattle.kt_judge.specs.Works.{work_of}
use Rattle.kt_judge.specs.Replied.{IsFirstNot}
use Rattle.kt_judge.specs.Verdicts.{Stands}
use Rattle.kt_judge.proofs.Answering.{one_more, first_place, every_place}
use Rattle.kt_judge.proofs.wrong.first_wrong.Goals as goal

pub returns-in-Some : goal.returns-in-Some
returns-in-Some c = λ cells past last follows shows.
    first_place (work_of cells c.args.script.now) past last c.args.output.now c.loop-at.at c.in-Some.index (c.loop-at.invariant cells past last follows shows)
    (subst (IsFirstNot (λ j. Stands (work_of cells c.args.script.now) past last c.args.output.now (suc c.loop-at.at) j)) c.in-Some.is (c.in_ok-index.ensures cells past last follows shows))

pub loop-at-preserved : goal.loop-at-preserved
loop-at-preserved c = λ cells past last follows shows.
    one_more (λ k. (j : ℕ) → Stands (work_of cells c.args.script.now) past last c.args.output.now (suc k) j) c.loop-at.at (c.loop-at.invariant cells past last follows shows)
    (subst (IsFirstNot (λ j. Stands (work_of cells c.args.script.now) past last c.args.output.now (suc c.loop-at.at) j)) c.in-None.is (c.in_ok-index.ensures cells past last follows shows))

pub returns : goal.returns
returns c = λ cells past last follows shows.
    let plan = ap length c.as_slice-sessions.ensures in
    let replies = ap length c.as_slice-replies.ensures in
    let count = c.max-count.ensures in
    every_place (work_of cells c.args.script.now) past last c.args.output.now c.loop-at.at (omega arith) (omega arith) (c.loop-at.invariant cells past last follows shows)
