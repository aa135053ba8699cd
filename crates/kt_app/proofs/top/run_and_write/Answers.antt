use Rattle.kt_app.proofs.RunLaws.{ran_as}
use Rattle.kt_app.proofs.top.run_and_write.Goals as goal

pub returns-in-Some-clause-printed : goal.returns-in-Some-clause-printed
returns-in-Some-clause-printed g c = λ e.
    let run = rw c.in-Some.is at c.run_plan-output.ensures.run in
    let w = c.write_output.ensures.printed e in
    (c.in-Some.output.text, w.1, λ first opens. ran_as w.0 (run first opens))

pub returns-in-Some-clause-stopped : goal.returns-in-Some-clause-stopped
returns-in-Some-clause-stopped g c = λ e.
    let run = rw c.in-Some.is at c.run_plan-output.ensures.run in
    let w = c.write_output.ensures.stopped e in
    (c.in-Some.output.text, w.1, λ first opens. ran_as w.0 (run first opens))

pub returns-in-Some-clause-cut : goal.returns-in-Some-clause-cut
returns-in-Some-clause-cut g c = λ e.
    let run = rw c.in-Some.is at c.run_plan-output.ensures.run in
    let w = c.write_output.ensures.cut e in
    (c.in-Some.output.text, c.in-Some.output.stopped, w.1, run, rw c.in-Some.is at c.run_plan-output.ensures.fault)
