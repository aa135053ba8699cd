use Rattle.kt_opening.proofs.line_fronts.count_front.Goals as goal

pub returns-in-Ok : goal.returns-in-Ok
returns-in-Ok c = c.in-Ok.ensures.0

pub returns-in-Err : goal.returns-in-Err
returns-in-Err c = c.in-Err.ensures.0
