use Rattle.std.proofs.Common.{sym, subst, ◌∙◌}
use Rattle.kt_seatlock.specs.Passes.{number, seen, part}
use Rattle.kt_engine.specs.Visits.{part_in}
use Rattle.kt_maint.specs.Reworks.{HasComeBy}
use Rattle.kt_maint.specs.Runs.{AddsStop}
use Rattle.kt_maint.proofs.Between.{still_told, after_end, job_of_come}
use Rattle.kt_maint.proofs.Calling.{told_by, sees_stop}
use Rattle.kt_maint.proofs.Stages.{some_is}
use Rattle.kt_maint.proofs.run.end_job.Goals as goal

pub end_away-ended-requires-clause-come : goal.end_away-ended-requires-clause-come
end_away-ended-requires-clause-come g c =
    let x = c.enter_quiet-engine.result in
    let by = c.number-by.result in
    let was = told_by (part c.args.pass.now) x (number c.args.pass.now) by c.enter_quiet-engine.ensures.part.0 (sym c.number-by.ensures) in
    subst (λ p. HasComeBy g.D.Disk.tells g.D.Disk.seen g.D.Disk.now g.D.Disk.leaves g.D.Disk.faults by c.args.came p) (some_is c.requires.comes.part (part_in x by) (sym c.requires.comes.is ∙ was))
    (subst (λ n. HasComeBy g.D.Disk.tells g.D.Disk.seen g.D.Disk.now g.D.Disk.leaves g.D.Disk.faults n c.args.came c.requires.comes.part) (sym c.number-by.ensures) c.requires.comes.come)

pub returns-clause-still : goal.returns-clause-still
returns-clause-still g c =
    let x = c.enter_quiet-engine.result in
    let y = c.end_away-ended.new.engine in
    let by = c.number-by.result in
    let was = told_by (part c.args.pass.now) x (number c.args.pass.now) by c.enter_quiet-engine.ensures.part.0 (sym c.number-by.ensures) in
    let is = told_by (part c.leave.new.pass) y (number c.leave.new.pass) by c.leave.ensures.told.1 (c.leave.ensures.pass.0.1 ∙ c.enter_quiet-engine.ensures.pass.0.1 ∙ sym c.number-by.ensures) in
    still_told (part c.args.pass.now) (part c.leave.new.pass) x y by was is c.end_away-ended.ensures.visit c.end_away-ended.ensures.still

pub returns-clause-quiet : goal.returns-clause-quiet
returns-clause-quiet g c =
    let x = c.enter_quiet-engine.result in
    sees_stop (number c.args.pass.now) (seen c.args.pass.now) x.tablet.core.trail (seen c.leave.new.pass) c.enter_quiet-engine.ensures.trail (subst (AddsStop x.tablet.core.trail) (sym c.leave.ensures.told.0) c.end_away-ended.ensures.still.line)

pub returns-clause-end : goal.returns-clause-end
returns-clause-end g c =
    let x = c.enter_quiet-engine.result in
    let y = c.end_away-ended.new.engine in
    let by = c.number-by.result in
    let was = told_by (part c.args.pass.now) x (number c.args.pass.now) by c.enter_quiet-engine.ensures.part.0 (sym c.number-by.ensures) in
    let is = told_by (part c.leave.new.pass) y (number c.leave.new.pass) by c.leave.ensures.told.1 (c.leave.ensures.pass.0.1 ∙ c.enter_quiet-engine.ensures.pass.0.1 ∙ sym c.number-by.ensures) in
    let come = subst (λ p. HasComeBy g.D.Disk.tells g.D.Disk.seen g.D.Disk.now g.D.Disk.leaves g.D.Disk.faults by c.args.came p) (some_is c.requires.comes.part (part_in x by) (sym c.requires.comes.is ∙ was))
    (subst (λ n. HasComeBy g.D.Disk.tells g.D.Disk.seen g.D.Disk.now g.D.Disk.leaves g.D.Disk.faults n c.args.came c.requires.comes.part) (sym c.number-by.ensures) c.requires.comes.come) in
    let its = job_of_come g.D.Disk.tells g.D.Disk.seen g.D.Disk.now g.D.Disk.leaves g.D.Disk.faults by c.args.came x come in
    after_end (part c.args.pass.now) (part c.leave.new.pass) x y by was is c.end_away-ended.ensures.visit its.0 its.1 c.end_away-ended.result (seen c.leave.new.pass) c.standing.ensures.stops c.leave.ensures.told.0 (c.end_away-ended.ensures.ends its.0 its.1) c.end_away-ended.ensures.reads
