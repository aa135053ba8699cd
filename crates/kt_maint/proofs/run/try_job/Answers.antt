use Rattle.std.proofs.Common.{sym, subst, ◌∙◌}
use Rattle.kt_seatlock.specs.Passes.{number, seen, part}
use Rattle.kt_maint.specs.Runs.{AddsStop}
use Rattle.kt_engine.specs.Calls.{SeesOthers, HasNoDevice, StandsStill}
use Rattle.kt_maint.specs.Calls.{AfterStart, SameUpkeep}
use Rattle.kt_maint.proofs.Between.{after_start}
use Rattle.kt_maint.proofs.Calling.{told_by, stands_still, still_itself, sees_stop}
use Rattle.kt_maint.proofs.run.try_job.Goals as goal

pub returns-clause-still : goal.returns-clause-still
returns-clause-still g c =
    let x = c.enter-engine.result in
    let y = c.start_now-start.new.engine in
    let by = c.number-by.result in
    let was = told_by (part c.args.pass.now) x (number c.args.pass.now) by c.enter-engine.ensures.part.0 (sym c.number-by.ensures) in
    let is = told_by (part c.leave.new.pass) y (number c.leave.new.pass) by c.leave.ensures.told.1 (c.leave.ensures.pass.0.1 ∙ c.enter-engine.ensures.pass.0.1 ∙ sym c.number-by.ensures) in
    stands_still (part c.args.pass.now) x by was c.requires.home (part c.leave.new.pass) y is c.start_now-start.ensures.visit c.start_now-start.ensures.still

pub returns-clause-quiet : goal.returns-clause-quiet
returns-clause-quiet g c =
    let x = c.enter-engine.result in
    sees_stop (number c.args.pass.now) (seen c.args.pass.now) x.tablet.core.trail (seen c.leave.new.pass) c.enter-engine.ensures.trail (subst (AddsStop x.tablet.core.trail) (sym c.leave.ensures.told.0) c.start_now-start.ensures.still.line)

pub returns-clause-start : goal.returns-clause-start
returns-clause-start g c =
    let x = c.enter-engine.result in
    let y = c.start_now-start.new.engine in
    let by = c.number-by.result in
    let was = told_by (part c.args.pass.now) x (number c.args.pass.now) by c.enter-engine.ensures.part.0 (sym c.number-by.ensures) in
    let is = told_by (part c.leave.new.pass) y (number c.leave.new.pass) by c.leave.ensures.told.1 (c.leave.ensures.pass.0.1 ∙ c.enter-engine.ensures.pass.0.1 ∙ sym c.number-by.ensures) in
    subst (λ n. AfterStart g.D.Disk.tells g.D.Disk.seen n c.args.want.now (part c.args.pass.now) (part c.leave.new.pass) (seen c.leave.new.pass) c.start_now-start.result) c.number-by.ensures
    (after_start (part c.args.pass.now) (part c.leave.new.pass) x y by was is c.start_now-start.ensures.visit c.requires.home g.D.Disk.tells g.D.Disk.seen c.args.want.now c.start_now-start.result (seen c.leave.new.pass) c.standing.ensures.stops c.leave.ensures.told.0 c.start_now-start.ensures.starts)

-- where it waits nothing has changed

pub leave_same-requires-clause-same : goal.leave_same-requires-clause-same
leave_same-requires-clause-same g c = c.enter-engine.ensures.got.0

pub returns-then-is_held-clause-still : goal.returns-then-is_held-clause-still
returns-then-is_held-clause-still g c =
    let x = c.enter-engine.result in
    let by = c.number-by.result in
    let was = told_by (part c.args.pass.now) x (number c.args.pass.now) by c.enter-engine.ensures.part.0 (sym c.number-by.ensures) in
    let is = told_by (part c.leave_same.new.pass) x (number c.leave_same.new.pass) by c.leave_same.ensures.told.1 (c.leave_same.ensures.pass.0.1 ∙ c.enter-engine.ensures.pass.0.1 ∙ sym c.number-by.ensures) in
    let same = was ∙ sym is in
    subst (StandsStill (part c.args.pass.now)) same (still_itself (part c.args.pass.now) c.requires.home).0

pub returns-then-is_held-clause-quiet : goal.returns-then-is_held-clause-quiet
returns-then-is_held-clause-quiet g c = subst (SeesOthers (number c.args.pass.now) (seen c.args.pass.now)) (sym c.leave_same.ensures.told.0) c.enter-engine.ensures.trail

pub returns-then-is_held-clause-start : goal.returns-then-is_held-clause-start
returns-then-is_held-clause-start g c =
    let x = c.enter-engine.result in
    let by = c.number-by.result in
    let was = told_by (part c.args.pass.now) x (number c.args.pass.now) by c.enter-engine.ensures.part.0 (sym c.number-by.ensures) in
    let is = told_by (part c.leave_same.new.pass) x (number c.leave_same.new.pass) by c.leave_same.ensures.told.1 (c.leave_same.ensures.pass.0.1 ∙ c.enter-engine.ensures.pass.0.1 ∙ sym c.number-by.ensures) in
    let same = was ∙ sym is in
    (subst (SameUpkeep (part c.args.pass.now)) same (still_itself (part c.args.pass.now) c.requires.home).1, subst HasNoDevice same c.requires.home)
