use Rattle.std.proofs.Common.{Some, sym, ap, subst, ◌∙◌}
use Rattle.kt_seatlock.specs.Passes.{number, seen, part}
use Rattle.kt_engine.specs.Calls.{SeesOthers, HasNoDevice, StandsStill}
use Rattle.kt_engine.specs.Visits.{part_in}
use Rattle.kt_maint.specs.Calls.{HasAway, LeavesNoJob}
use Rattle.kt_maint.specs.Work.{LeftNone, TookAs}
use Rattle.kt_maint.specs.Runs.{AddsStop}
use Rattle.kt_maint.proofs.Calling.{told_by, left_told, stands_still, no_device_told, still_then, sees_stop, sees_then}
use Rattle.kt_maint.specs.declared.jobs.Start.TheVariants as start
use Rattle.kt_maint.proofs.work.take_step.Goals as goal

pub leave_as-requires-clause-same : goal.leave_as-requires-clause-same
leave_as-requires-clause-same g c = λ e. c.enter-engine.ensures.got.0 ∙ ap Some (sym (c.turn-took.ensures.same (c.changes.ensures e)))

pub returns-in-Over-clause-still : goal.returns-in-Over-clause-still
returns-in-Over-clause-still g c =
    let x = c.enter-engine.result in
    let y = c.turn-took.new.engine in
    let by = c.number-by.result in
    let was = told_by (part c.args.pass.now) x (number c.args.pass.now) by c.enter-engine.ensures.part.0 (sym c.number-by.ensures) in
    let is = told_by (part c.leave_as.new.pass) y (number c.leave_as.new.pass) by c.leave_as.ensures.told.1 (c.leave_as.ensures.pass.0.1 ∙ c.enter-engine.ensures.pass.0.1 ∙ sym c.number-by.ensures) in
    subst (StandsStill (part c.args.pass.now)) (sym (ap (λ m. m.0.part) c.wait.ensures.2)) (stands_still (part c.args.pass.now) x by was c.requires.home (part c.leave_as.new.pass) y is c.turn-took.ensures.visit c.turn-took.ensures.still)

pub returns-in-Over-clause-home : goal.returns-in-Over-clause-home
returns-in-Over-clause-home g c =
    let x = c.enter-engine.result in
    let y = c.turn-took.new.engine in
    let by = c.number-by.result in
    let was = told_by (part c.args.pass.now) x (number c.args.pass.now) by c.enter-engine.ensures.part.0 (sym c.number-by.ensures) in
    let is = told_by (part c.leave_as.new.pass) y (number c.leave_as.new.pass) by c.leave_as.ensures.told.1 (c.leave_as.ensures.pass.0.1 ∙ c.enter-engine.ensures.pass.0.1 ∙ sym c.number-by.ensures) in
    subst HasNoDevice (sym (ap (λ m. m.0.part) c.wait.ensures.2)) (no_device_told (part c.args.pass.now) x by was c.requires.home (part c.leave_as.new.pass) y is c.turn-took.ensures.visit (subst (TookAs g.D.Disk.tells g.D.Disk.seen by y) c.in-Over.is c.turn-took.ensures.took))

pub returns-in-Over-clause-quiet : goal.returns-in-Over-clause-quiet
returns-in-Over-clause-quiet g c =
    let x = c.enter-engine.result in
    subst (SeesOthers (number c.args.pass.now) (seen c.args.pass.now)) (sym (ap (λ m. m.0.seen) c.wait.ensures.2))
    (sees_stop (number c.args.pass.now) (seen c.args.pass.now) x.tablet.core.trail (seen c.leave_as.new.pass) c.enter-engine.ensures.trail (subst (AddsStop x.tablet.core.trail) (sym c.leave_as.ensures.told.0) c.turn-took.ensures.still.line))

-- a compaction goes outside
pub finish-requires-clause-away : goal.finish-requires-clause-away
finish-requires-clause-away g c =
    let y = c.turn-took.new.engine in
    let by = c.number-by.result in
    let away = subst (TookAs g.D.Disk.tells g.D.Disk.seen by y) c.in-Out.is c.turn-took.ensures.took in
    let n = number c.leave_as.new.pass in
    let same = c.leave_as.ensures.pass.0.1 ∙ c.enter-engine.ensures.pass.0.1 ∙ sym c.number-by.ensures in
    let is = told_by (part c.leave_as.new.pass) y n by c.leave_as.ensures.told.1 same in
    subst (λ k. HasAway g.D.Disk.tells g.D.Disk.seen k c.in-Out.out (part c.leave_as.new.pass)) (sym same) (record { want = away.0; part = part_in y by; is = is; away = away.1 })

pub returns-in-Out-clause-still : goal.returns-in-Out-clause-still
returns-in-Out-clause-still g c =
    let x = c.enter-engine.result in
    let y = c.turn-took.new.engine in
    let by = c.number-by.result in
    let was = told_by (part c.args.pass.now) x (number c.args.pass.now) by c.enter-engine.ensures.part.0 (sym c.number-by.ensures) in
    let is = told_by (part c.leave_as.new.pass) y (number c.leave_as.new.pass) by c.leave_as.ensures.told.1 (c.leave_as.ensures.pass.0.1 ∙ c.enter-engine.ensures.pass.0.1 ∙ sym c.number-by.ensures) in
    still_then (part c.args.pass.now) (part c.leave_as.new.pass) (part c.finish.new.pass) (stands_still (part c.args.pass.now) x by was c.requires.home (part c.leave_as.new.pass) y is c.turn-took.ensures.visit c.turn-took.ensures.still) c.finish.ensures.still

pub returns-in-Out-clause-quiet : goal.returns-in-Out-clause-quiet
returns-in-Out-clause-quiet g c =
    let x = c.enter-engine.result in
    let n = number c.args.pass.now in
    let second = subst (λ k. SeesOthers k (seen c.leave_as.new.pass) (seen c.finish.new.pass)) (c.leave_as.ensures.pass.0.1 ∙ c.enter-engine.ensures.pass.0.1) c.finish.ensures.quiet in
    sees_then n (seen c.args.pass.now) (seen c.leave_as.new.pass) (seen c.finish.new.pass)
    (sees_stop n (seen c.args.pass.now) x.tablet.core.trail (seen c.leave_as.new.pass) c.enter-engine.ensures.trail (subst (AddsStop x.tablet.core.trail) (sym c.leave_as.ensures.told.0) c.turn-took.ensures.still.line)) second

-- no job is left

pub returns-in-Over-clause-none : goal.returns-in-Over-clause-none
returns-in-Over-clause-none g c =
    let x = c.enter-engine.result in
    let y = c.turn-took.new.engine in
    let by = c.number-by.result in
    let was = told_by (part c.args.pass.now) x (number c.args.pass.now) by c.enter-engine.ensures.part.0 (sym c.number-by.ensures) in
    let is = told_by (part c.leave_as.new.pass) y (number c.leave_as.new.pass) by c.leave_as.ensures.told.1 (c.leave_as.ensures.pass.0.1 ∙ c.enter-engine.ensures.pass.0.1 ∙ sym c.number-by.ensures) in
    let left = left_told (part c.args.pass.now) x by was c.requires.home (part c.leave_as.new.pass) y is c.turn-took.ensures.visit c.in-Over.step (seen c.leave_as.new.pass) c.standing.ensures.stops c.leave_as.ensures.told.0 (subst (LeftNone by x y) c.in-Over.is c.turn-took.ensures.none) in
    subst (λ told. LeavesNoJob (part c.args.pass.now) told (seen c.wait.new.pass)) (sym (ap (λ m. m.0.part) c.wait.ensures.2)) (subst (LeavesNoJob (part c.args.pass.now) (part c.leave_as.new.pass)) (sym (ap (λ m. m.0.seen) c.wait.ensures.2)) left)

pub returns-in-Out-clause-none : goal.returns-in-Out-clause-none
returns-in-Out-clause-none g c = λ none. c.finish.ensures.none

-- the points of its job

pub returns-in-Out-clause-points : goal.returns-in-Out-clause-points
returns-in-Out-clause-points g c = λ worked. (c.pulse-job.result.begun, c.finish.ensures.points worked)

-- a turn by itself runs no job
pub returns-in-Over-clause-points : goal.returns-in-Over-clause-points
returns-in-Over-clause-points g c = λ worked. absurd (c.turn-took.ensures.worked (c.in-Over.is ∙ ap start.Over worked))
