use Rattle.std.proofs.Common.{rules, List, Result, sym, ap, subst, ◌∙◌}
use Rattle.std.specs.Prelude.{OnErr}
use Rattle.kt_tablet.specs.declared.tablet.LookNo.{LookNo}
use Rattle.kt_pick.specs.declared.rules.Want.{Want}
use Rattle.kt_engine.specs.Jobs.{UpkeepView}
use Rattle.kt_engine.specs.JobSteps.{IsUntouched}
use Rattle.kt_seatlock.specs.Passes.{number, seen, part}
use Rattle.kt_maint.proofs.Calling.{told_by, beside_still, beside_home, job_stays, round_told, stop_told}
use Rattle.kt_maint.proofs.chore.begin_round.Goals as goal

pub returns-in-Ok-clause-still : goal.returns-in-Ok-clause-still
returns-in-Ok-clause-still g c =
    let x = c.enter-engine.result in
    let y = c.round-wants.new.self in
    let by = c.number-by.result in
    let was = told_by (part c.args.pass.now) x (number c.args.pass.now) by c.enter-engine.ensures.part.0 (sym c.number-by.ensures) in
    let is = told_by (part c.leave.new.pass) y (number c.leave.new.pass) by c.leave.ensures.told.1 (c.leave.ensures.pass.0.1 ∙ c.enter-engine.ensures.pass.0.1 ∙ sym c.number-by.ensures) in
    beside_still (part c.args.pass.now) x by was c.requires.home (part c.leave.new.pass) y is c.round-wants.ensures.visit c.round-wants.ensures.beside

pub returns-in-Ok-clause-home : goal.returns-in-Ok-clause-home
returns-in-Ok-clause-home g c =
    let x = c.enter-engine.result in
    let y = c.round-wants.new.self in
    let by = c.number-by.result in
    let was = told_by (part c.args.pass.now) x (number c.args.pass.now) by c.enter-engine.ensures.part.0 (sym c.number-by.ensures) in
    let is = told_by (part c.leave.new.pass) y (number c.leave.new.pass) by c.leave.ensures.told.1 (c.leave.ensures.pass.0.1 ∙ c.enter-engine.ensures.pass.0.1 ∙ sym c.number-by.ensures) in
    beside_home (part c.args.pass.now) x by was c.requires.home (part c.leave.new.pass) y is c.round-wants.ensures.visit c.round-wants.ensures.beside

pub returns-in-Err-Stopped-clause-still : goal.returns-in-Err-Stopped-clause-still
returns-in-Err-Stopped-clause-still g c =
    let x = c.enter-engine.result in
    let y = c.round-wants.new.self in
    let by = c.number-by.result in
    let was = told_by (part c.args.pass.now) x (number c.args.pass.now) by c.enter-engine.ensures.part.0 (sym c.number-by.ensures) in
    let is = told_by (part c.leave.new.pass) y (number c.leave.new.pass) by c.leave.ensures.told.1 (c.leave.ensures.pass.0.1 ∙ c.enter-engine.ensures.pass.0.1 ∙ sym c.number-by.ensures) in
    beside_still (part c.args.pass.now) x by was c.requires.home (part c.leave.new.pass) y is c.round-wants.ensures.visit c.round-wants.ensures.beside

pub returns-in-Err-Stopped-clause-home : goal.returns-in-Err-Stopped-clause-home
returns-in-Err-Stopped-clause-home g c =
    let x = c.enter-engine.result in
    let y = c.round-wants.new.self in
    let by = c.number-by.result in
    let was = told_by (part c.args.pass.now) x (number c.args.pass.now) by c.enter-engine.ensures.part.0 (sym c.number-by.ensures) in
    let is = told_by (part c.leave.new.pass) y (number c.leave.new.pass) by c.leave.ensures.told.1 (c.leave.ensures.pass.0.1 ∙ c.enter-engine.ensures.pass.0.1 ∙ sym c.number-by.ensures) in
    beside_home (part c.args.pass.now) x by was c.requires.home (part c.leave.new.pass) y is c.round-wants.ensures.visit c.round-wants.ensures.beside

pub returns-in-Err-Memory-clause-still : goal.returns-in-Err-Memory-clause-still
returns-in-Err-Memory-clause-still g c =
    let x = c.enter-engine.result in
    let y = c.round-wants.new.self in
    let by = c.number-by.result in
    let was = told_by (part c.args.pass.now) x (number c.args.pass.now) by c.enter-engine.ensures.part.0 (sym c.number-by.ensures) in
    let is = told_by (part c.leave.new.pass) y (number c.leave.new.pass) by c.leave.ensures.told.1 (c.leave.ensures.pass.0.1 ∙ c.enter-engine.ensures.pass.0.1 ∙ sym c.number-by.ensures) in
    beside_still (part c.args.pass.now) x by was c.requires.home (part c.leave.new.pass) y is c.round-wants.ensures.visit c.round-wants.ensures.beside

pub returns-in-Err-Memory-clause-home : goal.returns-in-Err-Memory-clause-home
returns-in-Err-Memory-clause-home g c =
    let x = c.enter-engine.result in
    let y = c.round-wants.new.self in
    let by = c.number-by.result in
    let was = told_by (part c.args.pass.now) x (number c.args.pass.now) by c.enter-engine.ensures.part.0 (sym c.number-by.ensures) in
    let is = told_by (part c.leave.new.pass) y (number c.leave.new.pass) by c.leave.ensures.told.1 (c.leave.ensures.pass.0.1 ∙ c.enter-engine.ensures.pass.0.1 ∙ sym c.number-by.ensures) in
    beside_home (part c.args.pass.now) x by was c.requires.home (part c.leave.new.pass) y is c.round-wants.ensures.visit c.round-wants.ensures.beside

pub returns-in-Ok-clause-begun : goal.returns-in-Ok-clause-begun
returns-in-Ok-clause-begun g c =
    let x = c.enter-engine.result in
    let y = c.round-wants.new.self in
    let by = c.number-by.result in
    let was = told_by (part c.args.pass.now) x (number c.args.pass.now) by c.enter-engine.ensures.part.0 (sym c.number-by.ensures) in
    let is = told_by (part c.leave.new.pass) y (number c.leave.new.pass) by c.leave.ensures.told.1 (c.leave.ensures.pass.0.1 ∙ c.enter-engine.ensures.pass.0.1 ∙ sym c.number-by.ensures) in
    round_told (part c.args.pass.now) x by was c.requires.home (part c.leave.new.pass) y is c.round-wants.ensures.visit c.args.chore c.in-Ok.wants c.in-Ok.ensures.begun

pub returns-in-Err-Stopped-clause-stopped : goal.returns-in-Err-Stopped-clause-stopped
returns-in-Err-Stopped-clause-stopped g c = λ e.
    let x = c.enter-engine.result in
    stop_told x (seen c.leave.new.pass) c.standing.ensures.stops (c.leave.ensures.told.0 ∙ ap (λ v. v.tablet.core.trail) c.round-wants.ensures.beside) (c.round-wants.ensures.goes (search rules))

pub returns-in-Ok-clause-none : goal.returns-in-Ok-clause-none
returns-in-Ok-clause-none g c =
    let x = c.enter-engine.result in
    let y = c.round-wants.new.self in
    let by = c.number-by.result in
    let was = told_by (part c.args.pass.now) x (number c.args.pass.now) by c.enter-engine.ensures.part.0 (sym c.number-by.ensures) in
    let is = told_by (part c.leave.new.pass) y (number c.leave.new.pass) by c.leave.ensures.told.1 (c.leave.ensures.pass.0.1 ∙ c.enter-engine.ensures.pass.0.1 ∙ sym c.number-by.ensures) in
    job_stays (part c.args.pass.now) x by was c.requires.home (part c.leave.new.pass) y is c.round-wants.ensures.visit (ap (λ (u : UpkeepView). u.job) c.in-Ok.ensures.begun.own)

pub returns-in-Err-Stopped-clause-none : goal.returns-in-Err-Stopped-clause-none
returns-in-Err-Stopped-clause-none g c =
    let x = c.enter-engine.result in
    let y = c.round-wants.new.self in
    let by = c.number-by.result in
    let was = told_by (part c.args.pass.now) x (number c.args.pass.now) by c.enter-engine.ensures.part.0 (sym c.number-by.ensures) in
    let is = told_by (part c.leave.new.pass) y (number c.leave.new.pass) by c.leave.ensures.told.1 (c.leave.ensures.pass.0.1 ∙ c.enter-engine.ensures.pass.0.1 ∙ sym c.number-by.ensures) in
    job_stays (part c.args.pass.now) x by was c.requires.home (part c.leave.new.pass) y is c.round-wants.ensures.visit (ap (λ (u : UpkeepView). u.job) ((subst (λ (r : Result (List Want) LookNo). OnErr r (IsUntouched x y)) c.in-Err-Stopped.is c.round-wants.ensures.same).same by))

pub returns-in-Err-Memory-clause-none : goal.returns-in-Err-Memory-clause-none
returns-in-Err-Memory-clause-none g c =
    let x = c.enter-engine.result in
    let y = c.round-wants.new.self in
    let by = c.number-by.result in
    let was = told_by (part c.args.pass.now) x (number c.args.pass.now) by c.enter-engine.ensures.part.0 (sym c.number-by.ensures) in
    let is = told_by (part c.leave.new.pass) y (number c.leave.new.pass) by c.leave.ensures.told.1 (c.leave.ensures.pass.0.1 ∙ c.enter-engine.ensures.pass.0.1 ∙ sym c.number-by.ensures) in
    job_stays (part c.args.pass.now) x by was c.requires.home (part c.leave.new.pass) y is c.round-wants.ensures.visit (ap (λ (u : UpkeepView). u.job) ((subst (λ (r : Result (List Want) LookNo). OnErr r (IsUntouched x y)) c.in-Err-Memory.is c.round-wants.ensures.same).same by))
