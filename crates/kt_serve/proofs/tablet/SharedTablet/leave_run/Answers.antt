use Rattle.std.proofs.Common.{◌≡◌, ap, sym, ◌∙◌}
use Rattle.kt_seatlock.specs.Passes.{number}
use Rattle.kt_serve.proofs.Stills.{still_tablet, stop_later}
use Rattle.kt_serve.proofs.Ends.{log_stays, has_left}
use Rattle.kt_serve.proofs.Rests.{upkeep_stays}
use Rattle.kt_serve.proofs.tablet.SharedTablet.leave_run.Goals as goal

pub returns-clause-still : goal.returns-clause-still
returns-clause-still g c = still_tablet _ _ _ _ c.enter-engine.result c.session_over.new.self c.number-by.result _ _ c.enter-engine.ensures.part.0 c.leave.ensures.told.1 (c.leave.ensures.pass.0.1 ∙ c.enter-engine.ensures.pass.0.1) c.enter-engine.ensures.trail c.leave.ensures.told.0 c.session_over.ensures.visit (ap (λ v. v.tablet) c.session_over.ensures.running)

pub returns-clause-log : goal.returns-clause-log
returns-clause-log g c = λ h. log_stays _ _ c.enter-engine.result c.session_over.new.self _ _ c.enter-engine.ensures.part.0 c.leave.ensures.told.1 (c.leave.ensures.pass.0.1 ∙ c.enter-engine.ensures.pass.0.1) h (ap (λ v. v.log.holder) c.session_over.ensures.running) (ap (λ v. v.log.out) c.session_over.ensures.running)

pub returns-clause-stop : goal.returns-clause-stop
returns-clause-stop g c = λ h. stop_later _ _ _ _ c.enter-engine.ensures.trail (c.leave.ensures.told.0 ∙ ap (λ v. v.tablet.core.trail) c.session_over.ensures.running) h

pub returns-clause-left : goal.returns-clause-left
returns-clause-left g c =
    let same : number c.leave.new.pass ≡ c.number-by.result = c.leave.ensures.pass.0.1 ∙ c.enter-engine.ensures.pass.0.1 ∙ sym c.number-by.ensures in
    has_left _ c.enter-engine.result c.session_over.new.self c.number-by.result _ c.leave.ensures.told.1 same (ap (λ v. v.running) c.session_over.ensures.running)

pub returns-clause-upkeep : goal.returns-clause-upkeep
returns-clause-upkeep g c = upkeep_stays _ _ c.enter-engine.result c.session_over.new.self _ _ c.enter-engine.ensures.part.0 c.leave.ensures.told.1 (c.leave.ensures.pass.0.1 ∙ c.enter-engine.ensures.pass.0.1) (ap (λ v. v.store) c.session_over.ensures.running) (ap (λ v. v.upkeep) c.session_over.ensures.running)
