use Rattle.std.proofs.Common.{None, rules, ap, ◌∙◌}
use Rattle.kt_serve.proofs.Marks.{may_mark, after_mark}
use Rattle.kt_serve.proofs.Begins.{same_root, free_turn}
use Rattle.kt_serve.proofs.Open.{is_open}
use Rattle.kt_serve.proofs.Stills.{still_tablet, still_going}
use Rattle.kt_serve.proofs.Commands.{free_log}
use Rattle.kt_serve.proofs.Ends.{after_stop, log_stays}
use Rattle.kt_serve.proofs.Rests.{upkeep_stays}
use Rattle.kt_serve.proofs.visits.mark_once.Goals as goal

pub mark-marked-requires : goal.mark-marked-requires
mark-marked-requires g c = λ _. may_mark _ c.enter-engine.result _ c.number-by.result c.args.index c.args.to c.enter-engine.ensures.part.0 c.number-by.ensures c.requires.next c.requires.command c.requires.few

pub returns-in-Ok-clause-reply : goal.returns-in-Ok-clause-reply
returns-in-Ok-clause-reply g c = after_mark _ _ _ _ c.enter-engine.result c.mark-marked.new.self _ _ c.number-by.result c.args.index c.args.to _ c.enter-engine.ensures.part.0 c.leave.ensures.told.1 (c.leave.ensures.pass.0.1 ∙ c.enter-engine.ensures.pass.0.1) c.number-by.ensures c.requires.next c.enter-engine.ensures.trail c.leave.ensures.told.0 c.in-Ok.ensures.marked (ap (λ v. v.log) c.mark-marked.ensures.beside)

pub returns-in-Ok-clause-home : goal.returns-in-Ok-clause-home
returns-in-Ok-clause-home g c = log_stays _ _ c.enter-engine.result c.mark-marked.new.self _ _ c.enter-engine.ensures.part.0 c.leave.ensures.told.1 (c.leave.ensures.pass.0.1 ∙ c.enter-engine.ensures.pass.0.1) (free_log _ _ c.requires.next) (ap (λ v. v.log.holder) c.mark-marked.ensures.beside) (ap (λ v. v.log.out) c.mark-marked.ensures.beside)

pub returns-in-Ok-clause-root : goal.returns-in-Ok-clause-root
returns-in-Ok-clause-root g c = same_root _ _ c.enter-engine.result c.mark-marked.new.self c.number-by.result _ _ c.enter-engine.ensures.part.0 c.leave.ensures.told.1 c.mark-marked.ensures.visit

pub returns-in-Err-Stopped-clause-home : goal.returns-in-Err-Stopped-clause-home
returns-in-Err-Stopped-clause-home g c = log_stays _ _ c.enter-engine.result c.mark-marked.new.self _ _ c.enter-engine.ensures.part.0 c.leave.ensures.told.1 (c.leave.ensures.pass.0.1 ∙ c.enter-engine.ensures.pass.0.1) (free_log _ _ c.requires.next) (ap (λ v. v.log.holder) c.mark-marked.ensures.beside) (ap (λ v. v.log.out) c.mark-marked.ensures.beside)

pub returns-in-Err-Stopped-clause-reply : goal.returns-in-Err-Stopped-clause-reply
returns-in-Err-Stopped-clause-reply g c = after_stop _ _ _ _ c.enter-engine.result c.mark-marked.new.self c.number-by.result _ _ c.enter-engine.ensures.part.0 c.leave.ensures.told.1 (c.leave.ensures.pass.0.1 ∙ c.enter-engine.ensures.pass.0.1) c.enter-engine.ensures.trail c.leave.ensures.told.0
    c.standing.ensures.stops c.mark-marked.ensures.visit (rw c.in-Err-Stopped.is at c.mark-marked.ensures.same) (c.mark-marked.ensures.goes (search rules))

pub returns-in-Err-Memory-clause-home : goal.returns-in-Err-Memory-clause-home
returns-in-Err-Memory-clause-home g c = log_stays _ _ c.enter-engine.result c.mark-marked.new.self _ _ c.enter-engine.ensures.part.0 c.leave.ensures.told.1 (c.leave.ensures.pass.0.1 ∙ c.enter-engine.ensures.pass.0.1) (free_log _ _ c.requires.next) (ap (λ v. v.log.holder) c.mark-marked.ensures.beside) (ap (λ v. v.log.out) c.mark-marked.ensures.beside)

pub returns-in-Err-Memory-clause-memory : goal.returns-in-Err-Memory-clause-memory
returns-in-Err-Memory-clause-memory g c = still_going _ _ _ _ _ (still_tablet _ _ _ _ c.enter-engine.result c.mark-marked.new.self c.number-by.result _ _ c.enter-engine.ensures.part.0 c.leave.ensures.told.1 (c.leave.ensures.pass.0.1 ∙ c.enter-engine.ensures.pass.0.1) c.enter-engine.ensures.trail c.leave.ensures.told.0 c.mark-marked.ensures.visit (ap (λ v. v.tablet) (rw c.in-Err-Memory.is at c.mark-marked.ensures.same)))

pub returns-in-Ok-clause-open : goal.returns-in-Ok-clause-open
returns-in-Ok-clause-open g c = is_open _ c.enter-engine.result _ c.args.index None _ g.C.Clock.readings c.enter-engine.ensures.part.0 (free_turn _ _ c.enter-engine.result _ c.requires.next c.enter-engine.ensures.part.0) c.enter-engine.ensures.trail c.standing.ensures.sound

pub returns-in-Err-Stopped-clause-open : goal.returns-in-Err-Stopped-clause-open
returns-in-Err-Stopped-clause-open g c = is_open _ c.enter-engine.result _ c.args.index None _ g.C.Clock.readings c.enter-engine.ensures.part.0 (free_turn _ _ c.enter-engine.result _ c.requires.next c.enter-engine.ensures.part.0) c.enter-engine.ensures.trail c.standing.ensures.sound

pub returns-in-Ok-clause-upkeep : goal.returns-in-Ok-clause-upkeep
returns-in-Ok-clause-upkeep g c = upkeep_stays _ _ c.enter-engine.result c.mark-marked.new.self _ _ c.enter-engine.ensures.part.0 c.leave.ensures.told.1 (c.leave.ensures.pass.0.1 ∙ c.enter-engine.ensures.pass.0.1) (ap (λ v. v.store) c.mark-marked.ensures.beside) (ap (λ v. v.upkeep) c.mark-marked.ensures.beside)

pub returns-in-Err-Stopped-clause-upkeep : goal.returns-in-Err-Stopped-clause-upkeep
returns-in-Err-Stopped-clause-upkeep g c = upkeep_stays _ _ c.enter-engine.result c.mark-marked.new.self _ _ c.enter-engine.ensures.part.0 c.leave.ensures.told.1 (c.leave.ensures.pass.0.1 ∙ c.enter-engine.ensures.pass.0.1) (ap (λ v. v.store) c.mark-marked.ensures.beside) (ap (λ v. v.upkeep) c.mark-marked.ensures.beside)

pub returns-in-Err-Memory-clause-upkeep : goal.returns-in-Err-Memory-clause-upkeep
returns-in-Err-Memory-clause-upkeep g c = upkeep_stays _ _ c.enter-engine.result c.mark-marked.new.self _ _ c.enter-engine.ensures.part.0 c.leave.ensures.told.1 (c.leave.ensures.pass.0.1 ∙ c.enter-engine.ensures.pass.0.1) (ap (λ v. v.store) c.mark-marked.ensures.beside) (ap (λ v. v.upkeep) c.mark-marked.ensures.beside)
