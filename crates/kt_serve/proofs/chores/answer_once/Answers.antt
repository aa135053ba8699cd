use Rattle.std.proofs.Common.{None, rules, ap, ◌∙◌}
use Rattle.kt_serve.proofs.Maintained.{may_answer, is_through, after_chore}
use Rattle.kt_serve.proofs.Begins.{same_root, free_turn}
use Rattle.kt_serve.proofs.Open.{is_open}
use Rattle.kt_serve.proofs.Stills.{still_tablet, still_going}
use Rattle.kt_serve.proofs.Commands.{free_log}
use Rattle.kt_serve.proofs.Ends.{after_stop, log_stays}
use Rattle.kt_serve.proofs.Rests.{upkeep_stays}
use Rattle.kt_serve.proofs.chores.answer_once.Goals as goal

pub chore_done-answered-requires-clause-may : goal.chore_done-answered-requires-clause-may
chore_done-answered-requires-clause-may g c = λ _. may_answer _ c.enter-engine.result _ c.number-by.result c.args.index c.args.chore c.enter-engine.ensures.part.0 c.number-by.ensures c.requires.next c.requires.command

pub chore_done-answered-requires-clause-through : goal.chore_done-answered-requires-clause-through
chore_done-answered-requires-clause-through g c = λ other at. is_through _ c.enter-engine.result _ c.number-by.result c.args.index c.args.chore other c.enter-engine.ensures.part.0 c.number-by.ensures c.requires.command c.requires.done at

pub returns-in-Ok-clause-reply : goal.returns-in-Ok-clause-reply
returns-in-Ok-clause-reply g c = after_chore _ _ _ _ c.enter-engine.result c.chore_done-answered.new.self _ _ c.number-by.result c.args.index c.enter-engine.ensures.part.0 c.leave.ensures.told.1 (c.leave.ensures.pass.0.1 ∙ c.enter-engine.ensures.pass.0.1) c.number-by.ensures c.requires.next c.enter-engine.ensures.trail c.leave.ensures.told.0 c.in-Ok.ensures.answered

pub returns-in-Ok-clause-home : goal.returns-in-Ok-clause-home
returns-in-Ok-clause-home g c = log_stays _ _ c.enter-engine.result c.chore_done-answered.new.self _ _ c.enter-engine.ensures.part.0 c.leave.ensures.told.1 (c.leave.ensures.pass.0.1 ∙ c.enter-engine.ensures.pass.0.1) (free_log _ _ c.requires.next) (ap (λ v. v.log.holder) c.in-Ok.ensures.answered) (ap (λ v. v.log.out) c.in-Ok.ensures.answered)

pub returns-in-Ok-clause-root : goal.returns-in-Ok-clause-root
returns-in-Ok-clause-root g c = same_root _ _ c.enter-engine.result c.chore_done-answered.new.self c.number-by.result _ _ c.enter-engine.ensures.part.0 c.leave.ensures.told.1 c.chore_done-answered.ensures.visit

pub returns-in-Err-Stopped-clause-home : goal.returns-in-Err-Stopped-clause-home
returns-in-Err-Stopped-clause-home g c = log_stays _ _ c.enter-engine.result c.chore_done-answered.new.self _ _ c.enter-engine.ensures.part.0 c.leave.ensures.told.1 (c.leave.ensures.pass.0.1 ∙ c.enter-engine.ensures.pass.0.1) (free_log _ _ c.requires.next) (ap (λ v. v.log.holder) (rw c.in-Err-Stopped.is at c.chore_done-answered.ensures.same)) (ap (λ v. v.log.out) (rw c.in-Err-Stopped.is at c.chore_done-answered.ensures.same))

pub returns-in-Err-Stopped-clause-reply : goal.returns-in-Err-Stopped-clause-reply
returns-in-Err-Stopped-clause-reply g c = after_stop _ _ _ _ c.enter-engine.result c.chore_done-answered.new.self c.number-by.result _ _ c.enter-engine.ensures.part.0 c.leave.ensures.told.1 (c.leave.ensures.pass.0.1 ∙ c.enter-engine.ensures.pass.0.1) c.enter-engine.ensures.trail c.leave.ensures.told.0
    c.standing.ensures.stops c.chore_done-answered.ensures.visit (rw c.in-Err-Stopped.is at c.chore_done-answered.ensures.same) (c.chore_done-answered.ensures.goes (search rules))

pub returns-in-Err-Memory-clause-home : goal.returns-in-Err-Memory-clause-home
returns-in-Err-Memory-clause-home g c = log_stays _ _ c.enter-engine.result c.chore_done-answered.new.self _ _ c.enter-engine.ensures.part.0 c.leave.ensures.told.1 (c.leave.ensures.pass.0.1 ∙ c.enter-engine.ensures.pass.0.1) (free_log _ _ c.requires.next) (ap (λ v. v.log.holder) (rw c.in-Err-Memory.is at c.chore_done-answered.ensures.same)) (ap (λ v. v.log.out) (rw c.in-Err-Memory.is at c.chore_done-answered.ensures.same))

pub returns-in-Err-Memory-clause-memory : goal.returns-in-Err-Memory-clause-memory
returns-in-Err-Memory-clause-memory g c = still_going _ _ _ _ _ (still_tablet _ _ _ _ c.enter-engine.result c.chore_done-answered.new.self c.number-by.result _ _ c.enter-engine.ensures.part.0 c.leave.ensures.told.1 (c.leave.ensures.pass.0.1 ∙ c.enter-engine.ensures.pass.0.1) c.enter-engine.ensures.trail c.leave.ensures.told.0 c.chore_done-answered.ensures.visit (ap (λ v. v.tablet) (rw c.in-Err-Memory.is at c.chore_done-answered.ensures.same)))

pub returns-in-Ok-clause-open : goal.returns-in-Ok-clause-open
returns-in-Ok-clause-open g c = is_open _ c.enter-engine.result _ c.args.index None _ g.C.Clock.readings c.enter-engine.ensures.part.0 (free_turn _ _ c.enter-engine.result _ c.requires.next c.enter-engine.ensures.part.0) c.enter-engine.ensures.trail c.standing.ensures.sound

pub returns-in-Err-Stopped-clause-open : goal.returns-in-Err-Stopped-clause-open
returns-in-Err-Stopped-clause-open g c = is_open _ c.enter-engine.result _ c.args.index None _ g.C.Clock.readings c.enter-engine.ensures.part.0 (free_turn _ _ c.enter-engine.result _ c.requires.next c.enter-engine.ensures.part.0) c.enter-engine.ensures.trail c.standing.ensures.sound

pub returns-in-Ok-clause-upkeep : goal.returns-in-Ok-clause-upkeep
returns-in-Ok-clause-upkeep g c = upkeep_stays _ _ c.enter-engine.result c.chore_done-answered.new.self _ _ c.enter-engine.ensures.part.0 c.leave.ensures.told.1 (c.leave.ensures.pass.0.1 ∙ c.enter-engine.ensures.pass.0.1) (ap (λ v. v.store) c.in-Ok.ensures.answered) (ap (λ v. v.upkeep) c.in-Ok.ensures.answered)

pub returns-in-Err-Stopped-clause-upkeep : goal.returns-in-Err-Stopped-clause-upkeep
returns-in-Err-Stopped-clause-upkeep g c = upkeep_stays _ _ c.enter-engine.result c.chore_done-answered.new.self _ _ c.enter-engine.ensures.part.0 c.leave.ensures.told.1 (c.leave.ensures.pass.0.1 ∙ c.enter-engine.ensures.pass.0.1) (ap (λ v. v.store) (rw c.in-Err-Stopped.is at c.chore_done-answered.ensures.same)) (ap (λ v. v.upkeep) (rw c.in-Err-Stopped.is at c.chore_done-answered.ensures.same))

pub returns-in-Err-Memory-clause-upkeep : goal.returns-in-Err-Memory-clause-upkeep
returns-in-Err-Memory-clause-upkeep g c = upkeep_stays _ _ c.enter-engine.result c.chore_done-answered.new.self _ _ c.enter-engine.ensures.part.0 c.leave.ensures.told.1 (c.leave.ensures.pass.0.1 ∙ c.enter-engine.ensures.pass.0.1) (ap (λ v. v.store) (rw c.in-Err-Memory.is at c.chore_done-answered.ensures.same)) (ap (λ v. v.upkeep) (rw c.in-Err-Memory.is at c.chore_done-answered.ensures.same))
