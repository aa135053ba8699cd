use Rattle.std.proofs.Common.{ap, ◌∙◌}
use Rattle.kt_serve.proofs.Begins.{same_root}
use Rattle.kt_serve.proofs.Commands.{free_log}
use Rattle.kt_serve.proofs.Ends.{log_stays}
use Rattle.kt_serve.proofs.Scans.{may_look, after_look}
use Rattle.kt_serve.proofs.Rests.{upkeep_stays}
use Rattle.kt_serve.proofs.scan.look_once.Goals as goal

pub look-looked-requires : goal.look-looked-requires
look-looked-requires g c = λ _. may_look _ c.enter-engine.result _ c.number-by.result c.args.index c.enter-engine.ensures.part.0 c.number-by.ensures c.requires.next c.requires.scan

pub returns-clause-home : goal.returns-clause-home
returns-clause-home g c = log_stays _ _ c.enter-engine.result c.look-looked.new.self _ _ c.enter-engine.ensures.part.0 c.leave.ensures.told.1 (c.leave.ensures.pass.0.1 ∙ c.enter-engine.ensures.pass.0.1) (free_log _ _ c.requires.next) (ap (λ v. v.log.holder) c.look-looked.ensures.beside) (ap (λ v. v.log.out) c.look-looked.ensures.beside)

pub returns-clause-root : goal.returns-clause-root
returns-clause-root g c = same_root _ _ c.enter-engine.result c.look-looked.new.self c.number-by.result _ _ c.enter-engine.ensures.part.0 c.leave.ensures.told.1 c.look-looked.ensures.visit

pub returns-clause-looked : goal.returns-clause-looked
returns-clause-looked g c = after_look _ _ _ _ c.enter-engine.result c.look-looked.new.self _ _ c.number-by.result c.args.index c.look-looked.result
    c.enter-engine.ensures.part.0 c.leave.ensures.told.1 (c.leave.ensures.pass.0.1 ∙ c.enter-engine.ensures.pass.0.1) c.number-by.ensures c.requires.next c.enter-engine.ensures.trail c.leave.ensures.told.0
    c.standing.ensures.stops c.look-looked.ensures.looked (ap (λ v. v.log) c.look-looked.ensures.beside) c.look-looked.ensures.same c.look-looked.ensures.goes

pub returns-clause-upkeep : goal.returns-clause-upkeep
returns-clause-upkeep g c = upkeep_stays _ _ c.enter-engine.result c.look-looked.new.self _ _ c.enter-engine.ensures.part.0 c.leave.ensures.told.1 (c.leave.ensures.pass.0.1 ∙ c.enter-engine.ensures.pass.0.1) (ap (λ v. v.store) c.look-looked.ensures.beside) (ap (λ v. v.upkeep) c.look-looked.ensures.beside)
