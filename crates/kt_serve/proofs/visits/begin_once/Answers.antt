use Rattle.std.proofs.Common.{Some, None, sym, ap, ◌∙◌}
use Rattle.kt_serve.proofs.Begins.{may_begin, same_root, begun_after, free_turn}
use Rattle.kt_serve.proofs.Open.{is_open}
use Rattle.kt_serve.proofs.Rests.{upkeep_stays}
use Rattle.kt_serve.proofs.visits.begin_once.Goals as goal

pub begin_draft-begun-requires : goal.begin_draft-begun-requires
begin_draft-begun-requires g c = λ _. may_begin _ c.enter-engine.result _ c.number-by.result c.args.index (record { ops = c.args.draft.now.write.ops }) c.enter-engine.ensures.part.0 c.number-by.ensures c.requires.next c.requires.command c.requires.write

pub leave_as-requires-clause-same : goal.leave_as-requires-clause-same
leave_as-requires-clause-same g c = λ e. let waits = c.changes.ensures e in c.enter-engine.ensures.got.0 ∙ ap Some (sym (c.begin_draft-begun.ensures.same waits.0 waits.1))

pub returns-clause-root : goal.returns-clause-root
returns-clause-root g c = same_root _ _ c.enter-engine.result c.begin_draft-begun.new.self c.number-by.result _ _ c.enter-engine.ensures.part.0 c.leave_as.ensures.told.1 c.begin_draft-begun.ensures.visit

pub returns-clause-begun : goal.returns-clause-begun
returns-clause-begun g c = begun_after _ _ _ _ c.enter-engine.result c.begin_draft-begun.new.self _ _ c.number-by.result c.args.index c.args.draft.now.write.ops c.begin_draft-begun.result
    c.enter-engine.ensures.part.0 c.leave_as.ensures.told.1 (c.leave_as.ensures.pass.0.1 ∙ c.enter-engine.ensures.pass.0.1) c.number-by.ensures c.requires.next c.enter-engine.ensures.trail c.leave_as.ensures.told.0
    c.standing.ensures.stops c.begin_draft-begun.ensures.begun c.begin_draft-begun.ensures.queued c.begin_draft-begun.ensures.left c.begin_draft-begun.ensures.refused c.begin_draft-begun.ensures.waits

pub returns-clause-open : goal.returns-clause-open
returns-clause-open g c = is_open _ c.enter-engine.result _ c.args.index None _ g.C.Clock.readings c.enter-engine.ensures.part.0 (free_turn _ _ c.enter-engine.result _ c.requires.next c.enter-engine.ensures.part.0) c.enter-engine.ensures.trail c.standing.ensures.sound

pub returns-clause-upkeep : goal.returns-clause-upkeep
returns-clause-upkeep g c = upkeep_stays _ _ c.enter-engine.result c.begin_draft-begun.new.self _ _ c.enter-engine.ensures.part.0 c.leave_as.ensures.told.1 (c.leave_as.ensures.pass.0.1 ∙ c.enter-engine.ensures.pass.0.1) (ap (λ v. v.store) c.begin_draft-begun.ensures.beside) (ap (λ v. v.upkeep) c.begin_draft-begun.ensures.beside)
