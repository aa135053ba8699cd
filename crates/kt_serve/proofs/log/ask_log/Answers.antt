use Rattle.std.proofs.Common.{Some, sym, ap, ◌∙◌}
use Rattle.kt_engine.specs.Engines.{IsLent}
use Rattle.kt_serve.proofs.Rests.{upkeep_stays}
use Rattle.kt_serve.proofs.Stills.{still_tablet, after_turn, aloft_flies, lent_same}
use Rattle.kt_serve.proofs.log.ask_log.Goals as goal

pub lend-turn-requires : goal.lend-turn-requires
lend-turn-requires g c = let a = c.requires.aloft in aloft_flies _ c.enter-engine.result _ c.number-by.result _ _ _ _ c.enter-engine.ensures.part.0 c.number-by.ensures a.4

pub leave_as-requires-clause-same : goal.leave_as-requires-clause-same
leave_as-requires-clause-same g c = λ e. c.enter-engine.ensures.got.0 ∙ ap Some (sym (lent_same (IsLent g.L.Disk.tells g.L.Disk.seen g.L.Disk.now g.L.Disk.leaves) c.enter-engine.result c.lend-turn.new.engine c.number-by.result c.lend-turn.result c.lend-turn.ensures.turn (sym c.changes.ensures ∙ e)))

pub returns-clause-still : goal.returns-clause-still
returns-clause-still g c = still_tablet _ _ _ _ c.enter-engine.result c.lend-turn.new.engine c.number-by.result _ _ c.enter-engine.ensures.part.0 c.leave_as.ensures.told.1 (c.leave_as.ensures.pass.0.1 ∙ c.enter-engine.ensures.pass.0.1) c.enter-engine.ensures.trail c.leave_as.ensures.told.0 c.lend-turn.ensures.visit c.lend-turn.ensures.tablet

pub returns-clause-turn : goal.returns-clause-turn
returns-clause-turn g c = after_turn (IsLent g.L.Disk.tells g.L.Disk.seen g.L.Disk.now g.L.Disk.leaves) _ _ _ c.enter-engine.result c.lend-turn.new.engine _ _ c.number-by.result c.lend-turn.result c.enter-engine.ensures.part.0 c.leave_as.ensures.told.1 (c.leave_as.ensures.pass.0.1 ∙ c.enter-engine.ensures.pass.0.1) c.number-by.ensures c.leave_as.ensures.told.0
    c.standing.ensures.stops c.requires.home c.lend-turn.ensures.turn

pub returns-clause-upkeep : goal.returns-clause-upkeep
returns-clause-upkeep g c = upkeep_stays _ _ c.enter-engine.result c.lend-turn.new.engine _ _ c.enter-engine.ensures.part.0 c.leave_as.ensures.told.1 (c.leave_as.ensures.pass.0.1 ∙ c.enter-engine.ensures.pass.0.1) c.lend-turn.ensures.store c.lend-turn.ensures.upkeep
