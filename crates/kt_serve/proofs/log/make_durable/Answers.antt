use Rattle.std.proofs.Common.{rules, ap, ◌∙◌}
use Rattle.kt_serve.proofs.Stills.{still_after, still_rests, no_log_rests, aloft_after}
use Rattle.kt_serve.proofs.Rests.{upkeep_same, upkeep_then}
use Rattle.kt_serve.proofs.log.make_durable.Goals as goal

pub ask_log-requires-clause-aloft : goal.ask_log-requires-clause-aloft
ask_log-requires-clause-aloft g c = let a = c.requires.aloft in (a.0, a.1, a.2, a.3, aloft_after _ _ a.0 a.1 a.2 a.3 _ _ _ _ c.loop.invariant.0.0.1 c.loop.invariant.2 a.4)

pub returns-in-Durable-clause-still : goal.returns-in-Durable-clause-still
returns-in-Durable-clause-still g c = still_after _ _ _ _ _ _ _ _ c.loop.invariant.0.0.1 c.loop.invariant.2 c.ask_log.ensures.still

pub returns-in-Append-clause-still : goal.returns-in-Append-clause-still
returns-in-Append-clause-still g c =
    still_after _ _ _ _ _ _ _ _ (c.ask_log.ensures.pass.0.1 ∙ c.loop.invariant.0.0.1) (still_after _ _ _ _ _ _ _ _ c.loop.invariant.0.0.1 c.loop.invariant.2 c.ask_log.ensures.still) c.append.ensures.still

pub loop-preserved : goal.loop-preserved
loop-preserved g c = (
  search rules,
  no_log_rests _ _ (ap (λ m. m.0.part) c.rest.ensures.2) (rw c.in-Wait.is at c.ask_log.ensures.turn),
  still_rests _ _ _ _ _ _ _ (ap (λ m. m.0.part) c.rest.ensures.2) (ap (λ m. m.0.seen) c.rest.ensures.2) (still_after _ _ _ _ _ _ _ _ c.loop.invariant.0.0.1 c.loop.invariant.2 c.ask_log.ensures.still),
  upkeep_then _ _ _ (upkeep_then _ _ _ c.loop.invariant.3 c.ask_log.ensures.upkeep) (upkeep_same _ _ (ap (λ m. m.0.part) c.rest.ensures.2)),
)

pub returns-in-Stopped-clause-still : goal.returns-in-Stopped-clause-still
returns-in-Stopped-clause-still g c = still_after _ _ _ _ _ _ _ _ c.loop.invariant.0.0.1 c.loop.invariant.2 c.ask_log.ensures.still

pub returns-in-Memory-clause-still : goal.returns-in-Memory-clause-still
returns-in-Memory-clause-still g c = still_after _ _ _ _ _ _ _ _ c.loop.invariant.0.0.1 c.loop.invariant.2 c.ask_log.ensures.still

pub returns-in-Durable-clause-upkeep : goal.returns-in-Durable-clause-upkeep
returns-in-Durable-clause-upkeep g c = upkeep_then _ _ _ c.loop.invariant.3 c.ask_log.ensures.upkeep

pub returns-in-Stopped-clause-upkeep : goal.returns-in-Stopped-clause-upkeep
returns-in-Stopped-clause-upkeep g c = upkeep_then _ _ _ c.loop.invariant.3 c.ask_log.ensures.upkeep

pub returns-in-Memory-clause-upkeep : goal.returns-in-Memory-clause-upkeep
returns-in-Memory-clause-upkeep g c = upkeep_then _ _ _ c.loop.invariant.3 c.ask_log.ensures.upkeep

pub returns-in-Append-clause-upkeep : goal.returns-in-Append-clause-upkeep
returns-in-Append-clause-upkeep g c = upkeep_then _ _ _ (upkeep_then _ _ _ c.loop.invariant.3 c.ask_log.ensures.upkeep) c.append.ensures.upkeep

pub returns-in_err-append-in-Append-clause-upkeep : goal.returns-in_err-append-in-Append-clause-upkeep
returns-in_err-append-in-Append-clause-upkeep g c = upkeep_then _ _ _ (upkeep_then _ _ _ c.loop.invariant.3 c.ask_log.ensures.upkeep) c.append.ensures.upkeep

pub returns-in_err-append-in-Append-clause-still : goal.returns-in_err-append-in-Append-clause-still
returns-in_err-append-in-Append-clause-still g c =
    still_after _ _ _ _ _ _ _ _ (c.ask_log.ensures.pass.0.1 ∙ c.loop.invariant.0.0.1) (still_after _ _ _ _ _ _ _ _ c.loop.invariant.0.0.1 c.loop.invariant.2 c.ask_log.ensures.still) c.append.ensures.still
