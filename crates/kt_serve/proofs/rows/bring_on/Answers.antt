use Rattle.std.proofs.Common.{sym, ◌∙◌, subst}
use Rattle.kt_serve.specs.Sessions.{OwnFlight, IsNext}
use Rattle.kt_serve.proofs.Applies.{own_flight, own_next}
use Rattle.kt_serve.proofs.Turns.{after_apply, log_after}
use Rattle.kt_serve.proofs.Rests.{upkeep_stays}
use Rattle.kt_serve.proofs.rows.bring_on.Goals as goal

pub go_on-turn-requires-clause-flies : goal.go_on-turn-requires-clause-flies
go_on-turn-requires-clause-flies g c = let f = c.requires.flying in (
  f.0,
  f.1.ts,
  c.args.write.now.ops,
  subst (λ k. OwnFlight c.enter-engine.result k f.0 f.1.ts c.args.write.now.ops c.args.at) (sym c.number-by.ensures) (own_flight _ c.enter-engine.result _ f.0 f.1.ts c.args.at c.args.write.now.ops c.enter-engine.ensures.part.0 f.1.aloft),
  subst (λ k. IsNext c.enter-engine.result k f.0) (sym c.number-by.ensures) (own_next _ c.enter-engine.result _ f.0 c.args.at c.args.write.now c.enter-engine.ensures.part.0 f.1),
  c.len-count.ensures,
)

pub returns-clause-home : goal.returns-clause-home
returns-clause-home g c = log_after _ _ c.enter-engine.result c.go_on-turn.new.engine _ _ c.number-by.result c.args.at c.len-count.result c.go_on-turn.result c.enter-engine.ensures.part.0 c.leave.ensures.told.1 (c.leave.ensures.pass.0.1 ∙ c.enter-engine.ensures.pass.0.1) c.requires.home c.go_on-turn.ensures.applied

pub returns-clause-applied : goal.returns-clause-applied
returns-clause-applied g c = after_apply _ _ _ _ c.enter-engine.result c.go_on-turn.new.engine _ _ c.number-by.result c.args.at c.len-count.result c.args.write.now c.go_on-turn.result c.enter-engine.ensures.part.0 c.leave.ensures.told.1 (c.leave.ensures.pass.0.1 ∙ c.enter-engine.ensures.pass.0.1) c.number-by.ensures c.enter-engine.ensures.trail c.leave.ensures.told.0
    c.standing.ensures.stops c.requires.home c.go_on-turn.ensures.visit c.len-count.ensures c.go_on-turn.ensures.applied

pub returns-clause-upkeep : goal.returns-clause-upkeep
returns-clause-upkeep g c = upkeep_stays _ _ c.enter-engine.result c.go_on-turn.new.engine _ _ c.enter-engine.ensures.part.0 c.leave.ensures.told.1 (c.leave.ensures.pass.0.1 ∙ c.enter-engine.ensures.pass.0.1) c.go_on-turn.ensures.store c.go_on-turn.ensures.upkeep
