use Rattle.std.proofs.Common.{rules, Some, sym, ap, ◌∙◌}
use Rattle.kt_engine.specs.Visits.{IsVisit}
use Rattle.kt_serve.proofs.Homes.{its_holder, appended_to}
use Rattle.kt_serve.proofs.Rests.{upkeep_stays}
use Rattle.kt_serve.proofs.Turns.{home_flies, home_log, home_apply}
use Rattle.kt_serve.proofs.rows.bring_home.Goals as goal

pub log_home-requires : goal.log_home-requires
log_home-requires g c =
    let x = c.enter-engine.result in
    let told = c.requires.appended in
    let is = appended_to x _ _ told.0 told.1 c.enter-engine.ensures.part.0 told.2 g.L.Disk.tells g.L.Disk.seen g.L.Disk.now g.L.Disk.leaves g.L.Disk.faults c.args.batch.journal told.3 in
    record {
      out = its_holder x _ _ told.0 told.1 c.enter-engine.ensures.part.0 told.2 ∙ ap Some (sym c.number-by.ensures);
      usable = is.usable;
      count = is.count;
      reads = is.reads;
      durable = is.durable;
      opens = is.opens;
      others = is.others;
      faults = is.later;
      moments = is.moments;
    }

pub go_on-turn-requires-clause-flies : goal.go_on-turn-requires-clause-flies
go_on-turn-requires-clause-flies g c =
    let f = c.requires.flying in
    let h = home_flies _ _ c.enter-engine.result c.log_home.new.self _ _ c.enter-engine.ensures.part.0 c.number-by.ensures c.enter-engine.ensures.trail c.log_home.ensures.visit (ap (λ v. v.tablet) c.log_home.ensures.home) f.0 c.args.at c.args.write.now f.1 in
    (f.0, h.0, c.args.write.now.ops, h.1, h.2, c.len-count.ensures)

-- both steps are one visit
pub leave-requires-clause-trail : goal.leave-requires-clause-trail
leave-requires-clause-trail g c =
    let visit : IsVisit c.number-by.result c.enter-engine.result c.go_on-turn.new.engine =
    c.visit_law.ensures c.number-by.result c.enter-engine.result c.log_home.new.self c.go_on-turn.new.engine c.log_home.ensures.visit (ap (λ v. v.tablet.core.trail) c.log_home.ensures.home) c.go_on-turn.ensures.visit in
    search (rules, visit.line)

pub leave-requires-clause-parts : goal.leave-requires-clause-parts
leave-requires-clause-parts g c =
    let visit : IsVisit c.number-by.result c.enter-engine.result c.go_on-turn.new.engine =
    c.visit_law.ensures c.number-by.result c.enter-engine.result c.log_home.new.self c.go_on-turn.new.engine c.log_home.ensures.visit (ap (λ v. v.tablet.core.trail) c.log_home.ensures.home) c.go_on-turn.ensures.visit in
    search (rules, visit.parts)

pub returns-clause-home : goal.returns-clause-home
returns-clause-home g c = home_log _ _ c.enter-engine.result c.log_home.new.self _ _ c.enter-engine.ensures.part.0 c.number-by.ensures c.enter-engine.ensures.trail c.log_home.ensures.visit (ap (λ v. v.tablet) c.log_home.ensures.home)
    _ c.go_on-turn.new.engine _ c.args.at c.len-count.result c.go_on-turn.result c.leave.ensures.told.1 (c.leave.ensures.pass.0.1 ∙ c.enter-engine.ensures.pass.0.1) (ap (λ v. v.log.holder) c.log_home.ensures.home) c.go_on-turn.ensures.applied

pub returns-clause-applied : goal.returns-clause-applied
returns-clause-applied g c = home_apply _ _ c.enter-engine.result c.log_home.new.self _ _ c.enter-engine.ensures.part.0 c.number-by.ensures c.enter-engine.ensures.trail c.log_home.ensures.visit (ap (λ v. v.tablet) c.log_home.ensures.home)
    _ c.go_on-turn.new.engine _ c.args.at c.len-count.result c.go_on-turn.result c.leave.ensures.told.1 (c.leave.ensures.pass.0.1 ∙ c.enter-engine.ensures.pass.0.1) (ap (λ v. v.log.holder) c.log_home.ensures.home) c.go_on-turn.ensures.applied
    _ c.args.write.now c.leave.ensures.told.0 c.standing.ensures.stops c.go_on-turn.ensures.visit c.len-count.ensures

pub returns-clause-upkeep : goal.returns-clause-upkeep
returns-clause-upkeep g c = upkeep_stays _ _ c.enter-engine.result c.go_on-turn.new.engine _ _ c.enter-engine.ensures.part.0 c.leave.ensures.told.1 (c.leave.ensures.pass.0.1 ∙ c.enter-engine.ensures.pass.0.1)
    (c.go_on-turn.ensures.store ∙ ap (λ v. v.store) c.log_home.ensures.home) (c.go_on-turn.ensures.upkeep ∙ ap (λ v. v.upkeep) c.log_home.ensures.home)
