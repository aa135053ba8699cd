use Rattle.std.proofs.Common.{Some, sym, ap, ◌∙◌}
use Rattle.kt_serve.proofs.Stills.{went_out, still_tablet, no_log}
use Rattle.kt_serve.proofs.Homes.{its_holder}
use Rattle.kt_serve.proofs.Rests.{upkeep_stays}
use Rattle.kt_serve.proofs.home.take_back.Goals as goal

pub log_back-requires : goal.log_back-requires
log_back-requires g c =
    let x = c.enter-engine.result in
    let went = went_out _ x _ c.args.batch.journal c.args.batch.records c.enter-engine.ensures.part.0 c.requires.lent in
    record {
      out = its_holder x _ _ c.args.batch.journal c.args.batch.records c.enter-engine.ensures.part.0 c.requires.lent ∙ ap Some (sym c.number-by.ensures);
      journal = sym went.0;
      records = sym went.1;
      opens = c.requires.opens;
    }

pub returns-clause-still : goal.returns-clause-still
returns-clause-still g c = still_tablet _ _ _ _ c.enter-engine.result c.log_back.new.self c.number-by.result _ _ c.enter-engine.ensures.part.0 c.leave.ensures.told.1 (c.leave.ensures.pass.0.1 ∙ c.enter-engine.ensures.pass.0.1) c.enter-engine.ensures.trail c.leave.ensures.told.0 c.log_back.ensures.visit (ap (λ v. v.tablet) c.log_back.ensures.home)

pub returns-clause-home : goal.returns-clause-home
returns-clause-home g c = no_log _ c.log_back.new.self _ c.leave.ensures.told.1 (ap (λ v. v.log.holder) c.log_back.ensures.home)

pub returns-clause-upkeep : goal.returns-clause-upkeep
returns-clause-upkeep g c = upkeep_stays _ _ c.enter-engine.result c.log_back.new.self _ _ c.enter-engine.ensures.part.0 c.leave.ensures.told.1 (c.leave.ensures.pass.0.1 ∙ c.enter-engine.ensures.pass.0.1) (ap (λ v. v.store) c.log_back.ensures.home) (ap (λ v. v.upkeep) c.log_back.ensures.home)
