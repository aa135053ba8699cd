use Rattle.std.proofs.Common.{rules, Some, refl, sym, ap, ◌∙◌, ◌≤◌}
use Rattle.std.specs.Prelude.{IsTrue}
use Rattle.kt_base.specs.Causes.{Rose}
use Rattle.kt_disk.specs.Disk.{Files}
use Rattle.kt_journal.specs.Log.{records_of, IsOldOrBoth, CanOpen}
use Rattle.kt_engine.specs.Engines.{KeepsOthers}
use Rattle.kt_engine.specs.Moments.{IsAppendedTo}
use Rattle.kt_engine.specs.Visits.{IsVisit}
use Rattle.kt_serve.proofs.Failed.{of_batch, no_store}
use Rattle.kt_serve.proofs.Stills.{still_stopped, no_log, stop_added, stopped_once}
use Rattle.kt_serve.proofs.Homes.{its_holder, broken_from}
use Rattle.kt_serve.proofs.Rests.{upkeep_stays}
use Rattle.kt_serve.proofs.home.take_broken.Goals as goal

pub stop-requires : goal.stop-requires
stop-requires g c =
    let x = c.enter-engine.result in
    let told = c.requires.broken in
    let holder = its_holder x _ _ told.0 told.1 c.enter-engine.ensures.part.0 told.2 in
    let is = broken_from x _ _ told.0 told.1 c.enter-engine.ensures.part.0 told.2 g.L.Disk.tells g.L.Disk.seen g.L.Disk.now g.L.Disk.leaves g.L.Disk.faults c.args.batch.journal told.3 in
    record {
      out = λ batch same. holder ∙ ap Some (sym c.number-by.ensures);
      faults = λ batch same. of_batch (λ b. g.L.Disk.faults x.log.known.disk ≤ g.L.Disk.faults b.journal.disk) _ batch same is.later;
      rose = λ batch same. of_batch (λ b. Rose (g.L.Disk.faults x.log.known.disk) (g.L.Disk.faults b.journal.disk)) _ batch same is.rose;
      images = λ batch same. of_batch (λ b. IsTrue g.L.Disk.tells → (image : Files) → g.L.Disk.leaves b.journal.disk (g.L.Disk.now b.journal.disk) image → IsOldOrBoth (records_of (g.L.Disk.seen x.log.known.disk)) x.log.out (image 1)) _ batch same is.images;
      opens = λ batch same. of_batch (λ b. IsTrue g.L.Disk.tells → CanOpen g.L.Disk.now g.L.Disk.leaves b.journal.disk) _ batch same is.opens;
      others = λ batch same. of_batch (λ b. IsTrue g.L.Disk.tells → KeepsOthers g.L.Disk.now g.L.Disk.leaves x.log.known.disk b.journal.disk) _ batch same is.others;
      log_moments = λ batch same. of_batch (λ b. IsTrue g.L.Disk.tells → IsAppendedTo g.L.Disk.seen g.L.Disk.now g.L.Disk.leaves x.log.known x.log.out b.journal.disk) _ batch same is.moments;
      store_out = λ lent same. absurd (no_store _ lent same);
      store_faults = λ lent same. absurd (no_store _ lent same);
      store_rose = λ lent same. absurd (no_store _ lent same);
      numbers = λ lent same. absurd (no_store _ lent same);
      turn = λ lent same. absurd (no_store _ lent same);
      one_of = λ lent same. absurd (no_store _ lent same);
      store_moments = λ lent same. absurd (no_store _ lent same);
    }

pub returns-clause-still : goal.returns-clause-still
returns-clause-still g c = still_stopped _ _ _ _ c.enter-engine.result c.stop.new.self c.number-by.result _ _ c.enter-engine.ensures.part.0 c.leave.ensures.told.1 (c.leave.ensures.pass.0.1 ∙ c.enter-engine.ensures.pass.0.1) c.enter-engine.ensures.trail c.leave.ensures.told.0 c.stop.ensures.visit (stopped_once c.enter-engine.result c.stop.new.self c.standing.ensures.stops c.stop.ensures.core c.stop.ensures.once)

pub returns-clause-home : goal.returns-clause-home
returns-clause-home g c = no_log _ c.stop.new.self _ c.leave.ensures.told.1 (ap (λ v. v.log.holder) (c.stop.ensures.home _ refl))

pub returns-clause-stopped : goal.returns-clause-stopped
returns-clause-stopped g c = stop_added c.enter-engine.result.tablet c.stop.new.self.tablet _ c.leave.ensures.told.0 (stopped_once c.enter-engine.result c.stop.new.self c.standing.ensures.stops c.stop.ensures.core c.stop.ensures.once)

-- it was a visit
pub leave-requires-clause-trail : goal.leave-requires-clause-trail
leave-requires-clause-trail g c =
    let visit : IsVisit c.number-by.result c.enter-engine.result c.stop.new.self = c.stop.ensures.visit in
    search (rules, visit.line)

pub leave-requires-clause-parts : goal.leave-requires-clause-parts
leave-requires-clause-parts g c =
    let visit : IsVisit c.number-by.result c.enter-engine.result c.stop.new.self = c.stop.ensures.visit in
    search (rules, visit.parts)

pub returns-clause-upkeep : goal.returns-clause-upkeep
returns-clause-upkeep g c = upkeep_stays _ _ c.enter-engine.result c.stop.new.self _ _ c.enter-engine.ensures.part.0 c.leave.ensures.told.1 (c.leave.ensures.pass.0.1 ∙ c.enter-engine.ensures.pass.0.1) (ap (λ v. v.store) (c.stop.ensures.home _ refl)) (ap (λ v. v.upkeep) (c.stop.ensures.home _ refl))
