use Rattle.std.proofs.Common.{inl, inr, refl, ap, ◌∙◌, subst, arith}
use Rattle.std.specs.Prelude.{IsTrue}
use Rattle.kt_disk.specs.Disk.{Files}
use Rattle.kt_journal.specs.Log.{records_of, IsOldOrBoth, CanOpen}
use Rattle.kt_engine.specs.Visits.{root_of}
use Rattle.kt_engine.specs.Moments.{IsAppendedTo}
use Rattle.kt_serve.proofs.Failed.{of_batch}
use Rattle.kt_serve.proofs.Ending.{just_stopped}
use Rattle.kt_serve.proofs.close.append_last.Goals as goal

pub returns-in-Ok-clause-tablet : goal.returns-in-Ok-clause-tablet
returns-in-Ok-clause-tablet g c = inl (ap (λ v. v.tablet) c.log_home.ensures.home)

pub returns-in-Err-Memory-clause-tablet : goal.returns-in-Err-Memory-clause-tablet
returns-in-Err-Memory-clause-tablet g c = inl (ap (λ v. v.tablet) c.log_back.ensures.home)

pub returns-in-Err-Fault-clause-root : goal.returns-in-Err-Fault-clause-root
returns-in-Err-Fault-clause-root g c = ap root_of (c.stop.ensures.home _ refl) ∙ ap (λ t. root_of (record c.args.engine.now { tablet = t })) (c.stop.ensures.core c.requires.goes)

pub returns-in-Err-Fault-clause-home : goal.returns-in-Err-Fault-clause-home
returns-in-Err-Fault-clause-home g c = ap (λ v. v.log.holder) (c.stop.ensures.home _ refl)

pub returns-in-Err-Fault-clause-tablet : goal.returns-in-Err-Fault-clause-tablet
returns-in-Err-Fault-clause-tablet g c = inr (c.stop.ensures.core c.requires.goes)

pub returns-in-Err-Fault-clause-ends : goal.returns-in-Err-Fault-clause-ends
returns-in-Err-Fault-clause-ends g c = just_stopped c.args.engine.now _ (c.stop.ensures.core c.requires.goes)

pub stop-requires-clause-images : goal.stop-requires-clause-images
stop-requires-clause-images g c = λ batch is told.
    of_batch (λ b. (image : Files) → g.L.Disk.leaves b.journal.disk (g.L.Disk.now b.journal.disk) image → IsOldOrBoth (records_of (g.L.Disk.seen c.args.engine.now.log.known.disk)) c.args.engine.now.log.out (image 1)) _ batch is
    (λ image left.
    let run = c.append_batch.ensures.any_moment told in
    let here = run.each (g.L.Disk.now c.append_batch.new.self.disk) image run.later (omega arith) left in
    subst (λ j. IsOldOrBoth (records_of (g.L.Disk.seen j.disk)) c.args.engine.now.log.out (image 1)) c.requires.journal.0
    (subst (λ rs. IsOldOrBoth (records_of (g.L.Disk.seen c.args.batch.journal.disk)) rs (image 1)) c.requires.journal.1 here))

pub stop-requires-clause-opens : goal.stop-requires-clause-opens
stop-requires-clause-opens g c = λ batch is. of_batch (λ b. IsTrue g.L.Disk.tells → CanOpen g.L.Disk.now g.L.Disk.leaves b.journal.disk) _ batch is c.append_batch.ensures.openable

pub returns-in-Err-Fault-clause-store : goal.returns-in-Err-Fault-clause-store
returns-in-Err-Fault-clause-store g c = ap (λ v. v.store) (c.stop.ensures.home _ refl)

-- at each moment the log had what was durable, or that and the batch

pub log_home-requires-clause-moments : goal.log_home-requires-clause-moments
log_home-requires-clause-moments g c = λ told.
    let came = c.append_batch.new.self.disk in
    subst (λ j. IsAppendedTo g.L.Disk.seen g.L.Disk.now g.L.Disk.leaves j c.args.engine.now.log.out came) c.requires.journal.0
    (subst (λ rs. IsAppendedTo g.L.Disk.seen g.L.Disk.now g.L.Disk.leaves c.args.batch.journal rs came) c.requires.journal.1 (c.append_batch.ensures.any_moment told))

pub stop-requires-clause-log_moments : goal.stop-requires-clause-log_moments
stop-requires-clause-log_moments g c = λ batch is told.
    let came = c.append_batch.new.self.disk in
    of_batch (λ b. IsAppendedTo g.L.Disk.seen g.L.Disk.now g.L.Disk.leaves c.args.engine.now.log.known c.args.engine.now.log.out b.journal.disk) _ batch is
    (subst (λ j. IsAppendedTo g.L.Disk.seen g.L.Disk.now g.L.Disk.leaves j c.args.engine.now.log.out came) c.requires.journal.0
    (subst (λ rs. IsAppendedTo g.L.Disk.seen g.L.Disk.now g.L.Disk.leaves c.args.batch.journal rs came) c.requires.journal.1 (c.append_batch.ensures.any_moment told)))

pub returns-in-Err-Fault-clause-upkeep : goal.returns-in-Err-Fault-clause-upkeep
returns-in-Err-Fault-clause-upkeep g c = ap (λ v. v.upkeep) (c.stop.ensures.home _ refl)
