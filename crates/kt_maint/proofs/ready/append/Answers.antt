use Rattle.std.proofs.Common.{refl, ap, subst, arith}
use Rattle.std.specs.Prelude.{IsTrue}
use Rattle.kt_disk.specs.Disk.{Files}
use Rattle.kt_journal.specs.Log.{records_of, IsOldOrBoth, CanOpen}
use Rattle.kt_engine.specs.Moments.{IsAppendedTo}
use Rattle.kt_maint.proofs.Failed.{of_batch}
use Rattle.kt_maint.proofs.ready.append.Goals as goal

pub stop-requires-clause-images : goal.stop-requires-clause-images
stop-requires-clause-images g c = λ batch is told.
    of_batch (λ b. (image : Files) → g.L.Disk.leaves b.journal.disk (g.L.Disk.now b.journal.disk) image → IsOldOrBoth (records_of (g.L.Disk.seen c.args.engine.now.log.known.disk)) c.args.engine.now.log.out (image 1)) _ batch is
    (λ image left.
    let run = c.append_batch.ensures.any_moment told in
    let here = run.each (g.L.Disk.now c.append_batch.new.self.disk) image run.later (omega arith) left in
    subst (λ j. IsOldOrBoth (records_of (g.L.Disk.seen j.disk)) c.args.engine.now.log.out (image 1)) c.requires.journal.0
    (subst (λ rs. IsOldOrBoth (records_of (g.L.Disk.seen c.args.batch.journal.disk)) rs (image 1)) c.requires.journal.1 here))

pub stop-requires-clause-opens : goal.stop-requires-clause-opens
stop-requires-clause-opens g c = λ batch is. of_batch (λ b. IsTrue g.L.Disk.tells → CanOpen g.L.Disk.now g.L.Disk.leaves b.journal.disk) _ batch is c.append_batch.ensures.openable

pub returns-in-Err-Fault-clause-visit : goal.returns-in-Err-Fault-clause-visit
returns-in-Err-Fault-clause-visit g c = c.stop.ensures.visit

pub returns-in-Err-Fault-clause-appends : goal.returns-in-Err-Fault-clause-appends
returns-in-Err-Fault-clause-appends g c =
    let home = c.stop.ensures.home _ refl in
    (ap (λ t. t.core.stopped) (c.stop.ensures.core c.requires.goes), ap (λ v. v.log.holder) home, ap (λ v. v.store) home, ap (λ v. v.upkeep) home)

-- at each moment the log had what was durable, or that and the batch

pub log_home-requires-clause-moments : goal.log_home-requires-clause-moments
log_home-requires-clause-moments g c = λ told.
    let came = c.append_batch.new.self.disk in
    subst (λ j. IsAppendedTo g.L.Disk.seen g.L.Disk.now g.L.Disk.leaves j c.args.engine.now.log.out came) c.requires.journal.0
    (subst (λ rs. IsAppendedTo g.L.Disk.seen g.L.Disk.now g.L.Disk.leaves c.args.batch.journal rs came) c.requires.journal.1 (c.append_batch.ensures.any_moment told))

pub stop-requires-clause-log_moments : goal.stop-requires-clause-log_moments
stop-requires-clause-log_moments g c = λ batch is told.
    let came = c.append_batch.new.self.disk in
    of_batch (λ b. IsAppendedTo g.L.Disk.seen g.L.Disk.now g.L.Disk.leaves c.args.engine.now.log.known c.args.engine.now.log.out b.journal.disk) _ batch is
    (subst (λ j. IsAppendedTo g.L.Disk.seen g.L.Disk.now g.L.Disk.leaves j c.args.engine.now.log.out came) c.requires.journal.0
    (subst (λ rs. IsAppendedTo g.L.Disk.seen g.L.Disk.now g.L.Disk.leaves c.args.batch.journal rs came) c.requires.journal.1 (c.append_batch.ensures.any_moment told)))
