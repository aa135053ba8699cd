use Rattle.std.proofs.Common.{inl, inr, refl, ap}
use Rattle.std.proofs.lemmas.Result.{IfOk-weaker}
use Rattle.kt_maint.proofs.OneOut.{still_added}
use Rattle.kt_maint.proofs.endings.write_now.Goals as goal

pub returns-then-same_deltas-clause-added : goal.returns-then-same_deltas-clause-added
returns-then-same_deltas-clause-added g c = still_added g.D.Disk.tells g.D.Disk.seen g.D.Disk.now g.D.Disk.leaves g.D.Disk.faults c.args.most c.args.lent.now c.args.made.rowset

pub returns-then-same_deltas-clause-written : goal.returns-then-same_deltas-clause-written
returns-then-same_deltas-clause-written g c = inl (c.same_deltas.ensures c.if-same_deltas.true, refl, refl)

pub returns-else-same_deltas-clause-added : goal.returns-else-same_deltas-clause-added
returns-else-same_deltas-clause-added g c = c.make_and_write.ensures.added

pub returns-else-same_deltas-clause-written : goal.returns-else-same_deltas-clause-written
returns-else-same_deltas-clause-written g c = IfOk-weaker c.make_and_write.result _ _ (λ out h. inr h) c.make_and_write.ensures.files
