-- What came to a job while it was outside is put in: its outputs may be handed in.
use Rattle.std.proofs.Common.{◌≡◌, ◌<◌, ◌^◌, ℕ, Bool, List, Some, Result, Ok, refl, sym, ap, subst}
use Rattle.kt_disk.specs.Disk.{Files}
use Rattle.kt_diskrowset.specs.declared.data.RowSetData.{RowSetData}
use Rattle.kt_diskrowset.specs.declared.inputs.Outputs.{Outputs}
use Rattle.kt_outputs.specs.declared.outputs.WriteNo.{WriteNo}
use Rattle.kt_storeside.specs.declared.side.Lent.{Lent}
use Rattle.kt_storeside.specs.Sides.{IsSide}
use Rattle.kt_tablet.specs.Views.{View}
use Rattle.kt_pick.specs.declared.rules.Want.{Want}
use Rattle.kt_pick.specs.declared.rules.Want.TheVariants as want
use Rattle.kt_engine.specs.Engines.{EngineView}
use Rattle.kt_engine.specs.Jobs.{JobView, UpkeepsView, UpkeepView, job_of}
use Rattle.kt_engine.specs.Outside.{job_again}
use Rattle.kt_engine.specs.Visits.{part_in}
use Rattle.kt_maint.specs.JobRuns.{MayHandIn}
use Rattle.kt_maint.specs.Outside.{HasAdded, HasCome, IsPutBy, IsPutIn, IsPutSince, KeepsRead}
use Rattle.kt_maint.proofs.EndLaws.{EndLaws}
use Rattle.kt_maint.proofs.LateWritten.{home_with, may_hand_in}
use Rattle.kt_maint.proofs.Returns.{returned_read}
use Rattle.kt_maint.proofs.SinceWritten.{since_hand_in}

-- it has what was read of it
refrozen_read : {L D C : Type 0} (tells : Bool) (seen : D → Files) (now : D → ℕ) (leaves : D → ℕ → Files → Type 0) (faults : D → ℕ) (n bound most : ℕ) (went came : Lent D) (job : JobView) (outputs done : List RowSetData) (a b : EngineView L D C)
    → job_of n a.upkeep ≡ Some job → IsPutSince tells seen now leaves faults n bound most went came job outputs done a b → KeepsRead n a.upkeep b.upkeep
refrozen_read tells seen now leaves faults n bound most went came job outputs done a b had put = record {
  its = job;
  had = had;
  job = job_again put.back.many put.back.frozen.number put.mems job;
  has = ap (λ (u : UpkeepView). u.job) put.back.upkeep.own;
  same = record { inputs = refl; times = (refl, refl) };
}

pub put_reads : {L D C : Type 0} (tells : Bool) (seen : D → Files) (now : D → ℕ) (leaves : D → ℕ → Files → Type 0) (faults : D → ℕ) (n bound most : ℕ) (went came : Lent D) (job : JobView) (outputs done : List RowSetData) (a b : EngineView L D C) → job_of n a.upkeep ≡ Some job
    → (w : Want) → IsPutBy w tells seen now leaves faults n bound most went came job outputs done a b → KeepsRead n a.upkeep b.upkeep
put_reads tells seen now leaves faults n bound most went came job outputs done a b had want.Flush put = refrozen_read tells seen now leaves faults n bound most went came job outputs done a b had put
put_reads tells seen now leaves faults n bound most went came job outputs done a b had (want.Compact taken) put = returned_read tells n job put.list a b had put.back
put_reads tells seen now leaves faults n bound most went came job outputs done a b had (want.FlushDeltas r) put = absurd put
put_reads tells seen now leaves faults n bound most went came job outputs done a b had (want.Minor r) put = absurd put
put_reads tells seen now leaves faults n bound most went came job outputs done a b had (want.Major r) put = absurd put

module _ {L D C : Type 0} (tells : Bool) (seen : D → Files) (now : D → ℕ) (leaves : D → ℕ → Files → Type 0) (faults : D → ℕ) (n bound most : ℕ) (lent came : Lent D) (outs : Outputs) (done : List RowSetData) (r : Result Outputs WriteNo) (e : EngineView L D C) (tablet : View C) (u : UpkeepsView)
    (come : HasCome tells seen now leaves faults n bound most lent (Ok outs) (part_in e n)) (side : IsSide tells seen now leaves faults e.store) (added : HasAdded tells seen now leaves faults most lent came r) (small : bound < 2 ^ 64) (few : came.next_rowset < 2 ^ 64) (laws : EndLaws) where
  abbrev job : JobView
  job = come.away.job

  abbrev PutBy : Want → Type 0
  PutBy w = IsPutBy w tells seen now leaves faults n bound most lent came job outs.rowsets done e (record e { tablet = tablet; upkeep = u })

  abbrev MayHand : View C → Type 0
  MayHand t = MayHandIn tells seen now leaves (record e { tablet = t; store = home_with e.store came; upkeep = u }) n job.want done

  compaction_hands : (taken : List ℕ) → job.want ≡ want.Compact taken → PutBy (want.Compact taken) → MayHand tablet
  compaction_hands taken is put =
      let same : tablet ≡ e.tablet = ap (λ (v : EngineView L D C). v.tablet) put.back.at.beside in
      let there = subst (λ (t : View C). IsPutIn tells seen now leaves n bound lent came job outs.rowsets done e (record e { tablet = t; upkeep = u })) same put in
      subst MayHand (sym same)
      (may_hand_in tells seen now leaves faults n bound most lent came outs done r e u come side added there small taken is laws.late_alike laws.once laws.rise laws.same laws.pass laws.still laws.late_passes laws.passes laws.back laws.late_others laws.behind laws.fewer laws.late_named laws.stand laws.late_stand)

  hands_by : (w : Want) → job.want ≡ w → PutBy w → MayHand tablet
  hands_by want.Flush is put = since_hand_in tells seen now leaves faults n bound most lent came outs done r e tablet u come side added small few laws is put
  hands_by (want.Compact taken) is put = compaction_hands taken is put
  hands_by (want.FlushDeltas x) is put = absurd put
  hands_by (want.Minor x) is put = absurd put
  hands_by (want.Major x) is put = absurd put

  pub hands_in : PutBy job.want → MayHand tablet
  hands_in put = hands_by job.want refl put
