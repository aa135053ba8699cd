-- A job that is back in the lock, by its want.
use Rattle.std.proofs.Common.{◌≡◌, ◌≤◌, ℕ, Bool, List, Option, inl, refl, sym, ap, subst, ◌∙◌}
use Rattle.std.proofs.Math.Nat.{min-le_left}
use Rattle.kt_disk.specs.Disk.{Files}
use Rattle.kt_diskrowset.specs.declared.data.RowSetData.{RowSetData}
use Rattle.kt_histlaws.specs.Parts.{part}
use Rattle.kt_tablet.specs.Views.{View, place_at}
use Rattle.kt_pick.specs.declared.rules.Want.{Want}
use Rattle.kt_pick.specs.declared.rules.Want.TheVariants as want
use Rattle.kt_engine.specs.declared.again.MemsNow.{MemsNow}
use Rattle.kt_engine.specs.declared.job.Returned.{Returned}
use Rattle.kt_engine.specs.declared.job.Returned.TheVariants as returned
use Rattle.kt_engine.specs.Engines.{EngineView}
use Rattle.kt_engine.specs.Jobs.{JobView, UpkeepView, UpkeepsView, HasUpkeep, upkeep_at}
use Rattle.kt_engine.specs.Outside.{job_again}
use Rattle.kt_engine.specs.Returning.{HasRefrozen, HasReturned, ReturnsBy, HasReread}
use Rattle.kt_engine.specs.Visits.{IsVisit}
use Rattle.kt_maint.specs.Outside.{IsBack}
use Rattle.kt_maint.specs.Runs.{MayAbandon, OnlyJob}
use Rattle.kt_maint.proofs.Visiting.{stands_same}

-- ---- disk rowsets are of a compaction, and MemRowSets of a flush

pub record IsCompacted {L D C : Type 0} (w : Want) (tells : Bool) (n : ℕ) (job : JobView) (list : List RowSetData) (a b : EngineView L D C) : Type 0 where
  pub taken : List ℕ
  pub is : w ≡ want.Compact taken
  pub back : HasReturned tells n job list a b

pub record IsFlushed {L D C : Type 0} (w : Want) (tells : Bool) (n : ℕ) (job : JobView) (mems : MemsNow) (a b : EngineView L D C) : Type 0 where
  pub is : w ≡ want.Flush
  pub back : HasRefrozen tells n job mems a b

module _ {L D C : Type 0} (tells : Bool) (seen : D → Files) (n : ℕ) (job : JobView) (a b : EngineView L D C) where
  compacted : (w : Want) (list : List RowSetData) → ReturnsBy w tells seen n job (returned.Rowsets list) a b → IsCompacted w tells n job list a b
  compacted want.Flush list never = absurd never
  compacted (want.Compact taken) list back = record { taken = taken; is = refl; back = back }
  compacted (want.FlushDeltas r) list never = absurd never
  compacted (want.Minor r) list never = absurd never
  compacted (want.Major r) list never = absurd never

  flushed : (w : Want) (mems : MemsNow) → ReturnsBy w tells seen n job (returned.Mems mems) a b → IsFlushed w tells n job mems a b
  flushed want.Flush mems back = record { is = refl; back = back }
  flushed (want.Compact taken) mems never = absurd never
  flushed (want.FlushDeltas r) mems never = absurd never
  flushed (want.Minor r) mems never = absurd never
  flushed (want.Major r) mems never = absurd never

  -- as it was handed out
  pub compacted_as : (w : Want) (list : List RowSetData) (r : Returned) → r ≡ returned.Rowsets list → ReturnsBy w tells seen n job r a b → IsCompacted w tells n job list a b
  compacted_as w list r is back = compacted w list (subst (λ (x : Returned). ReturnsBy w tells seen n job x a b) is back)

  pub flushed_as : (w : Want) (mems : MemsNow) (r : Returned) → r ≡ returned.Mems mems → ReturnsBy w tells seen n job r a b → IsFlushed w tells n job mems a b
  flushed_as w mems r is back = flushed w mems (subst (λ (x : Returned). ReturnsBy w tells seen n job x a b) is back)

-- ---- nothing else has changed

only_job : (n : ℕ) (x : Option JobView) (o w : UpkeepsView) → HasUpkeep n (record (upkeep_at n o.passes) { job = x }) o w → OnlyJob n o w
only_job n x o w h = h.own ∙ (λ k. record (upkeep_at n o.passes) { job = sym (ap (λ (u : UpkeepView). u.job) h.own) k })

module _ {L D C : Type 0} (n : ℕ) (a b : EngineView L D C) (visit : IsVisit n a b) where
  -- the tablet has not
  back_beside : b ≡ record a { upkeep = b.upkeep } → OnlyJob n a.upkeep b.upkeep → IsBack n a b
  back_beside beside own =
      let tablet : b.tablet ≡ a.tablet = ap (λ (v : EngineView L D C). v.tablet) beside in
      record {
        visit = visit;
        still = stands_same n a b tablet;
        beside = beside ∙ (λ k. record a { tablet = sym tablet k; upkeep = b.upkeep });
        line = ap (λ (t : View C). t.core.trail) tablet;
        goes = ap (λ (t : View C). t.core.stopped) tablet;
        aloft = ap (λ (t : View C). t.core.aloft) tablet;
        own = own;
      }

  pub back_same : b ≡ a → IsBack n a b
  back_same same =
      let upkeep : b.upkeep ≡ a.upkeep = ap (λ (v : EngineView L D C). v.upkeep) same in
      back_beside (same ∙ (λ k. record a { upkeep = sym upkeep k })) (ap (λ (u : UpkeepsView). upkeep_at n u.passes) upkeep ∙ (λ k. record (upkeep_at n a.upkeep.passes) { job = (upkeep_at n (sym upkeep k).passes).job }))

  pub back_returned : (tells : Bool) (job : JobView) (list : List RowSetData) → HasReturned tells n job list a b → IsBack n a b
  back_returned tells job list back = back_beside back.at.beside (only_job n _ a.upkeep b.upkeep back.at.upkeep)

  pub back_reread : (tells : Bool) (seen : D → Files) (job : JobView) (d : RowSetData) → HasReread tells seen n job d a b → IsBack n a b
  back_reread tells seen job d back = back_beside back.at.beside (only_job n _ a.upkeep b.upkeep back.at.upkeep)

  -- it froze once
  pub back_refrozen : (tells : Bool) (job : JobView) (mems : MemsNow) → HasRefrozen tells n job mems a b → IsBack n a b
  back_refrozen tells job mems back =
      let is = back.frozen.is in
      record {
        visit = visit;
        still = record { line = inl (ap (λ (t : View C). t.core.trail) is); session = ap (λ (t : View C). part t.core n) is; place = ap (λ (t : View C). place_at n t.places) is };
        beside = back.beside;
        line = ap (λ (t : View C). t.core.trail) is;
        goes = ap (λ (t : View C). t.core.stopped) is;
        aloft = ap (λ (t : View C). t.core.aloft) is;
        own = only_job n _ a.upkeep b.upkeep back.upkeep;
      }

-- it may still be given up
pub refrozen_abandon : {L D C : Type 0} (tells : Bool) (n : ℕ) (job : JobView) (mems : MemsNow) (a b : EngineView L D C) → HasRefrozen tells n job mems a b → MayAbandon b n
refrozen_abandon tells n job mems a b back = record {
  job = job_again back.many back.frozen.number mems job;
  has = ap (λ (u : UpkeepView). u.job) back.upkeep.own;
  early = tt;
  free = back.counted.1;
}

-- what the others have can be merged
pub since_order : {L D C : Type 0} (tells : Bool) (n : ℕ) (job : JobView) (mems : MemsNow) (a b : EngineView L D C) → HasRefrozen tells n job mems a b → mems.since.mark ≤ mems.since.bound
since_order tells n job mems a b back = subst (λ (m : ℕ). m ≤ mems.since.bound) (sym back.since.mark) (min-le_left mems.since.bound a.tablet.core.a)
