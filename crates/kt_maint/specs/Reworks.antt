-- What a job on the files of one disk rowset wrote outside the lock, and how it comes back with that.
use Rattle.std.specs.Prelude.{◌≡◌, ◌≤◌, ◌⊎◌, ℕ, Bool, IsTrue, [], Result, IfOk}
use Rattle.kt_disk.specs.Disk.{Files}
use Rattle.kt_diskrowset.specs.declared.data.RowSetData.{RowSetData}
use Rattle.kt_diskrowset.specs.Data.{files_in, held_in}
use Rattle.kt_files.specs.Reading.{HoldsRowset}
use Rattle.kt_merge.specs.Rewriting.{IsRewritten}
use Rattle.kt_outputs.specs.Outputs.{meta_in, AreStable, IsWhole}
use Rattle.kt_outputs.specs.Rewriting.{HasNumbers, KeptStand}
use Rattle.kt_outputs.specs.declared.outputs.WriteNo.{WriteNo}
use Rattle.kt_storeside.specs.declared.side.Lent.{Lent}
use Rattle.kt_storeside.specs.Sides.{StoreView}
use Rattle.kt_pick.specs.declared.rules.Want.{Want}
use Rattle.kt_engine.specs.DeltaJobs.{IsOn, HasShape}
use Rattle.kt_engine.specs.Engines.{EngineView}
use Rattle.kt_engine.specs.Visits.{PartView}
use Rattle.kt_maint.specs.DeltaRuns.{IsAwayOne, IsMade, IsVacant, Leaves}
use Rattle.kt_maint.specs.Outside.{HasAdded, HasCome, HasWritten, KeepsRead, MayWrite}
use Rattle.kt_maint.specs.declared.reworking.Away.{Away}
use Rattle.kt_maint.specs.declared.reworking.Away.TheVariants as away
use Rattle.kt_maint.specs.declared.reworking.Came.{Came}
use Rattle.kt_maint.specs.declared.reworking.Came.TheVariants as came
use Rattle.kt_maint.specs.declared.reworking.Made.{Made}
use Rattle.kt_maint.specs.declared.reworking.Rework.{Rework}
use Rattle.kt_maint.specs.declared.reworking.Reworked.{Reworked}

-- files that had no number are written under the next ones, and no rowset number was used
pub record HaveNewFiles {D : Type 0} (tells : Bool) (seen : D → Files) (now : D → ℕ) (leaves : D → ℕ → Files → Type 0) (went came : Lent D) (d out : RowSetData) : Type 0 where
  pub same : files_in out ≡ files_in d
  pub fresh : out.fresh ≡ []
  pub numbered : HasNumbers went.next_file came.next_file (held_in d) (held_in out)
  pub holds : IsTrue tells → KeptStand (seen came.device) d → (dms : ℕ) → HoldsRowset (seen came.device) (meta_in dms out) (held_in out)
  pub stable : IsTrue tells → AreStable seen now leaves went.next_file came.next_file came.device

-- a disk rowset as a want leaves it, of what was read of it, is written
pub record IsWrittenOf {D : Type 0} (tells : Bool) (seen : D → Files) (now : D → ℕ) (leaves : D → ℕ → Files → Type 0) (w : Want) (read : RowSetData) (went came : Lent D) (out : RowSetData) : Type 0 where
  pub made : RowSetData
  pub same : IsRewritten read made
  pub shape : HasShape w made
  pub leave : Leaves w (held_in read) (held_in made)
  pub whole : IsWhole made
  pub files : HaveNewFiles tells seen now leaves went came made out

-- the store is as it was but for files of new numbers, and where it did not fail the rowset is written
pub record HasReworked {D : Type 0} (tells : Bool) (seen : D → Files) (now : D → ℕ) (leaves : D → ℕ → Files → Type 0) (faults : D → ℕ) (most : ℕ) (w : Want) (read : RowSetData) (went came : Lent D) (result : Result RowSetData WriteNo) : Type 0 where
  pub added : HasAdded tells seen now leaves faults most went came result
  pub files : IfOk result (λ out. IsWrittenOf tells seen now leaves w read went came out)

-- and the changes in memory that it was made with are kept
pub record HasMade {D : Type 0} (tells : Bool) (seen : D → Files) (now : D → ℕ) (leaves : D → ℕ → Files → Type 0) (faults : D → ℕ) (most : ℕ) (w : Want) (read : RowSetData) (went came : Lent D) (result : Result Made WriteNo) : Type 0 where
  pub added : HasAdded tells seen now leaves faults most went came result
  pub files : IfOk result (λ made. (made.fresh ≡ read.fresh) × IsWrittenOf tells seen now leaves w read went came made.rowset)

-- ---- outside the lock, by what a job has there

abbrev pub MayWork : {D : Type 0} → Bool → (D → Files) → Away D → Type 0
MayWork tells seen (away.Merge out) = MayWrite tells seen out
MayWork tells seen (away.One out) = IsOn out.rowset.number out.want × IsVacant tells seen out.lent

abbrev pub HasWorked : {D : Type 0} → Bool → (D → Files) → (D → ℕ) → (D → ℕ → Files → Type 0) → (D → ℕ) → Away D → Came D → Type 0
HasWorked tells seen now leaves faults (away.Merge out) (came.Merge c) = (c.bound ≡ out.input.bound) × (c.most ≡ out.most) × HasWritten tells seen now leaves faults out.most out.input out.lent c.lent c.written
HasWorked tells seen now leaves faults (away.One out) (came.One c) = (c.want ≡ out.want) × (c.most ≡ out.most) × HasMade tells seen now leaves faults out.most out.want out.rowset out.lent c.lent c.written
HasWorked tells seen now leaves faults _ _ = ⊥

-- such a job comes back from outside with the store and with what was written
pub record HasComeOne {L D C : Type 0} (tells : Bool) (seen : D → Files) (now : D → ℕ) (leaves : D → ℕ → Files → Type 0) (faults : D → ℕ) (n : ℕ) (w : Want) (most : ℕ) (lent : Lent D) (result : Result Made WriteNo) (part : PartView L D C) : Type 0 where
  pub out : Rework D
  pub away : IsAwayOne tells seen n w out part
  pub most_is : most ≡ out.most
  pub written : HasMade tells seen now leaves faults most w out.rowset out.lent lent result

-- a job comes back, by what it has
abbrev pub HasComeBy : {L D C : Type 0} → Bool → (D → Files) → (D → ℕ) → (D → ℕ → Files → Type 0) → (D → ℕ) → ℕ → Came D → PartView L D C → Type 0
HasComeBy tells seen now leaves faults n (came.Merge c) part = HasCome tells seen now leaves faults n c.bound c.most c.lent c.written part
HasComeBy tells seen now leaves faults n (came.One c) part = HasComeOne tells seen now leaves faults n c.want c.most c.lent c.written part

-- A rowset is written as it is now: as it was outside, where it has the changes in memory that this was made with, or anew
abbrev pub IsWrittenNow : {D : Type 0} → Bool → (D → Files) → (D → ℕ) → (D → ℕ → Files → Type 0) → Want → RowSetData → Made → Lent D → Lent D → RowSetData → Type 0
IsWrittenNow tells seen now leaves w d made went came out = ((d.fresh ≡ made.fresh) × (out ≡ made.rowset) × (came ≡ went)) ⊎ IsWrittenOf tells seen now leaves w d went came out

-- Its rowset may be handed in once the store is home: as it was written outside, where it is as it was read, or as it was written anew
pub record IsPutOne {L D C : Type 0} (tells : Bool) (seen : D → Files) (now : D → ℕ) (leaves : D → ℕ → Files → Type 0) (n : ℕ) (w : Want) (came : Lent D) (out : RowSetData) (old new : EngineView L D C) : Type 0 where
  pub beside : new ≡ record old { upkeep = new.upkeep }
  pub reads : KeepsRead n old.upkeep new.upkeep
  pub d : RowSetData
  pub made : IsMade new n w d
  pub first : ℕ
  pub low : old.store.next_file ≤ first
  pub same : files_in out ≡ files_in d
  pub fresh : out.fresh ≡ []
  pub numbered : HasNumbers first came.next_file (held_in d) (held_in out)
  pub holds : IsTrue tells → KeptStand (seen came.device) d → (dms : ℕ) → HoldsRowset (seen came.device) (meta_in dms out) (held_in out)
  pub stable : IsTrue tells → AreStable seen now leaves first came.next_file came.device
