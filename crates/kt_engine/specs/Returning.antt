-- What a job takes with it outside the lock, and how it comes back.
use Rattle.std.specs.Prelude.{◌≡◌, ◌≢◌, ◌≤◌, ◌<◌, ◌^◌, ℕ, suc, min, Bool, IsTrue, List, [], ◌∷◌, ◌++◌, length, map, Some, None}
use Rattle.std.specs.List.{AllByRecursion}
use Rattle.kt_disk.specs.Disk.{Files}
use Rattle.kt_history.specs.declared.changes.KeyChange.{KeyChange}
use Rattle.kt_history.specs.History.{Past}
use Rattle.kt_history.specs.Stores.{Hist, never}
use Rattle.kt_histlaws.specs.Flights.{AllUnder}
use Rattle.kt_histlaws.specs.Histories.{hists}
use Rattle.kt_rowfiles.specs.Merging.{joined_history}
use Rattle.kt_content.specs.Rules.{Rules, HistPasses}
use Rattle.kt_diskrowset.specs.declared.data.RowSetData.{RowSetData}
use Rattle.kt_diskrowset.specs.declared.inputs.Inputs.{Inputs}
use Rattle.kt_diskrowset.specs.Data.{held_in, store_in}
use Rattle.kt_merge.specs.Late.{HasNoneAbove}
use Rattle.kt_merge.specs.Changes.{hist_in_changes}
use Rattle.kt_merge.specs.Merge.{hists_of, hists_upto, rows_and_changes, AreReadable, AreFaultless}
use Rattle.kt_joblaws.specs.Apart.{AreApart}
use Rattle.kt_joblaws.specs.Late.{AllHaveLater}
use Rattle.kt_pick.specs.declared.rules.Want.{Want}
use Rattle.kt_pick.specs.declared.rules.Want.TheVariants as want
use Rattle.kt_schema.specs.Columns.{other_columns}
use Rattle.kt_stores.specs.Takes.{mems, rowsets as disks}
use Rattle.kt_tablet.specs.Views.{View}
use Rattle.kt_tablet.specs.Jobs.{taken_stores, files_of, HasFrozen}
use Rattle.kt_engine.specs.declared.again.MemsNow.{MemsNow}
use Rattle.kt_engine.specs.declared.job.JobInput.{JobInput}
use Rattle.kt_engine.specs.declared.job.Returned.{Returned}
use Rattle.kt_engine.specs.declared.job.Returned.TheVariants as returned
use Rattle.kt_engine.specs.declared.upkeep.Stage.TheVariants as stage
use Rattle.kt_engine.specs.Columns.{shape_of}
use Rattle.kt_engine.specs.DeltaJobs.{IsRead}
use Rattle.kt_engine.specs.Engines.{EngineView, IsFound, IsContent}
use Rattle.kt_engine.specs.Files.{IsFiled}
use Rattle.kt_engine.specs.Jobs.{JobView, HasUpkeep, upkeep_at}
use Rattle.kt_engine.specs.JobCalls.{ByWant}
use Rattle.kt_engine.specs.JobSteps.{Reads, TakesInputs, AtNewStage}
use Rattle.kt_engine.specs.Logged.{PlanPasses}
use Rattle.kt_engine.specs.Near.{first_number}
use Rattle.kt_engine.specs.Outside.{FilesAreUpTo, hists_read, job_again, job_back}

-- what was handed out to a job is all that it takes has, as of its bound, while nothing flies
pub record LeavesAs {C : Type 0} (v : View C) (job : JobView) : Type 0 where
  pub inputs : Inputs
  pub read : job.inputs ≡ Some inputs
  pub bound : job.bound ≡ v.core.c
  pub mark : job.mark ≡ min job.bound v.core.a
  pub reads : Reads v job.taken job.bound inputs
  pub files : FilesAreUpTo job.taken v

-- A compaction goes on in this visit, while nothing flies: this is all that its disk rowsets have now. It may publish what it took with it, once its outputs have what came later
pub record HasReturned {L D C : Type 0} (tells : Bool) (n : ℕ) (job : JobView) (list : List RowSetData) (old new : EngineView L D C) : Type 0 where
  pub many : ℕ
  pub at : AtNewStage n (job_back many (first_number old.tablet.names) list job) old new
  pub takes : TakesInputs new (job_back many (first_number old.tablet.names) list job)
  pub as_many : length new.tablet.names ≡ length new.tablet.core.stores
  pub free : new.upkeep.publishing ≡ None
  pub begun : new.upkeep.begun ≢ 0
  pub inputs : Inputs
  pub read : job.inputs ≡ Some inputs
  pub stores : map store_in list ≡ taken_stores (disks job.taken) new.tablet
  pub later : (first : Past) → IsFound new first → (q : List ℕ) → AllHaveLater job.bound (hists_of q inputs) (hists q (taken_stores (disks job.taken) new.tablet))
  pub apart : (first : Past) → IsFound new first → (q : List ℕ) → AreApart job.mark (hists_of q inputs) × AllUnder (suc job.bound) (hists_of q inputs)
  pub upto : (first : Past) → IsFound new first → AllByRecursion (HasNoneAbove job.bound) list
  pub mark : (job.mark ≤ job.bound) × (job.mark ≤ new.tablet.core.a)
  pub passes : IsTrue tells → (rules : Rules) (first : Past) → IsContent rules new first → PlanPasses rules new.tablet.core.work
      → (q : List ℕ) → HistPasses rules q (joined_history job.mark (hists q (taken_stores (disks job.taken) new.tablet)))

-- what was read of MemRowSets, as of the last timestamp and from the tablet's mark on
pub record IsReadOf {C : Type 0} (v : View C) (input : JobInput) : Type 0 where
  pub bound : input.bound ≡ v.core.c
  pub mark : input.mark ≡ min input.bound v.core.a
  pub no_rowsets : input.inputs.rowsets ≡ []
  pub readable : AreReadable input.inputs
  pub few : rows_and_changes input.inputs < 2 ^ 31

-- what these lists have of a key
abbrev pub hists_in : List ℕ → List (List KeyChange) → List Hist
hists_in q lists = map (hist_in_changes q) lists

-- A flush goes on in this visit, while nothing flies. The MemRowSet that took inserts is frozen, and it takes all that are frozen now. What it took with it has what was read, with later changes behind; and what came to the others
-- meanwhile was read anew, without fault. It may publish both, once outputs hold them
pub record HasRefrozen {L D C : Type 0} (tells : Bool) (n : ℕ) (job : JobView) (m : MemsNow) (old new : EngineView L D C) : Type 0 where
  pub many : ℕ
  pub frozen : HasFrozen old.tablet new.tablet
  pub upkeep : HasUpkeep n (record (upkeep_at n old.upkeep.passes) { job = Some (job_again many frozen.number m job) }) old.upkeep new.upkeep
  pub counted : (new.upkeep.begun ≡ suc old.upkeep.begun) × (new.upkeep.publishing ≡ None)
  pub beside : new ≡ record old { tablet = new.tablet; upkeep = new.upkeep }
  pub takes : TakesInputs new (job_again many frozen.number m job)
  pub as_many : length new.tablet.names ≡ length new.tablet.core.stores
  pub inputs : Inputs
  pub read : job.inputs ≡ Some inputs
  pub since : IsReadOf old.tablet m.since
  pub columns : m.since.inputs.columns ≡ map shape_of (other_columns old.store.meta.schema)
  pub mark : (job.mark ≤ job.bound) × (job.mark ≤ new.tablet.core.a)
  pub front : (first : Past) → IsFound new first → (q : List ℕ) → hists_of q inputs ≡ never ∷ hists_read want.Flush inputs q
  pub later : (first : Past) → IsFound new first → (q : List ℕ) → AllHaveLater job.bound (hists_read want.Flush inputs q) (hists_in q m.now)
  pub apart : (first : Past) → IsFound new first → (q : List ℕ) → AreApart job.mark (hists_read want.Flush inputs q) × AllUnder (suc job.bound) (hists_read want.Flush inputs q)
  pub parts : (first : Past) → IsFound new first → (q : List ℕ) → hists_upto m.since.bound q m.since.inputs ++ hists_in q m.now ≡ hists q (taken_stores (mems frozen.number) new.tablet)
  pub whole : (first : Past) → IsFound new first → (q : List ℕ) → AreApart new.tablet.core.a (hists q (taken_stores (mems frozen.number) new.tablet))
  pub faultless : (first : Past) → IsFound new first → AreFaultless (record { mark = m.since.mark; bound = m.since.bound }) m.since.inputs
  pub passes : IsTrue tells → (rules : Rules) (first : Past) → IsContent rules new first → PlanPasses rules new.tablet.core.work
      → (q : List ℕ) → HistPasses rules q (joined_history job.mark (hists_in q m.now)) × HistPasses rules q (joined_history m.since.mark (hists_upto m.since.bound q m.since.inputs))

-- the rowset of a job on its files has those that were handed out
pub record LeavesOne {C : Type 0} (v : View C) (job : JobView) : Type 0 where
  pub was : RowSetData
  pub read : job.read ≡ Some was
  pub held : files_of job.rowset v.files ≡ Some (held_in was)

-- what a job takes with it, by its want
abbrev pub MayLeave : {L D C : Type 0} → EngineView L D C → JobView → Type 0
MayLeave v job = ByWant job.want (TakesInputs v job × LeavesAs v.tablet job) (λ rowset. LeavesOne v.tablet job)

-- A job on the files of a disk rowset goes on in this visit: this is all that its rowset has now, in the same files, and counts as what was handed out. They are those that the published superblock names, or what can be read of them
pub record HasReread {L D C : Type 0} (tells : Bool) (seen : D → Files) (n : ℕ) (job : JobView) (d : RowSetData) (old new : EngineView L D C) : Type 0 where
  pub dms : ℕ
  pub is : IsRead old.tablet job.rowset dms d
  pub held : files_of d.number old.tablet.files ≡ Some (held_in d)
  pub filed : IsFiled tells (seen old.store.known) old.store.meta.rowsets d.number (held_in d)
  pub was : RowSetData
  pub read : job.read ≡ Some was
  pub same : held_in d ≡ held_in was
  pub at : AtNewStage n (record job { stage = stage.Read; dms = dms; read = Some d }) old new
  pub free : new.upkeep.publishing ≡ None
  pub begun : new.upkeep.begun ≢ 0

-- what is handed out as a job comes back, by its want
abbrev pub ReturnsBy : {L D C : Type 0} → Want → Bool → (D → Files) → ℕ → JobView → Returned → EngineView L D C → EngineView L D C → Type 0
ReturnsBy want.Flush tells seen n job (returned.Mems m) old new = HasRefrozen tells n job m old new
ReturnsBy (want.Compact taken) tells seen n job (returned.Rowsets list) old new = HasReturned tells n job list old new
ReturnsBy (want.FlushDeltas r) tells seen n job (returned.Rowset d) old new = HasReread tells seen n job d old new
ReturnsBy (want.Minor r) tells seen n job (returned.Rowset d) old new = HasReread tells seen n job d old new
ReturnsBy (want.Major r) tells seen n job (returned.Rowset d) old new = HasReread tells seen n job d old new
ReturnsBy _ tells seen n job _ old new = ⊥
