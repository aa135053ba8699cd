-- What the steps of a job on the files of one disk rowset do to the engine, and what its pass has between its visits.
use Rattle.std.specs.Prelude.{◌≡◌, ◌≢◌, ◌≤◌, ◌<◌, ◌+◌, ◌^◌, ℕ, Bool, IsTrue, [], Some, None}
use Rattle.kt_disk.specs.Disk.{Files}
use Rattle.kt_storeside.specs.declared.side.Lent.{Lent}
use Rattle.kt_storeside.specs.Sides.{StoreView}
use Rattle.kt_diskrowset.specs.declared.data.RowSetData.{RowSetData}
use Rattle.kt_diskrowset.specs.Data.{files_in, held_in, store_in}
use Rattle.kt_diskrowset.specs.Rows.{UndosLeadBack}
use Rattle.kt_diskrowset.specs.Rowset.{HeldFiles}
use Rattle.kt_files.specs.Reading.{HoldsRowset}
use Rattle.kt_merge.specs.Rewriting.{AddsRedo, MergesRedos, FoldsRedos}
use Rattle.kt_outputs.specs.Outputs.{meta_in, AreStable, IsWhole}
use Rattle.kt_outputs.specs.Rewriting.{HasNumbers, KeptStand}
use Rattle.kt_pick.specs.declared.rules.Want.{Want}
use Rattle.kt_pick.specs.declared.rules.Want.TheVariants as want
use Rattle.kt_tablet.specs.Jobs.{files_of}
use Rattle.kt_engine.specs.Engines.{EngineView}
use Rattle.kt_engine.specs.declared.upkeep.Stage.{Stage}
use Rattle.kt_engine.specs.declared.upkeep.Stage.TheVariants as stage
use Rattle.kt_engine.specs.Jobs.{JobView, job_of}
use Rattle.kt_engine.specs.DeltaJobs.{IsOn, IsRead, HasShape, TellsAll}
use Rattle.kt_engine.specs.Visits.{PartView}
use Rattle.kt_maint.specs.Runs.{LentToWrite}
use Rattle.kt_maint.specs.declared.reworking.Rework.{Rework}

-- the job of a pass for such a want is at a stage, and none publishes
pub record DeltasAt {L D C : Type 0} (v : EngineView L D C) (n : ℕ) (w : Want) (s : Stage) : Type 0 where
  pub job : JobView
  pub has : job_of n v.upkeep ≡ Some job
  pub at : job.stage ≡ s
  pub want : job.want ≡ w
  pub on : IsOn job.rowset w
  pub free : v.upkeep.publishing ≡ None
  pub begun : v.upkeep.begun ≢ 0

-- what a want leaves of files, where those that are to be written have no number yet
abbrev pub Leaves : Want → HeldFiles → HeldFiles → Type 0
Leaves (want.FlushDeltas r) old new = AddsRedo old new
Leaves (want.Minor r) old new = MergesRedos old new
Leaves (want.Major r) old new = FoldsRedos old new
Leaves _ old new = Unit {0}

-- its rowset as it is to be written: its files tell all that the tablet has of it, which was handed out, and the want leaves them of those that memory has
pub record IsMade {L D C : Type 0} (v : EngineView L D C) (n : ℕ) (w : Want) (d : RowSetData) : Type 0 where
  pub at : DeltasAt v n w stage.Read
  pub all : TellsAll v.tablet at.job.dms d
  pub shape : HasShape w d
  pub was : HeldFiles
  pub there : files_of d.number v.tablet.files ≡ Some was
  pub leaves : Leaves w was (held_in d)
  pub read : RowSetData
  pub has_read : (at.job.read ≡ Some read) × (was ≡ held_in read)
  pub same : store_in d ≡ store_in read
  pub lead : UndosLeadBack (files_in d)
  pub whole : IsWhole d

-- its rowset was handed out, all that the tablet has of it
pub record HasReadOne {L D C : Type 0} (v : EngineView L D C) (n : ℕ) (w : Want) (d : RowSetData) : Type 0 where
  pub at : DeltasAt v n w stage.Read
  pub read : at.job.read ≡ Some d
  pub is : IsRead v.tablet at.job.rowset at.job.dms d
  pub held : files_of d.number v.tablet.files ≡ Some (held_in d)

-- Its files that had no number are written under new ones, from one on that lies above those of the published superblock, and the others stay
pub record HasRewritten {D : Type 0} (tells : Bool) (seen : D → Files) (now : D → ℕ) (leaves : D → ℕ → Files → Type 0) (store : StoreView D) (d out : RowSetData) : Type 0 where
  pub same : files_in out ≡ files_in d
  pub fresh : out.fresh ≡ []
  pub first : ℕ
  pub low : store.meta.next_file ≤ first
  pub numbered : HasNumbers first store.next_file (held_in d) (held_in out)
  pub holds : IsTrue tells → KeptStand (seen store.known) d → (dms : ℕ) → HoldsRowset (seen store.known) (meta_in dms out) (held_in out)
  pub stable : IsTrue tells → AreStable seen now leaves first store.next_file store.known

-- the rowset of a job, which has come home written and may be handed in
pub record MayHandOne {L D C : Type 0} (tells : Bool) (seen : D → Files) (now : D → ℕ) (leaves : D → ℕ → Files → Type 0) (v : EngineView L D C) (n : ℕ) (w : Want) (out : RowSetData) : Type 0 where
  pub d : RowSetData
  pub made : IsMade v n w d
  pub files : HasRewritten tells seen now leaves v.store d out

-- ---- outside the lock

-- A pass has the store out to write files, with numbers up to this one
pub record IsOutWith {L D C : Type 0} (n most : ℕ) (lent : Lent D) (part : PartView L D C) : Type 0 where
  pub log : part.pass.out ≡ None
  pub store : StoreView D
  pub has : part.turn ≡ Some store
  pub to_write : LentToWrite n store lent
  pub near : store.next_rowset < part.root.first_rowset + 2 ^ 44
  pub near_files : store.next_file < part.root.first_file + 2 ^ 44
  pub few_files : most ≤ lent.next_file + 2 ^ 34

-- what can be written to: a device that has no file of a number that is still to be given
pub record IsVacant {D : Type 0} (tells : Bool) (seen : D → Files) (lent : Lent D) : Type 0 where
  pub vacant : IsTrue tells → (n : ℕ) → lent.next_file ≤ n → seen lent.device n ≡ None
  pub apart : 3 ≤ lent.next_file

-- Between its visits a pass has the store out to write files, and a job for this want outside the lock, with what was read of its disk rowset
pub record IsAwayOne {L D C : Type 0} (tells : Bool) (seen : D → Files) (n : ℕ) (w : Want) (out : Rework D) (part : PartView L D C) : Type 0 where
  pub out_with : IsOutWith n out.most out.lent part
  pub vacant : IsVacant tells seen out.lent
  pub job : JobView
  pub own : part.pass.upkeep.job ≡ Some job
  pub at : job.stage ≡ stage.Outside
  pub want : (job.want ≡ w) × (out.want ≡ w)
  pub on : IsOn job.rowset w × IsOn out.rowset.number w
  pub read : job.read ≡ Some out.rowset
