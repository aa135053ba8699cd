-- Jobs on the files of one disk rowset: what each event asks, and what it did. Such a job leaves files that tell all that the stores in memory have of the
-- rowset: some that were there, and others that it wrote.
use Rattle.std.specs.Prelude.{◌≡◌, ◌≢◌, ◌<◌, ◌≤◌, ◌==◌, ◌⊎◌, ℕ, suc, Bool, true, IsTrue, List, [], ◌∷◌, ◌++◌, length, Some, None, if◌then◌else◌}
use Rattle.std.specs.List.Sorted.{IsNonDecreasingBy}
use Rattle.kt_disk.specs.Disk.{Files}
use Rattle.kt_history.specs.declared.changes.Delta.{Delta}
use Rattle.kt_rowfiles.specs.Files.{DiskRowset}
use Rattle.kt_rowfiles.specs.Fitting.{undos_fit}
use Rattle.kt_super.specs.declared.meta.Meta.{Meta}
use Rattle.kt_super.specs.declared.meta.MetaRowset.{MetaRowset}
use Rattle.kt_super.specs.Rowsets.{is_small}
use Rattle.kt_pick.specs.declared.rules.Want.{Want}
use Rattle.kt_pick.specs.declared.rules.Want.TheVariants as want
use Rattle.kt_diskrowset.specs.declared.data.RowSetData.{RowSetData}
use Rattle.kt_diskrowset.specs.Data.{held_in, files_in, store_in}
use Rattle.kt_diskrowset.specs.Held.{store_told}
use Rattle.kt_diskrowset.specs.Rows.{UndosLeadBack}
use Rattle.kt_diskrowset.specs.Rowset.{HeldFiles}
use Rattle.kt_files.specs.Reading.{HoldsRowset}
use Rattle.kt_merge.specs.Rewriting.{HasAtMostOneRedo, HasDeletesOnly}
use Rattle.kt_outputs.specs.InPlace.{in_place, entry_of}
use Rattle.kt_outputs.specs.Outputs.{meta_in}
use Rattle.kt_storeside.specs.Sides.{MayBeLent, IsWithin}
use Rattle.kt_tablet.specs.Views.{View}
use Rattle.kt_tablet.specs.Jobs.{dms_in, store_in_names, next_dms, files_of, with_files}
use Rattle.kt_engine.specs.declared.upkeep.Stage.TheVariants as stage
use Rattle.kt_engine.specs.Engines.{EngineView}
use Rattle.kt_engine.specs.Stored.{next_super}
use Rattle.kt_engine.specs.JobSteps.{IsNothing}
use Rattle.kt_engine.specs.Jobs.{JobView, UpkeepsView, HasUpkeep, upkeep_at, job_of, asked, job_finished}

-- a want is on the files of this disk rowset, and of no other
abbrev pub IsOn : ℕ → Want → Type 0
IsOn r want.Flush = ⊥
IsOn r (want.FlushDeltas s) = s ≡ r
IsOn r (want.Minor s) = s ≡ r
IsOn r (want.Major s) = s ≡ r
IsOn r (want.Compact rowsets) = ⊥

-- ---- what there is to do

-- how many REDO files a superblock names of a disk rowset
abbrev pub redo_files : ℕ → List MetaRowset → ℕ
redo_files r [] = 0
redo_files r (m ∷ rowsets) = if m.rowset == r then length m.redo else redo_files r rowsets

-- there is nothing to do for a want, each by itself: as for any, where there are too few REDO files, or where the rowset is what its files tell
pub data HasNoWork {L D C : Type 0} (v : EngineView L D C) (w : Want) : Type 0 where
  nothing : IsNothing v w → HasNoWork v w
  one_file : (r : ℕ) → w ≡ want.Minor r → redo_files r v.store.meta.rowsets < 2 → HasNoWork v w
  no_file : (r : ℕ) → w ≡ want.Major r → redo_files r v.store.meta.rowsets ≡ 0 → HasNoWork v w
  no_changes : (r : ℕ) → w ≡ want.FlushDeltas r → (h : HeldFiles) → files_of r v.tablet.files ≡ Some h → store_in_names r v.tablet.names v.tablet.core.stores ≡ store_told h → HasNoWork v w

-- ---- it begins

-- A job has begun, and nothing else has changed. Its rowset is there, and it has no output
pub record HasBegunDeltas {L D C : Type 0} (old new : EngineView L D C) (n : ℕ) (w : Want) (k : ℕ) : Type 0 where
  pub job : JobView
  pub number : (job.number ≡ k) × (k ≡ suc old.upkeep.begun) × (new.upkeep.begun ≡ k) × (new.upkeep.publishing ≡ None)
  pub want_is : job.want ≡ w
  pub stage_is : job.stage ≡ stage.Begun
  pub on : IsOn job.rowset w
  pub there : (dms : ℕ) × (dms_in job.rowset old.tablet.names ≡ Some dms)
  pub none : (job.output ≡ None) × (job.held ≡ [])
  pub upkeep : HasUpkeep n (asked w job (upkeep_at n old.upkeep.passes)) old.upkeep new.upkeep
  pub beside : new ≡ record old { upkeep = new.upkeep }

-- ---- on the way

-- what was read of a disk rowset is all that the tablet has of it, and this DeltaMemStore takes its changes
pub record IsRead {C : Type 0} (tablet : View C) (r dms : ℕ) (d : RowSetData) : Type 0 where
  pub number : d.number ≡ r
  pub name : dms_in r tablet.names ≡ Some dms
  pub store : store_in d ≡ store_in_names r tablet.names tablet.core.stores
  pub lead : UndosLeadBack (files_in d)
  pub order : IsNonDecreasingBy (λ (c : Delta). c.ordinal) d.fresh

-- its files tell all of it
pub record TellsAll {C : Type 0} (tablet : View C) (dms : ℕ) (d : RowSetData) : Type 0 where
  pub name : dms_in d.number tablet.names ≡ Some dms
  pub store : store_in d ≡ store_in_names d.number tablet.names tablet.core.stores
  pub fresh : d.fresh ≡ []

-- how a want leaves the REDO files of its rowset
abbrev pub RedosAs : Want → DiskRowset → Type 0
RedosAs (want.Minor r) d = HasAtMostOneRedo d
RedosAs (want.Major r) d = HasDeletesOnly d
RedosAs _ d = Unit {0}

-- A disk rowset as a want leaves it: the one that it is on, without a change in memory
pub record HasShape (w : Want) (d : RowSetData) : Type 0 where
  pub on : IsOn d.number w
  pub fresh : d.fresh ≡ []
  pub redos : RedosAs w (files_in d)

-- ---- which of its files stay

-- all stay, and one more at most comes behind
pub record StayBut {A : Type 0} (old new : List A) : Type 0 where
  pub more : List A
  pub are : new ≡ old ++ more
  pub few : length more ≤ 1

-- a flush of changes adds a REDO file, a minor compaction leaves the base and UNDO files, and a major one adds an UNDO file
abbrev pub FilesStay : Want → HeldFiles → HeldFiles → Type 0
FilesStay (want.FlushDeltas r) old new = (new.base ≡ old.base) × (new.undos ≡ old.undos) × StayBut old.redos new.redos
FilesStay (want.Minor r) old new = (new.base ≡ old.base) × (new.undos ≡ old.undos)
FilesStay (want.Major r) old new = StayBut old.undos new.undos
FilesStay _ old new = Unit {0}

-- of the files that memory has of a rowset
pub record StayIn (w : Want) (files : List HeldFiles) (d : RowSetData) : Type 0 where
  pub was : HeldFiles
  pub there : files_of d.number files ≡ Some was
  pub stay : FilesStay w was (held_in d)

-- and as superblocks name them: UNDO files that could not be read are named no more
abbrev pub EntryStays : Want → MetaRowset → MetaRowset → Type 0
EntryStays (want.FlushDeltas r) old new = (new.base ≡ old.base) × ((new.undo ≡ old.undo) ⊎ (new.undo ≡ [])) × StayBut old.redo new.redo
EntryStays (want.Minor r) old new = (new.base ≡ old.base) × ((new.undo ≡ old.undo) ⊎ (new.undo ≡ []))
EntryStays (want.Major r) old new = StayBut old.undo new.undo ⊎ (length new.undo ≤ 1)
EntryStays _ old new = Unit {0}

pub record StayNamed (w : Want) (r : ℕ) (old new : List MetaRowset) : Type 0 where
  pub was : MetaRowset
  pub there : entry_of r old ≡ Some was
  pub is : MetaRowset
  pub now : entry_of r new ≡ Some is
  pub stays : EntryStays w was is

-- ---- its superblock

-- the next superblock with the files that were written, which hold all DeltaMemStores up to this one
abbrev pub with_rowset : MetaRowset → Meta → Meta
with_rowset m next = record next { rowsets = in_place m next.rowsets }

abbrev pub delta_meta : {L D C : Type 0} → EngineView L D C → ℕ → RowSetData → Meta
delta_meta view dms d = with_rowset (meta_in dms d) (next_super view)

-- after a minor or a major compaction a superblock names at most one REDO file of the rowset
abbrev pub NamesAtMostOneRedo : Want → List MetaRowset → Type 0
NamesAtMostOneRedo (want.Minor r) rowsets = redo_files r rowsets ≤ 1
NamesAtMostOneRedo (want.Major r) rowsets = redo_files r rowsets ≤ 1
NamesAtMostOneRedo _ rowsets = Unit {0}

-- It may be published, while nothing flies: its files tell all that the tablet has, stand on the device and fit, and its superblock may be lent where the one
-- with the old files may, if it lies within the bounds of the store
pub record MayPublishDeltas {L D C : Type 0} (tells : Bool) (seen : D → Files) (now : D → ℕ) (leaves : D → ℕ → Files → Type 0) (v : EngineView L D C) (job : JobView) (d : RowSetData) : Type 0 where
  pub at : job.stage ≡ stage.Written
  pub output : job.output ≡ Some d
  pub shape : HasShape job.want d
  pub stay : StayIn job.want v.tablet.files d
  pub calm : v.tablet.core.aloft ≡ []
  pub all : TellsAll v.tablet job.dms d
  pub fits : undos_fit (files_in d) ≡ true
  pub begun : v.upkeep.begun ≢ 0
  pub hold : IsTrue tells → HoldsRowset (seen v.store.known) (meta_in job.dms d) (held_in d)
  pub lent : MayBeLent tells seen now leaves v.store (next_super v) → is_small job.dms ≡ true → IsWithin v.store.first.most (delta_meta v job.dms d) → MayBeLent tells seen now leaves v.store (delta_meta v job.dms d)

-- The store as it goes out with this superblock, while the next DeltaMemStore of the rowset takes its changes; and what passes have of maintenance then
abbrev pub lent_deltas : {L D C : Type 0} → EngineView L D C → ℕ → ℕ → Meta → UpkeepsView → EngineView L D C
lent_deltas v n r m upkeep = record v { tablet = record v.tablet { names = next_dms r v.tablet.names }; store = record v.store { home = None; holder = Some n; lent = Some m }; upkeep = upkeep }

-- ---- it ends

-- Its files may take the place of the old ones in memory: they tell all that the tablet has, and the job's superblock is the published one
pub record MayFinishDeltas {L D C : Type 0} (v : EngineView L D C) (n : ℕ) (job : JobView) (d : RowSetData) : Type 0 where
  pub at : job.stage ≡ stage.Published
  pub output : job.output ≡ Some d
  pub published : (v.upkeep.publishing ≡ Some n) × (job.super ≤ v.store.meta.number) × (v.store.lent ≡ None)
  pub there : (dms : ℕ) × (dms_in d.number v.tablet.names ≡ Some dms)
  pub store : store_in d ≡ store_in_names d.number v.tablet.names v.tablet.core.stores
  pub fresh : d.fresh ≡ []
  pub lead : UndosLeadBack (files_in d)

-- The job is over. The tablet has what it had, in fewer cells, and the rowset has these files
pub record HasFinishedDeltas {L D C : Type 0} (n : ℕ) (old new : EngineView L D C) : Type 0 where
  pub job : JobView
  pub had : job_of n old.upkeep ≡ Some job
  pub output : RowSetData
  pub gave : job.output ≡ Some output
  pub upkeep : HasUpkeep n (job_finished job.want (upkeep_at n old.upkeep.passes)) old.upkeep new.upkeep
  pub begun : (new.upkeep.begun ≡ old.upkeep.begun) × (new.upkeep.publishing ≡ None)
  pub beside : new ≡ record old { tablet = record old.tablet { pool = new.tablet.pool; files = with_files (held_in output) old.tablet.files }; upkeep = new.upkeep }
