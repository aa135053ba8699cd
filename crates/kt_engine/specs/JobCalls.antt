-- What the calls of a job ask and did, for each want: a flush and a compaction merge what they take, and the others write the files of one disk rowset again.
use Rattle.std.specs.Prelude.{◌≡◌, ℕ, Bool, true, List, [], ◌∷◌, min, Option, Some, None}
use Rattle.std.specs.Option.{option_map}
use Rattle.kt_disk.specs.Disk.{Files}
use Rattle.kt_super.specs.declared.meta.Meta.{Meta}
use Rattle.kt_rowfiles.specs.Fitting.{undos_fit}
use Rattle.kt_pick.specs.declared.rules.Want.{Want}
use Rattle.kt_pick.specs.declared.rules.Want.TheVariants as want
use Rattle.kt_diskrowset.specs.declared.data.RowSetData.{RowSetData}
use Rattle.kt_diskrowset.specs.declared.inputs.Inputs.{Inputs}
use Rattle.kt_diskrowset.specs.Data.{held_in, files_in}
use Rattle.kt_diskrowset.specs.Rows.{UndosLeadBack}
use Rattle.kt_diskrowset.specs.Rowset.{HeldFiles}
use Rattle.kt_tablet.specs.Jobs.{files_of, next_dms}
use Rattle.kt_engine.specs.declared.store.Purpose.{Purpose}
use Rattle.kt_engine.specs.declared.store.Purpose.TheVariants as purpose
use Rattle.kt_engine.specs.declared.upkeep.Stage.TheVariants as stage
use Rattle.kt_engine.specs.Engines.{EngineView}
use Rattle.kt_engine.specs.Files.{IsFiled}
use Rattle.kt_engine.specs.Jobs.{JobView, UpkeepsView, job_of, rewritten}
use Rattle.kt_engine.specs.Stored.{meta_for}
use Rattle.kt_engine.specs.JobSteps.{AtNewStage, MayPublishJob, MayFinish, HasFinished}
use Rattle.kt_engine.specs.DeltaJobs.{delta_meta, HasShape, StayIn, IsRead, MayPublishDeltas, MayFinishDeltas, HasFinishedDeltas}

-- this of a want that merges, and that of one on the files of a disk rowset, of its number
abbrev pub ByWant : Want → Type 0 → (ℕ → Type 0) → Type 0
ByWant want.Flush merges on = merges
ByWant (want.Compact taken) merges on = merges
ByWant (want.FlushDeltas r) merges on = on r
ByWant (want.Minor r) merges on = on r
ByWant (want.Major r) merges on = on r

-- ---- on the way

-- A disk rowset was handed out to the job on its files, alone and as of the last timestamp: all that the tablet has of it, with the files that the published
-- superblock names, or what can be read of them
pub record HasReadRowset {L D C : Type 0} (tells : Bool) (seen : D → Files) (n : ℕ) (job : JobView) (inputs : Inputs) (bound mark : ℕ) (old new : EngineView L D C) : Type 0 where
  pub d : RowSetData
  pub dms : ℕ
  pub alone : (inputs.mems ≡ []) × (inputs.rowsets ≡ d ∷ [])
  pub times : (bound ≡ old.tablet.core.c) × (mark ≡ min bound old.tablet.core.a)
  pub is : IsRead old.tablet job.rowset dms d
  pub held : files_of d.number old.tablet.files ≡ Some (held_in d)
  pub filed : IsFiled tells (seen old.store.known) old.store.meta.rowsets d.number (held_in d)
  pub later : AtNewStage n (record job { stage = stage.Read; bound = bound; mark = mark; inputs = Some inputs; dms = dms; read = Some d }) old new

-- what a job on the files of a disk rowset gives: that rowset alone, without a change in memory, in the shape of its want and with the files that this leaves
pub record GivesOne (w : Want) (files : List HeldFiles) (outputs : List RowSetData) : Type 0 where
  pub d : RowSetData
  pub alone : outputs ≡ d ∷ []
  pub shape : HasShape w d
  pub stay : StayIn w files d

-- and it is there, with UNDO records that fit
pub record HasTakenOne {L D C : Type 0} (n : ℕ) (job : JobView) (outputs : List RowSetData) (old new : EngineView L D C) : Type 0 where
  pub d : RowSetData
  pub alone : outputs ≡ d ∷ []
  pub fits : (undos_fit (files_in d) ≡ true) × UndosLeadBack (files_in d)
  pub later : AtNewStage n (record job { stage = stage.Swapped; output = Some d }) old new

-- ---- from its swap on: a job on the files of a disk rowset has it as it was written, and one that merges has none such

-- what it asks as its superblock goes out
abbrev pub MayGoOut : {L D C : Type 0} → (tells : Bool) (seen : D → Files) (now : D → ℕ) (leaves : D → ℕ → Files → Type 0) → EngineView L D C → JobView → Option RowSetData → Type 0
MayGoOut tells seen now leaves v job None = MayPublishJob tells seen now leaves v job
MayGoOut tells seen now leaves v job (Some d) = MayPublishDeltas tells seen now leaves v job d

-- the disk rowset that a pass has written again whose superblock goes out, if it is one
abbrev pub goes_out : Purpose → Option JobView → Option RowSetData
goes_out purpose.Write job = None
goes_out purpose.Publish job = rewritten job

-- the store as it goes out: the next DeltaMemStore of such a rowset takes its changes then
abbrev pub lent_with : {L D C : Type 0} → Option RowSetData → EngineView L D C → ℕ → Option Meta → UpkeepsView → EngineView L D C
lent_with None v n meta upkeep = record v { store = record v.store { home = None; holder = Some n; lent = meta }; upkeep = upkeep }
lent_with (Some d) v n meta upkeep = record v { tablet = record v.tablet { names = next_dms d.number v.tablet.names }; store = record v.store { home = None; holder = Some n; lent = meta }; upkeep = upkeep }

-- and the superblock that goes out: where it is none such, the next one, with the outputs of the job of the pass
abbrev pub meta_with : {L D C : Type 0} → Option RowSetData → ℕ → Purpose → EngineView L D C → Option Meta
meta_with None n p v = meta_for n p v
meta_with (Some d) n p v = option_map (λ job. delta_meta v job.dms d) (job_of n v.upkeep)

-- what it asks at its end, and what it has done then
abbrev pub MayEndBy : {L D C : Type 0} → EngineView L D C → ℕ → JobView → Option RowSetData → Type 0
MayEndBy v n job None = MayFinish v n job
MayEndBy v n job (Some d) = MayFinishDeltas v n job d

abbrev pub HasEndedBy : {L D C : Type 0} → Option RowSetData → ℕ → EngineView L D C → EngineView L D C → Type 0
HasEndedBy None n old new = HasFinished n old new
HasEndedBy (Some d) n old new = HasFinishedDeltas n old new
