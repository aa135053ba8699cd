-- The job of a pass, for each want, from its beginning to its published superblock, in one visit.
use Rattle.std.specs.Prelude.{◌≡◌, ◌≤◌, ◌<◌, ◌+◌, ◌++◌, ◌^◌, ℕ, Bool, true, IsTrue, List, [], ◌∷◌, length, map, Some}
use Rattle.std.specs.List.{AllByRecursion}
use Rattle.kt_disk.specs.Disk.{Files}
use Rattle.kt_history.specs.History.{Past}
use Rattle.kt_content.specs.Content.{NumbersDiffer}
use Rattle.kt_content.specs.Flushes.{AreFrom, before}
use Rattle.kt_content.specs.RunEvents.{RowsetsBelow}
use Rattle.kt_content.specs.Rules.{Rules, RowsetsPass}
use Rattle.kt_super.specs.Rowsets.{AreRowsets}
use Rattle.kt_files.specs.Named.{HasNamed}
use Rattle.kt_files.specs.Reading.{HoldAll}
use Rattle.kt_rowfiles.specs.Fitting.{undos_fit}
use Rattle.kt_diskrowset.specs.declared.data.RowSetData.{RowSetData}
use Rattle.kt_diskrowset.specs.Data.{files_in, held_in}
use Rattle.kt_diskrowset.specs.Rows.{UndosLeadBack}
use Rattle.kt_outputs.specs.Outputs.{meta_in, AreWritten}
use Rattle.kt_pick.specs.declared.rules.Want.{Want}
use Rattle.kt_pick.specs.declared.rules.Want.TheVariants as want
use Rattle.kt_engine.specs.Engines.{EngineView, IsFound, IsContent}
use Rattle.kt_engine.specs.Logged.{PlanPasses}
use Rattle.kt_engine.specs.JobMeta.{metas_left}
use Rattle.kt_engine.specs.declared.upkeep.Stage.TheVariants as stage
use Rattle.kt_engine.specs.Jobs.{JobView, job_of, upkeep_at, asked, taken_by, takes_of}
use Rattle.kt_engine.specs.JobSteps.{HoldInputs, AtNewStage, MayPublishJob}
use Rattle.kt_engine.specs.DeltaJobs.{MayPublishDeltas}
use Rattle.kt_engine.specs.JobCalls.{ByWant, MayEndBy}
use Rattle.kt_maint.specs.Done.{AreMerged, EndsWith, GivesMerged, GivesRewritten, HasGiven}
use Rattle.kt_maint.specs.Runs.{IsReady, JobIsAt, JobHas}
use Rattle.kt_maint.specs.DeltaRuns.{DeltasAt}

-- ---- its outputs are handed in

-- new disk rowsets, with room for them and those of the tablet
pub record HasHandedIn {L D C : Type 0} (n : ℕ) (job : JobView) (outputs : List RowSetData) (old new : EngineView L D C) : Type 0 where
  pub room : ℕ
  pub enough : length old.tablet.core.stores + length outputs ≤ room + old.tablet.frozen + 1
  pub few : length old.tablet.core.stores + length outputs < 2 ^ 32
  pub later : AtNewStage n (record job { stage = stage.Written; metas = map (meta_in 0) outputs; held = map held_in outputs; room = room }) old new

-- the disk rowset that was written again, alone, with UNDO records that fit
pub record HasHandedOne {L D C : Type 0} (n : ℕ) (job : JobView) (outputs : List RowSetData) (old new : EngineView L D C) : Type 0 where
  pub d : RowSetData
  pub alone : outputs ≡ d ∷ []
  pub fits : (undos_fit (files_in d) ≡ true) × UndosLeadBack (files_in d)
  pub later : AtNewStage n (record job { stage = stage.Written; output = Some d }) old new

abbrev pub HandsIn : {L D C : Type 0} → ℕ → JobView → List RowSetData → EngineView L D C → EngineView L D C → Type 0
HandsIn n job outputs old new = ByWant job.want (HasHandedIn n job outputs old new) (λ r. HasHandedOne n job outputs old new)

-- ---- the job for a want has begun

pub record MergeBegins {L D C : Type 0} (v : EngineView L D C) (n : ℕ) (w : Want) : Type 0 where
  pub at : JobIsAt v n stage.Begun
  pub want : at.job.want ≡ w

abbrev pub BeginsBy : {L D C : Type 0} → EngineView L D C → ℕ → Want → Type 0
BeginsBy v n w = ByWant w (MergeBegins v n w) (λ r. DeltasAt v n w stage.Begun)

-- its pass has asked once more, and it is begun without a line, while nothing is under way
pub record HasBegunNow {L D C : Type 0} (n : ℕ) (w : Want) (old new : EngineView L D C) : Type 0 where
  pub job : JobView
  pub own : upkeep_at n new.upkeep.passes ≡ asked w job (upkeep_at n old.upkeep.passes)
  pub begins : BeginsBy new n w
  pub ready : IsReady new
  pub line : new.tablet.core.trail ≡ old.tablet.core.trail

-- ---- its outputs are written, and may be handed in

-- They hold what the job takes, pass the rules of the table, and may be named behind the disk rowsets that it leaves
pub record MayHandIn {L D C : Type 0} (tells : Bool) (seen : D → Files) (now : D → ℕ) (leaves : D → ℕ → Files → Type 0) (v : EngineView L D C) (n : ℕ) (w : Want) (outputs : List RowSetData) : Type 0 where
  pub at : JobIsAt v n stage.Read
  pub want : at.job.want ≡ w
  pub fresh : AllByRecursion (λ (d : RowSetData). d.fresh ≡ []) outputs
  pub from : AreFrom at.job.first_rowset (map files_in outputs)
  pub differ : NumbersDiffer (map files_in outputs)
  pub given : RowsetsBelow (before v.store.next_rowset at.job.last_mem) (map files_in outputs)
  pub small : v.store.next_rowset < 2 ^ 64
  pub hold : IsTrue tells → HoldAll (seen v.store.known) (map (meta_in 0) outputs) (map held_in outputs)
  pub holds : (first : Past) → IsFound v first → HoldInputs v.tablet (takes_of at.job) (map files_in outputs)
  pub passes : IsTrue tells → (rules : Rules) (first : Past) → IsContent rules v first → PlanPasses rules v.tablet.core.work → RowsetsPass rules (map files_in outputs)
  pub named : AreRowsets v.store.next_rowset v.store.next_file 0 [] (metas_left (takes_of at.job) v.store.meta.rowsets ++ map (meta_in 0) outputs)
  pub stand : IsTrue tells → (image : Files) → leaves v.store.known (now v.store.known) image → HasNamed (metas_left (takes_of at.job) v.store.meta.rowsets) (seen v.store.known) image
      → HasNamed (metas_left (takes_of at.job) v.store.meta.rowsets ++ map (meta_in 0) outputs) (seen v.store.known) image
  pub taken : at.job.taken ≡ taken_by at.job.want
  pub made : List RowSetData
  pub merged : AreMerged (IsFound v) at.job made
  pub first : ℕ
  pub out : List RowSetData
  pub written : AreWritten first made out
  pub ends : EndsWith (IsFound v) at.job.want at.job merged.inputs out outputs

-- ---- its outputs are written and handed in: they are what its want asks for, and its superblock may go out

pub record MergeIsWritten {L D C : Type 0} (tells : Bool) (seen : D → Files) (now : D → ℕ) (leaves : D → ℕ → Files → Type 0) (v : EngineView L D C) (n : ℕ) (w : Want) : Type 0 where
  pub outputs : List RowSetData
  pub has : JobHas v n stage.Written outputs
  pub want : has.at.job.want ≡ w
  pub may : MayPublishJob tells seen now leaves v has.at.job
  pub gives : GivesMerged (IsFound v) has.at.job

pub record OneIsWritten {L D C : Type 0} (tells : Bool) (seen : D → Files) (now : D → ℕ) (leaves : D → ℕ → Files → Type 0) (v : EngineView L D C) (n : ℕ) (w : Want) : Type 0 where
  pub d : RowSetData
  pub at : DeltasAt v n w stage.Written
  pub may : MayPublishDeltas tells seen now leaves v at.job d
  pub gives : GivesRewritten at.job

abbrev pub IsWrittenBy : {L D C : Type 0} → (tells : Bool) (seen : D → Files) (now : D → ℕ) (leaves : D → ℕ → Files → Type 0) → EngineView L D C → ℕ → Want → Type 0
IsWrittenBy tells seen now leaves v n w = ByWant w (MergeIsWritten tells seen now leaves v n w) (λ r. OneIsWritten tells seen now leaves v n w)

-- ---- its superblock is the published one: it may end, and has given what its want asks for
pub record MayEnd {L D C : Type 0} (v : EngineView L D C) (n : ℕ) (w : Want) : Type 0 where
  pub job : JobView
  pub has : job_of n v.upkeep ≡ Some job
  pub may : MayEndBy v n job job.output
  pub given : HasGiven (IsFound v) w job
