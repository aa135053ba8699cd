-- What the steps of a job in one visit do to the engine.
use Rattle.std.specs.Prelude.{◌≡◌, ◌≢◌, ◌≤◌, ◌<◌, ◌⊎◌, ◌+◌, ◌==◌, ◌^◌, ◌-◌, ℕ, is_some, true, false, Bool, IsTrue, List, [], ◌∷◌, ◌++◌, length, map, Option, Some, None}
use Rattle.kt_history.specs.declared.event.Event.{Event}
use Rattle.kt_history.specs.declared.event.Event.TheVariants as event
use Rattle.kt_histlaws.specs.Events.{halted}
use Rattle.kt_histlaws.specs.Parts.{part}
use Rattle.kt_tablet.specs.Views.{View, place_at}
use Rattle.kt_tablet.specs.Jobs.{next_dms}
use Rattle.kt_super.specs.declared.meta.Meta.{Meta}
use Rattle.kt_content.specs.Flushes.{AreFrom}
use Rattle.kt_diskrowset.specs.declared.data.RowSetData.{RowSetData}
use Rattle.kt_diskrowset.specs.Data.{files_in, held_in}
use Rattle.kt_outputs.specs.Outputs.{meta_in}
use Rattle.kt_storeside.specs.declared.side.Lent.{Lent}
use Rattle.kt_storeside.specs.Sides.{StoreView}
use Rattle.kt_pick.specs.declared.rules.Want.{Want}
use Rattle.kt_engine.specs.Engines.{EngineView}
use Rattle.kt_engine.specs.Visits.{IsVisit}
use Rattle.kt_engine.specs.declared.upkeep.Stage.{Stage}
use Rattle.kt_engine.specs.declared.upkeep.Stage.TheVariants as stage
use Rattle.kt_engine.specs.Jobs.{JobView, UpkeepsView, IsUnpublished, asked_for_nothing, job_of, upkeep_at}
use Rattle.kt_engine.specs.JobSteps.{IsMerge, TakesInputs}
use Rattle.kt_maint.specs.declared.ready.Ready.{Ready}
use Rattle.kt_maint.specs.declared.ready.Ready.TheVariants as ready
use Rattle.kt_maint.specs.declared.tries.Turn.{Turn}
use Rattle.kt_maint.specs.declared.tries.Turn.TheVariants as turn

-- of this pass's maintenance only the job has changed
abbrev pub OnlyJob : ℕ → UpkeepsView → UpkeepsView → Type 0
OnlyJob n old new = upkeep_at n new.passes ≡ record (upkeep_at n old.passes) { job = job_of n new }

-- and no job has begun
pub record KeepsAsks (n : ℕ) (old new : UpkeepsView) : Type 0 where
  pub own : OnlyJob n old new
  pub begun : new.begun ≡ old.begun

-- no line came, or a `stop` line alone
abbrev pub AddsStop : List Event → List Event → Type 0
AddsStop before after = (after ≡ before) ⊎ (after ≡ before ++ event.Stop ∷ [])

-- the pass stands in its session where it did, and its history goes on with a `stop` line at most
pub record StandsAs {L D C : Type 0} (n : ℕ) (old new : EngineView L D C) : Type 0 where
  pub line : AddsStop old.tablet.core.trail new.tablet.core.trail
  pub session : part new.tablet.core n ≡ part old.tablet.core n
  pub place : place_at n new.tablet.places ≡ place_at n old.tablet.places

-- a step without a line, which leaves the tablet and its log
pub record IsQuiet {L D C : Type 0} (n : ℕ) (old new : EngineView L D C) : Type 0 where
  pub visit : IsVisit n old new
  pub tablet : new.tablet ≡ old.tablet
  pub log : new.log ≡ old.log
  pub asks : KeepsAsks n old.upkeep new.upkeep

-- a pass has neither device
abbrev pub is_pass : Option ℕ → ℕ → Bool
is_pass None n = false
is_pass (Some by) n = by == n

pub record HasNoDevice {L D C : Type 0} (n : ℕ) (v : EngineView L D C) : Type 0 where
  pub log : is_pass v.log.holder n ≡ false
  pub store : is_pass v.store.holder n ≡ false

-- nothing flies, no record waits, and both devices are at home
pub record IsReady {L D C : Type 0} (v : EngineView L D C) : Type 0 where
  pub goes : v.tablet.core.stopped ≡ false
  pub calm : v.tablet.core.aloft ≡ []
  pub settled : (v.log.queued ≡ []) × (v.log.out ≡ []) × (v.log.holder ≡ None)
  pub home : v.store.holder ≡ None

-- how the tablet was made ready: nothing but the log has changed, unless a fault has stopped it
abbrev pub ReadyAs : {L D C : Type 0} → ℕ → EngineView L D C → EngineView L D C → Ready → Type 0
ReadyAs n old new ready.Yes = IsReady new × (new.tablet ≡ old.tablet) × (new.store ≡ old.store) × (new.upkeep ≡ old.upkeep)
ReadyAs n old new ready.Wait = (new.tablet ≡ old.tablet) × (new.store ≡ old.store) × (new.upkeep ≡ old.upkeep) × HasNoDevice n new
ReadyAs n old new ready.Memory = (new.tablet ≡ old.tablet) × (new.store ≡ old.store) × (new.upkeep ≡ old.upkeep) × HasNoDevice n new
ReadyAs n old new ready.Stopped = (new.tablet.core.stopped ≡ true) × (new.upkeep ≡ old.upkeep) × HasNoDevice n new

-- the append alone
abbrev pub AppendsAs : {L D C : Type 0} → ℕ → EngineView L D C → EngineView L D C → Ready → Type 0
AppendsAs n old new ready.Yes = (new.log.queued ≡ []) × (new.log.out ≡ []) × (new.log.holder ≡ None) × (new.tablet ≡ old.tablet) × (new.store ≡ old.store) × (new.upkeep ≡ old.upkeep)
AppendsAs n old new ready.Wait = ⊥
AppendsAs n old new ready.Memory = (new.log.holder ≡ None) × (new.tablet ≡ old.tablet) × (new.store ≡ old.store) × (new.upkeep ≡ old.upkeep)
AppendsAs n old new ready.Stopped = (new.tablet.core.stopped ≡ true) × (new.log.holder ≡ None) × (new.store ≡ old.store) × (new.upkeep ≡ old.upkeep)

-- what waited for the log is durable, and the log is at home
pub record IsSettled {L D C : Type 0} (v : EngineView L D C) : Type 0 where
  pub goes : v.tablet.core.stopped ≡ false
  pub settled : (v.log.queued ≡ []) × (v.log.out ≡ []) × (v.log.holder ≡ None)

-- so, or why not: nothing but the log has changed, unless a fault has stopped the tablet
abbrev pub SettlesAs : {L D C : Type 0} → ℕ → EngineView L D C → EngineView L D C → Ready → Type 0
SettlesAs n old new ready.Yes = IsSettled new × (new.tablet ≡ old.tablet) × (new.store ≡ old.store) × (new.upkeep ≡ old.upkeep)
SettlesAs n old new ready.Wait = (new ≡ old) × (old.tablet.core.stopped ≡ false) × (is_some old.log.holder ≡ true)
SettlesAs n old new ready.Memory = (new.tablet ≡ old.tablet) × (new.store ≡ old.store) × (new.upkeep ≡ old.upkeep) × (is_pass new.log.holder n ≡ false)
SettlesAs n old new ready.Stopped = (new.tablet.core.stopped ≡ true) × (new.store ≡ old.store) × (new.upkeep ≡ old.upkeep) × (is_pass new.log.holder n ≡ false)

-- the job of a pass is at a stage, has what it took as it began, and none publishes; it may still be given up
pub record JobIsAt {L D C : Type 0} (v : EngineView L D C) (n : ℕ) (s : Stage) : Type 0 where
  pub job : JobView
  pub has : job_of n v.upkeep ≡ Some job
  pub at : job.stage ≡ s
  pub want : IsMerge job.want
  pub output : job.output ≡ None
  pub free : v.upkeep.publishing ≡ None
  pub begun : v.upkeep.begun ≢ 0
  pub given : job.first_rowset ≤ v.store.next_rowset
  pub takes : TakesInputs v job
  pub as_many : length v.tablet.names ≡ length v.tablet.core.stores

pub record MayAbandon {L D C : Type 0} (v : EngineView L D C) (n : ℕ) : Type 0 where
  pub job : JobView
  pub has : job_of n v.upkeep ≡ Some job
  pub early : IsUnpublished job.stage
  pub free : v.upkeep.publishing ≡ None

-- ---- a turn of the store

-- it is out to write files
pub record LentToWrite {D : Type 0} (n : ℕ) (v : StoreView D) (lent : Lent D) : Type 0 where
  pub out : v.holder ≡ Some n
  pub whole : IsTrue v.whole
  pub device : lent.device ≡ v.known
  pub meta : (lent.meta ≡ None) × (v.lent ≡ None)
  pub numbers : (lent.next_rowset ≡ v.next_rowset) × (lent.next_file ≡ v.next_file)

-- it has come home, and nothing but it and this pass's maintenance has changed
pub record HasTurned {L D C : Type 0} (old new : EngineView L D C) : Type 0 where
  pub beside : new ≡ record old { store = new.store; upkeep = new.upkeep }
  pub home : new.store.holder ≡ None
  pub columns : new.store.meta.schema ≡ old.store.meta.schema
  pub began : new.store.first ≡ old.store.first

-- it has failed, which has stopped the tablet
pub record HasBroken {L D C : Type 0} (old new : EngineView L D C) : Type 0 where
  pub beside : new ≡ record old { tablet = record old.tablet { core = halted old.tablet.core }; store = new.store }
  pub home : new.store.holder ≡ None
  pub columns : new.store.meta.schema ≡ old.store.meta.schema
  pub began : new.store.first ≡ old.store.first

-- the job's outputs are these, whose numbers it may use
pub record JobHas {L D C : Type 0} (v : EngineView L D C) (n : ℕ) (s : Stage) (out : List RowSetData) : Type 0 where
  pub at : JobIsAt v n s
  pub from : AreFrom at.job.first_rowset (map files_in out)
  pub metas : at.job.metas ≡ map (meta_in 0) out
  pub held : at.job.held ≡ map held_in out
  pub room : length v.tablet.core.stores + length out ≤ at.job.room + v.tablet.frozen + 1
  pub few : length v.tablet.core.stores + length out < 2 ^ 32

-- how a try for a job ended that does not go outside
abbrev pub RunsAs : {L D C : Type 0} → ℕ → Want → EngineView L D C → EngineView L D C → Turn → Type 0
RunsAs n w old new turn.Nothing = (upkeep_at n new.upkeep.passes ≡ asked_for_nothing w (upkeep_at n old.upkeep.passes)) × (job_of n new.upkeep ≡ None) × HasNoDevice n new
RunsAs n w old new turn.Wait = (upkeep_at n new.upkeep.passes ≡ upkeep_at n old.upkeep.passes) × HasNoDevice n new
RunsAs n w old new turn.Memory = HasNoDevice n new × (job_of n old.upkeep ≡ None → job_of n new.upkeep ≡ None)
RunsAs n w old new turn.Stopped = (new.tablet.core.stopped ≡ true) × HasNoDevice n new

-- The store is out to publish the superblock of this pass's job, which comes behind the published one
pub record IsPublishing {L D C : Type 0} (v : EngineView L D C) (n : ℕ) (lent : Lent D) : Type 0 where
  pub out : v.store.holder ≡ Some n
  pub whole : IsTrue v.store.whole
  pub device : lent.device ≡ v.store.known
  pub numbers : (lent.next_rowset ≡ v.store.next_rowset) × (lent.next_file ≡ v.store.next_file)
  pub meta : Meta
  pub is : (lent.meta ≡ Some meta) × (v.store.lent ≡ Some meta)
  pub schema : meta.schema ≡ v.store.meta.schema
  pub job : JobView
  pub has : job_of n v.upkeep ≡ Some job
  pub at : job.stage ≡ stage.Publishing
  pub own : (v.upkeep.publishing ≡ Some n) × (job.super ≡ meta.number) × (v.store.meta.number < meta.number)

-- the tablet as a superblock goes out: where that is of a job on the files of a disk rowset, the next DeltaMemStore of this takes changes from then on
abbrev pub going_out : {C : Type 0} → Option RowSetData → View C → View C
going_out None tablet = tablet
going_out (Some d) tablet = record tablet { names = next_dms d.number tablet.names }

-- Its superblock is the published one
pub record IsPublished {L D C : Type 0} (n : ℕ) (job : JobView) (old new : EngineView L D C) : Type 0 where
  pub tablet : new.tablet ≡ going_out job.output old.tablet
  pub number : ℕ
  pub has : job_of n new.upkeep ≡ Some (record job { stage = stage.Published; super = number })
  pub own : (new.upkeep.publishing ≡ Some n) × (number ≤ new.store.meta.number) × (new.store.lent ≡ None)
  pub numbers : new.store.next_rowset ≡ old.store.next_rowset
