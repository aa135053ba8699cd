-- What each event of a job asks, and what it did.
use Rattle.std.specs.Prelude.{◌≡◌, ◌≢◌, ◌≤◌, ◌<◌, ◌+◌, ◌-◌, ◌^◌, ◌⊎◌, ◌==◌, ℕ, suc, Bool, true, false, IsTrue, List, [], ◌∷◌, ◌++◌, map, length, take, drop, min, Option, Some, None, if◌then◌else◌}
use Rattle.std.specs.List.{AllByRecursion, list_any, sum_by}
use Rattle.kt_disk.specs.Disk.{Files}
use Rattle.kt_history.specs.History.{Past}
use Rattle.kt_history.specs.declared.changes.KeyChange.{KeyChange}
use Rattle.kt_history.specs.Stores.{Store}
use Rattle.kt_history.specs.declared.target.Target.{Target}
use Rattle.kt_history.specs.declared.target.Target.TheVariants.{Mem, Delta}
use Rattle.kt_histlaws.specs.Fitting.{AreSound}
use Rattle.kt_histlaws.specs.Histories.{hists}
use Rattle.kt_histlaws.specs.Jobs.{AreAlike}
use Rattle.kt_rowfiles.specs.Files.{DiskRowset, hist_in_files}
use Rattle.kt_rowfiles.specs.Merging.{joined_history}
use Rattle.kt_content.specs.Content.{NumbersDiffer}
use Rattle.kt_content.specs.Rules.{Rules, HistPasses, RowsetsPass}
use Rattle.kt_content.specs.RunEvents.{RowsetsBelow}
use Rattle.kt_content.specs.Flushes.{AreFrom, before}
use Rattle.kt_super.specs.declared.meta.MetaRowset.{MetaRowset}
use Rattle.kt_super.specs.Rowsets.{is_small}
use Rattle.kt_pick.specs.declared.rules.Want.{Want}
use Rattle.kt_pick.specs.declared.rules.Want.TheVariants as want
use Rattle.kt_diskrowset.specs.declared.data.RowSetData.{RowSetData}
use Rattle.kt_diskrowset.specs.declared.inputs.Inputs.{Inputs}
use Rattle.kt_diskrowset.specs.Data.{held_in, store_in}
use Rattle.kt_files.specs.Content.{rowsets_in}
use Rattle.kt_files.specs.Named.{AreNamed}
use Rattle.kt_files.specs.Reading.{HoldAll}
use Rattle.kt_merge.specs.Merge.{hists_upto, AreReadable, rows_and_changes}
use Rattle.kt_storeside.specs.Sides.{MayBeLent, IsWithin}
use Rattle.kt_stores.specs.Takes.{Takes, mems, rowsets}
use Rattle.kt_tablet.specs.Views.{View}
use Rattle.kt_tablet.specs.Jobs.{frozen_names, taken_stores, entries_in, changes_in_memory, rows_in_first, HasFrozen, HasChangedOver, MayChangeOver}
use Rattle.kt_engine.specs.declared.upkeep.Stage.{Stage}
use Rattle.kt_engine.specs.declared.upkeep.Stage.TheVariants as stage
use Rattle.kt_engine.specs.Outside.{FilesAreUpTo}
use Rattle.kt_engine.specs.Over.{bare_store, first_name, AreLeft}
use Rattle.kt_engine.specs.Engines.{EngineView, IsFound, IsContent}
use Rattle.kt_engine.specs.Logged.{PlanPasses}
use Rattle.kt_engine.specs.Near.{first_number}
use Rattle.kt_engine.specs.Stored.{next_super, job_meta}
use Rattle.kt_engine.specs.Jobs.{JobView, UpkeepView, UpkeepsView, NoRows, HasRowset, HasUpkeep, upkeep_at, job_of, asked, job_finished, taken_by, takes_of}

-- ---- asking for a job

-- how many jobs run
abbrev pub one_job : Option JobView → ℕ
one_job None = 0
one_job (Some job) = 1

abbrev pub running : UpkeepsView → ℕ
running v = sum_by (λ (p : ℕ × UpkeepView). one_job p.1.job) v.passes

-- one of these disk rowsets is not there
pub record LacksOne (taken : List ℕ) (names : List Target) : Type 0 where
  pub r : ℕ
  pub asked : list_any (λ (s : ℕ). s == r) taken ≡ true
  pub lacks : ¬ HasRowset r names

-- there is nothing to do for a want, each by itself
pub data IsNothing {L D C : Type 0} (v : EngineView L D C) (w : Want) : Type 0 where
  no_rows : w ≡ want.Flush → NoRows v.tablet → IsNothing v w
  no_rowsets : w ≡ want.Compact [] → IsNothing v w
  not_there : (r : ℕ) → ((w ≡ want.FlushDeltas r) ⊎ ((w ≡ want.Minor r) ⊎ (w ≡ want.Major r))) → ¬ HasRowset r v.tablet.names → IsNothing v w
  lacks_one : (taken : List ℕ) → w ≡ want.Compact taken → LacksOne taken v.tablet.names → IsNothing v w
  too_many_rows : (taken : List ℕ) → w ≡ want.Compact taken → 2 ^ 31 ≤ entries_in (taken_stores (rowsets taken) v.tablet) → IsNothing v w
  too_many : w ≡ want.Flush → 2 ^ 31 ≤ sum_by (λ (list : List KeyChange). length list) (changes_in_memory v.tablet.core.c v.tablet) → IsNothing v w
  too_many_jobs : 2 ^ 24 ≤ v.upkeep.begun → IsNothing v w
  too_many_running : 512 ≤ running v.upkeep → IsNothing v w
  no_numbers : v.first_file + 2 ^ 44 ≤ v.store.next_file → IsNothing v w
  last_number : v.store.next_rowset ≡ 2 ^ 64 - 1 → IsNothing v w

-- a want is on a rowset
abbrev pub names : Want → ℕ → Bool
names want.Flush r = false
names (want.FlushDeltas s) r = s == r
names (want.Minor s) r = s == r
names (want.Major s) r = s == r
names (want.Compact taken) r = list_any (λ s. s == r) taken

-- two wants have an input in common: the MemRowSets, or a rowset
abbrev pub shares : Want → Want → Bool
shares want.Flush want.Flush = true
shares want.Flush held = false
shares (want.FlushDeltas r) held = names held r
shares (want.Minor r) held = names held r
shares (want.Major r) held = names held r
shares (want.Compact taken) held = list_any (names held) taken

-- the first job that holds an input of a want, if one does
abbrev pub or_holder : Want → Option JobView → Option ℕ → Option ℕ
or_holder w None other = other
or_holder w (Some job) other = if shares w job.want then Some job.number else other

abbrev pub first_holder : Want → List (ℕ × UpkeepView) → Option ℕ
first_holder w [] = None
first_holder w (u ∷ us) = or_holder w u.1.job (first_holder w us)

-- nothing has changed: a pass may have a place now that had asked for nothing before
pub record IsUntouched {L D C : Type 0} (old new : EngineView L D C) : Type 0 where
  pub beside : new ≡ record old { upkeep = new.upkeep }
  pub same : (k : ℕ) → upkeep_at k new.upkeep.passes ≡ upkeep_at k old.upkeep.passes
  pub begun : (new.upkeep.begun ≡ old.upkeep.begun) × (new.upkeep.publishing ≡ old.upkeep.publishing)

-- ---- what a job has as it begins

-- a flush and a compaction merge what they take
abbrev pub IsMerge : Want → Type 0
IsMerge want.Flush = Unit {0}
IsMerge (want.Compact taken) = Unit {0}
IsMerge _ = ⊥

-- each is a MemRowSet of a number up to this one
abbrev pub AreUpTo : ℕ → List Target → Type 0
AreUpTo last [] = Unit {0}
AreUpTo last (Mem n ∷ names) = (n ≤ last) × AreUpTo last names
AreUpTo last (Delta r n ∷ names) = ⊥

-- The MemRowSets that a flush takes are all that are frozen, behind an empty one of a greater number
pub record TakesFrozen {L D C : Type 0} (v : EngineView L D C) (job : JobView) : Type 0 where
  pub none : job.taken ≡ []
  pub vacant : rows_in_first v.tablet.core.stores ≡ []
  pub first : job.last_mem < first_number v.tablet.names
  pub frozen : AreUpTo job.last_mem (frozen_names v.tablet)

-- The disk rowsets that a compaction takes are there, and the MemRowSet that takes inserts is the one that did as it began, or a later one
pub record TakesRowsets {L D C : Type 0} (v : EngineView L D C) (job : JobView) : Type 0 where
  pub some : job.taken ≢ []
  pub there : (r : ℕ) → list_any (λ (s : ℕ). s == r) job.taken ≡ true → HasRowset r v.tablet.names
  pub first : job.last_mem ≤ first_number v.tablet.names

abbrev pub TakesBy : {L D C : Type 0} → EngineView L D C → JobView → Want → Type 0
TakesBy v job want.Flush = TakesFrozen v job
TakesBy v job (want.Compact taken) = (job.taken ≡ taken) × TakesRowsets v job
TakesBy v job _ = ⊥

-- What a job takes; all disk rowsets have numbers that were given before the job's
pub record TakesInputs {L D C : Type 0} (v : EngineView L D C) (job : JobView) : Type 0 where
  pub takes : TakesBy v job job.want
  pub left : AreLeft job.first_rowset (drop v.tablet.frozen (drop 1 v.tablet.names))
  pub below : v.store.meta.next_rowset ≤ job.first_rowset
  pub many : job.many ≡ v.log.known.count + length (v.log.out ++ v.log.queued)

-- a flush freezes the MemRowSet that takes inserts, and a compaction nothing
abbrev pub HasTaken : {C : Type 0} → Want → View C → View C → Type 0
HasTaken want.Flush old new = HasFrozen old new
HasTaken _ old new = new ≡ old

-- A job has begun, of the tablet as it is then
pub record HasBegunJob {L D C : Type 0} (old new : EngineView L D C) (n : ℕ) (w : Want) (k : ℕ) : Type 0 where
  pub job : JobView
  pub number : (job.number ≡ k) × (k ≡ suc old.upkeep.begun) × (new.upkeep.begun ≡ k) × (new.upkeep.publishing ≡ None)
  pub want_is : job.want ≡ w
  pub taken_is : job.taken ≡ taken_by w
  pub stage_is : job.stage ≡ stage.Begun
  pub output : job.output ≡ None
  pub numbers : (job.first_rowset ≡ old.store.next_rowset) × (job.first_file ≡ old.store.next_file)
  pub upkeep : HasUpkeep n (asked w job (upkeep_at n old.upkeep.passes)) old.upkeep new.upkeep
  pub tablet : HasTaken w old.tablet new.tablet
  pub beside : new ≡ record old { tablet = new.tablet; upkeep = new.upkeep }
  pub takes : TakesInputs new job
  pub as_many : length new.tablet.names ≡ length new.tablet.core.stores

-- ---- on the way

-- what the changes of MemRowSets and the disk rowsets are that a job reads: all MemRowSets, of which the one that takes inserts has no row, or the rowsets that it takes
abbrev pub Reads : {C : Type 0} → View C → List ℕ → ℕ → Inputs → Type 0
Reads tablet [] bound inputs = (inputs.mems ≡ changes_in_memory bound tablet) × (inputs.rowsets ≡ [])
Reads tablet (r ∷ taken) bound inputs = (inputs.mems ≡ []) × (map store_in inputs.rowsets ≡ taken_stores (rowsets (r ∷ taken)) tablet)

-- what was read of it: as of the bound, with the job's mark
pub record HasInput {C : Type 0} (tablet : View C) (taken : List ℕ) (inputs : Inputs) (bound mark : ℕ) : Type 0 where
  pub bound_is : bound ≡ tablet.core.c
  pub mark_is : mark ≡ min bound tablet.core.a
  pub reads : Reads tablet taken bound inputs
  pub readable : AreReadable inputs
  pub files : FilesAreUpTo taken tablet
  pub few : rows_and_changes inputs < 2 ^ 31

-- what was read is all that these stores have
abbrev pub stores_read : {C : Type 0} → View C → List ℕ → List Store
stores_read tablet [] = take (suc tablet.frozen) tablet.core.stores
stores_read tablet (r ∷ taken) = taken_stores (rowsets (r ∷ taken)) tablet

abbrev pub TellAll : {C : Type 0} → View C → List ℕ → ℕ → Inputs → Type 0
TellAll tablet taken bound inputs = (q : List ℕ) → hists_upto bound q inputs ≡ hists q (stores_read tablet taken)

-- and from the mark on it passes the rules of the table
abbrev pub TellPassing : Rules → ℕ → ℕ → Inputs → Type 0
TellPassing rules bound mark inputs = (q : List ℕ) → HistPasses rules q (joined_history mark (hists_upto bound q inputs))

-- the job has come further, and nothing else has changed
pub record AtNewStage {L D C : Type 0} (n : ℕ) (job : JobView) (old new : EngineView L D C) : Type 0 where
  pub upkeep : HasUpkeep n (record (upkeep_at n old.upkeep.passes) { job = Some job }) old.upkeep new.upkeep
  pub begun : (new.upkeep.begun ≡ old.upkeep.begun) × (new.upkeep.publishing ≡ old.upkeep.publishing)
  pub beside : new ≡ record old { upkeep = new.upkeep }

-- its outputs are there, with room for them and the disk rowsets of the tablet
pub record HasSwapped {L D C : Type 0} (n : ℕ) (outputs : List RowSetData) (metas : List MetaRowset) (old new : EngineView L D C) : Type 0 where
  pub job : JobView
  pub had : job_of n old.upkeep ≡ Some job
  pub room : ℕ
  pub enough : length old.tablet.core.stores + length outputs ≤ room + old.tablet.frozen + 1
  pub later : AtNewStage n (record job { stage = stage.Swapped; metas = metas; held = map held_in outputs; room = room }) old new

-- The outputs hold what the job takes from the mark on
pub record HoldInputs {C : Type 0} (tablet : View C) (t : Takes) (outputs : List DiskRowset) : Type 0 where
  pub alike : (q : List ℕ) → AreAlike tablet.core.a (hists q (taken_stores t tablet)) (map (hist_in_files q) outputs)
  pub sound : (q : List ℕ) → AreSound tablet.core.a (map (hist_in_files q) outputs)

abbrev pub outputs_of : JobView → List DiskRowset
outputs_of job = rowsets_in job.metas job.held

-- A flush or a compaction may publish, while nothing flies: its outputs are named as their files have them, what it takes is as when it began, and its superblock may be lent
-- where the next one may that changes no rowset, if its last MemRowSet has a number that a superblock spells and it lies within the bounds of the store
pub record MayPublishJob {L D C : Type 0} (tells : Bool) (seen : D → Files) (now : D → ℕ) (leaves : D → ℕ → Files → Type 0) (v : EngineView L D C) (job : JobView) : Type 0 where
  pub at : job.stage ≡ stage.Written
  pub output : job.output ≡ None
  pub calm : v.tablet.core.aloft ≡ []
  pub takes : TakesInputs v job
  pub named : AreNamed job.metas job.held
  pub from : AreFrom job.first_rowset (outputs_of job)
  pub differ : NumbersDiffer (outputs_of job)
  pub given : RowsetsBelow (before v.store.next_rowset job.last_mem) (outputs_of job)
  pub up : (job.first_rowset ≤ v.store.next_rowset) × (v.store.next_rowset < 2 ^ 64)
  pub first_dms : AllByRecursion (λ (d : DiskRowset). d.last_dms ≡ 0) (outputs_of job)
  pub hold : IsTrue tells → HoldAll (seen v.store.known) job.metas job.held
  pub holds : (first : Past) → IsFound v first → HoldInputs v.tablet (takes_of job) (outputs_of job)
  pub passes : IsTrue tells → (rules : Rules) (first : Past) → IsContent rules v first → PlanPasses rules v.tablet.core.work → RowsetsPass rules (outputs_of job)
  pub lent : MayBeLent tells seen now leaves v.store (next_super v) → is_small job.last_mem ≡ true → IsWithin v.store.first.most (job_meta v job) → MayBeLent tells seen now leaves v.store (job_meta v job)

-- It may finish, while nothing flies: its superblock is the published one, and there is room for its outputs
pub record MayFinish {L D C : Type 0} (v : EngineView L D C) (n : ℕ) (job : JobView) : Type 0 where
  pub at : job.stage ≡ stage.Published
  pub output : job.output ≡ None
  pub calm : v.tablet.core.aloft ≡ []
  pub published : (v.upkeep.publishing ≡ Some n) × (job.super ≤ v.store.meta.number) × (v.store.lent ≡ None)
  pub may : MayChangeOver v.tablet (takes_of job) (map bare_store (outputs_of job))
  pub room : length v.tablet.core.stores + length job.held ≤ job.room + v.tablet.frozen + 1
  pub few : length v.tablet.core.stores + length job.held < 2 ^ 32
  pub given : RowsetsBelow (before v.store.next_rowset job.last_mem) (outputs_of job)
  pub small : v.store.next_rowset < 2 ^ 64
  pub begun : v.upkeep.begun ≢ 0

-- the outputs stand behind what the job has left, each with a DeltaMemStore of number 1
pub record HasFinished {L D C : Type 0} (n : ℕ) (old new : EngineView L D C) : Type 0 where
  pub job : JobView
  pub had : job_of n old.upkeep ≡ Some job
  pub changed : HasChangedOver old.tablet new.tablet (takes_of job) (map bare_store (outputs_of job)) (map first_name (outputs_of job)) job.held
  pub upkeep : HasUpkeep n (job_finished job.want (upkeep_at n old.upkeep.passes)) old.upkeep new.upkeep
  pub begun : (new.upkeep.begun ≡ old.upkeep.begun) × (new.upkeep.publishing ≡ None)
  pub beside : new ≡ record old { tablet = new.tablet; upkeep = new.upkeep }

-- a job whose superblock came home
abbrev pub stage_home : Bool → Stage
stage_home true = stage.Published
stage_home false = stage.Written

abbrev pub publishing_home : Bool → Option ℕ → Option ℕ
publishing_home true by = by
publishing_home false by = None

-- its superblock of this number is lent, and no other job's
pub record IsLent (n : ℕ) (job : JobView) (number : ℕ) (old new : UpkeepsView) : Type 0 where
  pub upkeep : HasUpkeep n (record (upkeep_at n old.passes) { job = Some (record job { stage = stage.Publishing; super = number }) }) old new
  pub begun : (new.begun ≡ old.begun) × (new.publishing ≡ Some n)

-- and has come home
pub record HasComeHome (n : ℕ) (job : JobView) (published : Bool) (old new : UpkeepsView) : Type 0 where
  pub upkeep : HasUpkeep n (record (upkeep_at n old.passes) { job = Some (record job { stage = stage_home published }) }) old new
  pub begun : (new.begun ≡ old.begun) × (new.publishing ≡ publishing_home published old.publishing)
