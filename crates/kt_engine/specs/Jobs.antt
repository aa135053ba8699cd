-- The jobs of an engine: what passes have of maintenance, and what holds of a job from its beginning to its end.
use Rattle.std.specs.Prelude.{◌≡◌, ◌≢◌, ◌≤◌, ◌-◌, ◌^◌, ◌==◌, ℕ, ◌+◌, min, nat_eq, not, true, false, Bool, List, [], ◌∷◌, length, map, take, Option, Some, None, if◌then◌else◌}
use Rattle.std.specs.List.{filter, list_any}
use Rattle.std.specs.Cmp.Lexicographic.{pointwise}
use Rattle.kt_base.specs.declared.chore.Chore.{Chore}
use Rattle.kt_history.specs.declared.target.Target.{Target}
use Rattle.kt_history.specs.declared.target.Target.TheVariants.{Mem, Delta}
use Rattle.kt_history.specs.Machine.{least}
use Rattle.kt_records.specs.declared.entry.Entry.{Entry}
use Rattle.kt_histlaws.specs.Core.{flown_by}
use Rattle.kt_content.specs.RunEvents.{RecordsBelow}
use Rattle.kt_content.specs.Flushes.{before}
use Rattle.kt_super.specs.declared.meta.MetaRowset.{MetaRowset}
use Rattle.kt_pick.specs.declared.rules.Want.{Want}
use Rattle.kt_pick.specs.declared.rules.Want.TheVariants as want
use Rattle.kt_diskrowset.specs.declared.data.RowSetData.{RowSetData}
use Rattle.kt_diskrowset.specs.declared.inputs.Inputs.{Inputs}
use Rattle.kt_diskrowset.specs.Rowset.{HeldFiles}
use Rattle.kt_files.specs.Content.{rowsets_in}
use Rattle.kt_stores.specs.Takes.{Takes, mems, rowsets}
use Rattle.kt_tablet.specs.Views.{View}
use Rattle.kt_tablet.specs.Jobs.{rows_in_first}
use Rattle.kt_engine.specs.Over.{Over}
use Rattle.kt_engine.specs.declared.again.MemsNow.{MemsNow}
use Rattle.kt_engine.specs.declared.upkeep.Stage.{Stage}
use Rattle.kt_engine.specs.declared.upkeep.Stage.TheVariants as stage

-- ---- what a pass has

-- A job: its number, how far it has come, its bound and its mark; the disk rowsets that it takes; the last MemRowSet that a flush froze, or the one that took inserts
-- as a compaction began; how many records the log had as it began, and the first rowset and file numbers that its turns may use; what was handed out to it; from its swap on its outputs, as a superblock names them and as their files have them, and how many disk
-- rowsets there is room for beside them; and from then on, as it publishes, the number of its superblock. Of a job on the files of one disk rowset the number of that,
-- the last DeltaMemStore that it reads, the rowset as it was handed out, and as it was written. Of a flush that went outside, how many MemRowSets it takes, and what was handed out as it came back.
pub record JobView : Type 0 where
  pub number : ℕ
  pub want : Want
  pub stage : Stage
  pub bound : ℕ
  pub mark : ℕ
  pub taken : List ℕ
  pub last_mem : ℕ
  pub many : ℕ
  pub first_rowset : ℕ
  pub first_file : ℕ
  pub inputs : Option Inputs
  pub metas : List MetaRowset
  pub held : List HeldFiles
  pub room : ℕ
  pub super : ℕ
  pub rowset : ℕ
  pub dms : ℕ
  pub read : Option RowSetData
  pub returned : Option (List RowSetData)
  pub frozen : ℕ
  pub again : Option MemsNow
  pub output : Option RowSetData

-- What a job takes once its superblock is published: disk rowsets, or the frozen MemRowSets where it has none
abbrev pub takes_by : List ℕ → ℕ → Takes
takes_by [] last = mems last
takes_by (r ∷ taken) last = rowsets (r ∷ taken)

abbrev pub takes_of : JobView → Takes
takes_of job = takes_by job.taken job.last_mem

-- the disk rowsets that a want takes: those of a compaction
abbrev pub taken_by : Want → List ℕ
taken_by (want.Compact taken) = taken
taken_by _ = []

-- how the last ask of a pass ended
pub data Last : Type 0 where
  none : Last
  nothing : Want → Last
  begun : Want → Last
  finished : Want → Last
  abandoned : Want → Last

-- What a pass has of maintenance: how often it asked for a job and how the last ask ended; the chore of its last round, how many rounds there were, and what is
-- still to do of it; its job; and the last of its jobs that was finished, as it was at its end.
pub record UpkeepView : Type 0 where
  pub asks : ℕ
  pub last : Last
  pub round : Option Chore
  pub rounds : ℕ
  pub todo : List Want
  pub job : Option JobView
  pub done : Option JobView

-- that of a pass which has not asked
abbrev pub idle : UpkeepView
idle = record { asks = 0; last = none; round = None; rounds = 0; todo = []; job = None; done = None }

-- all passes that asked, how many jobs have begun, and the pass whose job has its superblock lent or published and is not over
pub record UpkeepsView : Type 0 where
  pub passes : List (ℕ × UpkeepView)
  pub begun : ℕ
  pub publishing : Option ℕ

abbrev pub no_upkeep : UpkeepsView
no_upkeep = record { passes = []; begun = 0; publishing = None }

abbrev pub upkeep_at : ℕ → List (ℕ × UpkeepView) → UpkeepView
upkeep_at n [] = idle
upkeep_at n (p ∷ passes) = if p.0 == n then p.1 else upkeep_at n passes

abbrev pub job_of : ℕ → UpkeepsView → Option JobView
job_of n v = (upkeep_at n v.passes).job

-- a count rises, and stands still at its type's end
abbrev pub more : ℕ → ℕ → ℕ
more top n = min (n + 1) top

-- the same want
abbrev pub same_want : Want → Want → Bool
same_want want.Flush want.Flush = true
same_want (want.FlushDeltas r) (want.FlushDeltas s) = r == s
same_want (want.Minor r) (want.Minor s) = r == s
same_want (want.Major r) (want.Major s) = r == s
same_want (want.Compact rs) (want.Compact ss) = pointwise nat_eq rs ss
same_want _ _ = false

abbrev pub without_want : Want → List Want → List Want
without_want w todo = filter (λ (x : Want). not (same_want w x)) todo

-- an ask that is answered with a job, and one that is answered with nothing to do
abbrev pub asked : Want → JobView → UpkeepView → UpkeepView
asked w job u = record u { asks = more (2 ^ 64 - 1) u.asks; last = begun w; job = Some job }

abbrev pub asked_for_nothing : Want → UpkeepView → UpkeepView
asked_for_nothing w u = record u { asks = more (2 ^ 64 - 1) u.asks; last = nothing w; todo = without_want w u.todo }

-- the disk rowset that a job has written again, if it has
abbrev pub rewritten : Option JobView → Option RowSetData
rewritten None = None
rewritten (Some job) = job.output

-- the job has ended, and what it was is kept
abbrev pub job_finished : Want → UpkeepView → UpkeepView
job_finished w u = record u { last = finished w; todo = without_want w u.todo; job = None; done = u.job }

abbrev pub job_abandoned : Want → UpkeepView → UpkeepView
job_abandoned w u = record u { last = abandoned w; job = None }

-- this pass has something else of maintenance, and no other pass has
pub record HasUpkeep (n : ℕ) (u : UpkeepView) (old new : UpkeepsView) : Type 0 where
  pub own : upkeep_at n new.passes ≡ u
  pub others : (k : ℕ) → k ≢ n → upkeep_at k new.passes ≡ upkeep_at k old.passes

-- ---- what there is to do

-- a disk rowset of this number is there
abbrev pub is_rowset : ℕ → Target → Bool
is_rowset r (Mem n) = false
is_rowset r (Delta s dms) = s == r

abbrev pub HasRowset : ℕ → List Target → Type 0
HasRowset r names = list_any (is_rowset r) names ≡ true

-- the MemRowSets have no row and none is frozen
abbrev pub NoRows : {C : Type 0} → View C → Type 0
NoRows v = (rows_in_first v.core.stores ≡ []) × (v.frozen ≡ 0)

-- ---- from its beginning to its end

-- a job has come so far
pub record IsAtStage (v : UpkeepsView) (n : ℕ) (s : Stage) (job : JobView) : Type 0 where
  pub has : job_of n v ≡ Some job
  pub at : job.stage ≡ s

-- its superblock is neither published nor lent
abbrev pub IsUnpublished : Stage → Type 0
IsUnpublished stage.Published = ⊥
IsUnpublished stage.Publishing = ⊥
IsUnpublished _ = Unit {0}

-- Of a job, beside the records of the log: those that the log had as it began name no MemRowSet and no rowset that came since
pub record JobOn (records : List Entry) (job : JobView) : Type 0 where
  pub many : job.many ≤ length records
  pub names : RecordsBelow (before job.first_rowset job.last_mem) (take job.many records)

-- The outputs of the job that publishes, and the number of its superblock. A job on the files of one disk rowset has none: the stores in memory stay as they are
abbrev pub over_for : Option RowSetData → JobView → Option Over
over_for None job = Some (record { number = job.super; takes = takes_of job; outputs = rowsets_in job.metas job.held })
over_for (Some d) job = None

abbrev pub over_of : Option JobView → Option Over
over_of None = None
over_of (Some job) = over_for job.output job

abbrev pub over_by : Option ℕ → UpkeepsView → Option Over
over_by None v = None
over_by (Some n) v = over_of (job_of n v)

abbrev pub over_in : UpkeepsView → Option Over
over_in v = over_by v.publishing v

-- the least write that flies
abbrev pub first_flying : {C : Type 0} → View C → Option ℕ
first_flying v = least (map flown_by v.core.aloft)
