-- A job outside the lock: what its pass has between its visits, and what a flush or a compaction wrote meanwhile.
use Rattle.std.specs.Prelude.{◌≡◌, ◌≢◌, ◌≤◌, ◌<◌, ◌+◌, ◌^◌, ℕ, ◌++◌, Bool, true, IsTrue, List, length, map, max, Some, None, Result, Ok, Err, IfOk}
use Rattle.std.specs.FinMap.Entries.{find}
use Rattle.kt_base.specs.Causes.{Rose}
use Rattle.kt_disk.specs.Disk.{Files}
use Rattle.kt_history.specs.declared.changes.KeyChange.{KeyChange}
use Rattle.kt_history.specs.History.{Past}
use Rattle.kt_history.specs.Rows.{key_cmp}
use Rattle.kt_histlaws.specs.Fitting.{AreSound}
use Rattle.kt_histlaws.specs.Jobs.{AreAlike}
use Rattle.kt_content.specs.Content.{IsContent as HoldsPast}
use Rattle.kt_content.specs.Rules.{Rules, AreRules}
use Rattle.kt_rowfiles.specs.declared.taking.Span.{Span}
use Rattle.kt_diskrowset.specs.declared.data.RowSetData.{RowSetData}
use Rattle.kt_diskrowset.specs.declared.inputs.Outputs.{Outputs}
use Rattle.kt_diskrowset.specs.Data.{held_in}
use Rattle.kt_files.specs.Reading.{HoldAll}
use Rattle.kt_merge.specs.Merge.{hists_upto, hists_written, rows_and_changes, AreReadable, AreFaultless, HaveEach, IsOfInput}
use Rattle.kt_merge.specs.Told.{told_by_all, AreOutputs}
use Rattle.kt_merge.specs.Late.{AllTellChanges, AllTellLate}
use Rattle.kt_outputs.specs.Again.{AreAgain, AllNumbered, AllKeptStand, AllAddLate}
use Rattle.kt_outputs.specs.Named.{AreShort}
use Rattle.kt_outputs.specs.Outputs.{meta_in, all_file_numbers, AreThere, AreStable, AreWhole, AreWritten, CountUp, HasLeft}
use Rattle.kt_outputs.specs.declared.outputs.WriteNo.{WriteNo}
use Rattle.kt_outputs.specs.declared.outputs.WriteNo.TheVariants as write_no
use Rattle.kt_storeside.specs.declared.side.Lent.{Lent}
use Rattle.kt_storeside.specs.Sides.{StoreView}
use Rattle.kt_pick.specs.declared.rules.Want.{Want}
use Rattle.kt_pick.specs.declared.rules.Want.TheVariants as want
use Rattle.kt_engine.specs.declared.again.MemsNow.{MemsNow}
use Rattle.kt_engine.specs.declared.job.JobInput.{JobInput}
use Rattle.kt_engine.specs.declared.job.MaintNo.{MaintNo}
use Rattle.kt_engine.specs.declared.job.MaintNo.TheVariants as no
use Rattle.kt_engine.specs.declared.upkeep.Stage.TheVariants as stage
use Rattle.kt_engine.specs.Engines.{EngineView, IsFound}
use Rattle.kt_engine.specs.Jobs.{JobView, UpkeepView, UpkeepsView, asked, finished, job_of, taken_by, upkeep_at, without_want}
use Rattle.kt_engine.specs.JobSteps.{TellPassing, HasInput, AtNewStage, IsMerge}
use Rattle.kt_engine.specs.Logged.{PlanPasses}
use Rattle.kt_engine.specs.Near.{most_rowsets, most_files}
use Rattle.kt_engine.specs.Returning.{HasReturned, HasRefrozen}
use Rattle.kt_engine.specs.Visits.{IsVisit, PartView, Root, part_in, root_of}
use Rattle.kt_maint.specs.Done.{FoundBy, HasGiven}
use Rattle.kt_maint.specs.Runs.{HasNoDevice, KeepsAsks, LentToWrite, OnlyJob, RunsAs, StandsAs}
use Rattle.kt_maint.specs.declared.jobs.Start.{Start}
use Rattle.kt_maint.specs.declared.jobs.Start.TheVariants as start
use Rattle.kt_maint.specs.declared.tries.Turn.{Turn}
use Rattle.kt_maint.specs.declared.tries.Turn.TheVariants as turn
use Rattle.kt_maint.specs.declared.outside.Outside.{Outside}
use Rattle.kt_maint.specs.declared.reworking.Away.{Away}
use Rattle.kt_maint.specs.declared.reworking.Away.TheVariants as away
use Rattle.kt_maint.specs.DeltaRuns.{IsAwayOne}

-- ---- what was read

-- from the mark to the bound
abbrev pub span_of : JobInput → Span
span_of input = record { mark = input.mark; bound = input.bound }

-- By these rules of the table, which stay rules whatever is put over a row, opening found this past
pub record HasFoundBy {L D C : Type 0} (rules : Rules) (root : Root L D C) (first : Past) : Type 0 where
  pub closed : AreRules rules
  pub opens : FoundBy root first
  pub holds : HoldsPast rules root.work.fill root.super root.records root.opened first

-- For each past that opening found, what was read has no fault from the mark on, and passes the rules of the table
pub record ReadsWell {L D C : Type 0} (tells : Bool) (root : Root L D C) (input : JobInput) : Type 0 where
  pub faultless : (first : Past) → FoundBy root first → AreFaultless (span_of input) input.inputs
  pub passes : IsTrue tells → (rules : Rules) (first : Past) → HasFoundBy rules root first → PlanPasses rules root.work → TellPassing rules input.bound input.mark input.inputs

-- what was read of a flush or a compaction: as of the bound and from the job's mark on, all that its MemRowSets or its disk rowsets have
pub record HasRead {L D C : Type 0} (tells : Bool) (n : ℕ) (old new : EngineView L D C) (input : JobInput) : Type 0 where
  pub job : JobView
  pub had : job_of n old.upkeep ≡ Some job
  pub read : HasInput old.tablet job.taken input.inputs input.bound input.mark
  pub later : AtNewStage n (record job { stage = stage.Read; bound = input.bound; mark = input.mark; inputs = Some input.inputs }) old new
  pub well : ReadsWell tells (root_of old) input

-- What can be written outside the lock: inputs that can be merged, to a device that has no file of a number that is still to be given
pub record MayWrite {D : Type 0} (tells : Bool) (seen : D → Files) (out : Outside D) : Type 0 where
  pub readable : AreReadable out.input.inputs
  pub order : out.input.mark ≤ out.input.bound
  pub few : rows_and_changes out.input.inputs < 2 ^ 31
  pub vacant : IsTrue tells → (n : ℕ) → out.lent.next_file ≤ n → seen out.lent.device n ≡ None
  pub apart : 3 ≤ out.lent.next_file

-- ---- between the visits

-- Between its visits a pass has the store out to write files, and a flush or a compaction for this want outside the lock with what was read of it, whose outputs may have rowset numbers from those on that the store has still to give
pub record IsAway {L D C : Type 0} (tells : Bool) (seen : D → Files) (n : ℕ) (w : Want) (out : Outside D) (part : PartView L D C) : Type 0 where
  pub log : part.pass.out ≡ None
  pub store : StoreView D
  pub has : part.turn ≡ Some store
  pub lent : LentToWrite n store out.lent
  pub near : store.next_rowset < part.root.first_rowset + 2 ^ 44
  pub near_files : store.next_file < part.root.first_file + 2 ^ 44
  pub few_files : out.most ≤ out.lent.next_file + 2 ^ 34
  pub job : JobView
  pub own : part.pass.upkeep.job ≡ Some job
  pub at : job.stage ≡ stage.Outside
  pub want : (job.want ≡ w) × IsMerge w × (job.taken ≡ taken_by w)
  pub output : job.output ≡ None
  pub inputs : job.inputs ≡ Some out.input.inputs
  pub times : (job.bound ≡ out.input.bound) × (job.mark ≡ out.input.mark)
  pub given : job.first_rowset ≤ store.next_rowset
  pub may : MayWrite tells seen out
  pub well : ReadsWell tells part.root out.input

-- by what it has
abbrev pub IsAwayBy : {L D C : Type 0} → Bool → (D → Files) → ℕ → Want → Away D → PartView L D C → Type 0
IsAwayBy tells seen n w (away.Merge out) part = IsAway tells seen n w out part
IsAwayBy tells seen n w (away.One out) part = IsAwayOne tells seen n w out part

-- ---- what was written

-- what merging makes of what was read
pub record IsMergedOf (input : JobInput) (made : List RowSetData) : Type 0 where
  pub outputs : AreOutputs input.inputs.columns made
  pub keys : (q : List ℕ) → find key_cmp q (told_by_all made) ≢ None → IsOfInput q input.inputs
  pub rows : AreFaultless (span_of input) input.inputs → HaveEach (span_of input) input.inputs (told_by_all made)
  pub alike : AreFaultless (span_of input) input.inputs → (q : List ℕ) → AreAlike input.mark (hists_upto input.bound q input.inputs) (hists_written q made)
  pub sound : AreFaultless (span_of input) input.inputs → (q : List ℕ) → AreSound input.mark (hists_written q made)

-- disk rowsets that are written are this, under the next numbers, in files that stand
pub record HaveFiles {D : Type 0} (tells : Bool) (seen : D → Files) (now : D → ℕ) (leaves : D → ℕ → Files → Type 0) (input : JobInput) (went came : Lent D) (list : List RowSetData) : Type 0 where
  pub made : List RowSetData
  pub merged : IsMergedOf input made
  pub written : AreWritten went.next_rowset made list
  pub rowset : came.next_rowset ≡ went.next_rowset + length made
  pub numbered : CountUp went.next_file came.next_file (all_file_numbers list)
  pub short : AreShort list
  pub holds : IsTrue tells → (files : Files) → AreThere went.next_file came.next_file (seen came.device) files → HoldAll files (map (meta_in 0) list) (map held_in list)
  pub stable : IsTrue tells → AreStable seen now leaves went.next_file came.next_file came.device

-- The store is as it went out but for files of new numbers, not too many numbers were used, and where it did not fail what was read is merged and written
pub record HasWritten {D : Type 0} (tells : Bool) (seen : D → Files) (now : D → ℕ) (leaves : D → ℕ → Files → Type 0) (faults : D → ℕ) (most : ℕ) (input : JobInput) (went came : Lent D) (result : Result Outputs WriteNo) : Type 0 where
  pub meta : came.meta ≡ went.meta
  pub up : (went.next_rowset ≤ came.next_rowset) × (went.next_file ≤ came.next_file)
  pub risen : came.next_rowset ≤ went.next_rowset + 2 ^ 31
  pub small : came.next_rowset < 2 ^ 64
  pub few_files : came.next_file ≤ max went.next_file most
  pub left : IsTrue tells → HasLeft seen now leaves went.next_file came.next_file went.device came.device
  pub faults_rise : faults went.device ≤ faults came.device
  pub rose : result ≡ Err write_no.Fault → Rose (faults went.device) (faults came.device)
  pub files : IfOk result (λ outputs. HaveFiles tells seen now leaves input went came outputs.rowsets)

-- A job comes back from outside with the store and with what was written
pub record HasCome {L D C : Type 0} (tells : Bool) (seen : D → Files) (now : D → ℕ) (leaves : D → ℕ → Files → Type 0) (faults : D → ℕ) (n bound most : ℕ) (lent : Lent D) (result : Result Outputs WriteNo) (part : PartView L D C) : Type 0 where
  pub want : Want
  pub out : Outside D
  pub away : IsAway tells seen n want out part
  pub bound_is : bound ≡ out.input.bound
  pub most_is : most ≡ out.most
  pub written : HasWritten tells seen now leaves faults most out.input out.lent lent result

-- A store that was written to may come home: no file has changed but those of new numbers, and not too many numbers were used
pub record MayComeHome {D : Type 0} (tells : Bool) (seen : D → Files) (now : D → ℕ) (leaves : D → ℕ → Files → Type 0) (faults : D → ℕ) (first_rowset first_file : ℕ) (store : StoreView D) (lent : Lent D) : Type 0 where
  pub whole : IsTrue store.whole
  pub meta : (lent.meta ≡ None) × (store.lent ≡ None)
  pub up : (store.next_rowset ≤ lent.next_rowset) × (store.next_file ≤ lent.next_file)
  pub left : IsTrue tells → HasLeft seen now leaves store.next_file lent.next_file store.known lent.device
  pub faults_rise : faults store.known ≤ faults lent.device
  pub near : lent.next_rowset ≤ max store.next_rowset (first_rowset + most_rowsets)
  pub near_files : lent.next_file ≤ max store.next_file (first_file + most_files)

-- ---- what came later is put in

-- REDO files that came to written disk rowsets are written behind them, and no rowset number was used
pub record HaveLateFiles {D : Type 0} (tells : Bool) (seen : D → Files) (now : D → ℕ) (leaves : D → ℕ → Files → Type 0) (went came : Lent D) (late done : List RowSetData) : Type 0 where
  pub again : AreAgain late done
  pub rowset : came.next_rowset ≡ went.next_rowset
  pub numbered : AllNumbered went.next_file came.next_file late done
  pub holds : IsTrue tells → AllKeptStand (seen came.device) late → HoldAll (seen came.device) (map (meta_in 0) done) (map held_in done)
  pub stable : IsTrue tells → AreStable seen now leaves went.next_file came.next_file came.device

-- the store is as it was but for files of new numbers, and not too many numbers were used
pub record HasAdded {D A : Type 0} (tells : Bool) (seen : D → Files) (now : D → ℕ) (leaves : D → ℕ → Files → Type 0) (faults : D → ℕ) (most : ℕ) (went came : Lent D) (result : Result A WriteNo) : Type 0 where
  pub meta : came.meta ≡ went.meta
  pub up : (went.next_rowset ≤ came.next_rowset) × (went.next_file ≤ came.next_file)
  pub risen : came.next_rowset ≤ went.next_rowset + 2 ^ 31
  pub few_files : came.next_file ≤ max went.next_file most
  pub left : IsTrue tells → HasLeft seen now leaves went.next_file came.next_file went.device came.device
  pub faults_rise : faults went.device ≤ faults came.device
  pub rose : result ≡ Err write_no.Fault → Rose (faults went.device) (faults came.device)

-- outputs have what came to disk rowsets above the bound, each that of its own rows, in files that are written
pub record AreWithLate {D : Type 0} (tells : Bool) (seen : D → Files) (now : D → ℕ) (leaves : D → ℕ → Files → Type 0) (bound : ℕ) (went came : Lent D) (list outputs done : List RowSetData) : Type 0 where
  pub late : List RowSetData
  pub told : AllTellLate bound list outputs late
  pub adds : AllAddLate outputs late
  pub whole : AreWhole late
  pub files : HaveLateFiles tells seen now leaves went came late done

-- and these are the disk rowsets of a compaction that is back, as they are now
pub record IsPutIn {L D C : Type 0} (tells : Bool) (seen : D → Files) (now : D → ℕ) (leaves : D → ℕ → Files → Type 0) (n bound : ℕ) (went came : Lent D) (job : JobView) (outputs done : List RowSetData) (old new : EngineView L D C) : Type 0 where
  pub list : List RowSetData
  pub back : HasReturned tells n job list old new
  pub with_late : AreWithLate tells seen now leaves bound went came list outputs done

-- outputs have what lists of changes have above the bound, each that of its own rows, in files that are written
pub record AreWithChanges {D : Type 0} (tells : Bool) (seen : D → Files) (now : D → ℕ) (leaves : D → ℕ → Files → Type 0) (bound : ℕ) (went came : Lent D) (lists : List (List KeyChange)) (outputs done : List RowSetData) : Type 0 where
  pub late : List RowSetData
  pub told : AllTellChanges bound lists outputs late
  pub adds : AllAddLate outputs late
  pub whole : AreWhole late
  pub files : HaveLateFiles tells seen now leaves went came late done

-- and behind them come disk rowsets of what the others have, merged and written
pub record AreWithSince {D : Type 0} (tells : Bool) (seen : D → Files) (now : D → ℕ) (leaves : D → ℕ → Files → Type 0) (faults : D → ℕ) (bound most : ℕ) (went came : Lent D) (mems : MemsNow) (outputs done : List RowSetData) : Type 0 where
  pub mid : Lent D
  pub firsts : Outputs
  pub added : HasAdded tells seen now leaves faults most went mid (Ok firsts)
  pub changed : AreWithChanges tells seen now leaves bound went mid mems.now outputs firsts.rowsets
  pub more : Outputs
  pub written : HasWritten tells seen now leaves faults most mems.since mid came (Ok more)
  pub small : mems.since.mark < 2 ^ 64
  pub both : done ≡ firsts.rowsets ++ more.rowsets

-- and this is what the MemRowSets have now of a flush that is back
pub record IsPutSince {L D C : Type 0} (tells : Bool) (seen : D → Files) (now : D → ℕ) (leaves : D → ℕ → Files → Type 0) (faults : D → ℕ) (n bound most : ℕ) (went came : Lent D) (job : JobView) (outputs done : List RowSetData) (old new : EngineView L D C) : Type 0 where
  pub mems : MemsNow
  pub back : HasRefrozen tells n job mems old new
  pub with_since : AreWithSince tells seen now leaves faults bound most went came mems outputs done

-- what came meanwhile is put in, by the want of the job
abbrev pub IsPutBy : {L D C : Type 0} → Want → Bool → (D → Files) → (D → ℕ) → (D → ℕ → Files → Type 0) → (D → ℕ) → ℕ → ℕ → ℕ → Lent D → Lent D → JobView → List RowSetData → List RowSetData → EngineView L D C → EngineView L D C → Type 0
IsPutBy want.Flush tells seen now leaves faults n bound most went came job outputs done old new = IsPutSince tells seen now leaves faults n bound most went came job outputs done old new
IsPutBy (want.Compact taken) tells seen now leaves faults n bound most went came job outputs done old new = IsPutIn tells seen now leaves n bound went came job outputs done old new
IsPutBy _ tells seen now leaves faults n bound most went came job outputs done old new = ⊥

-- The job of a pass is back, in a step without a line: nothing but what a flush freezes and this pass's maintenance has changed
pub record IsBack {L D C : Type 0} (n : ℕ) (old new : EngineView L D C) : Type 0 where
  pub visit : IsVisit n old new
  pub still : StandsAs n old new
  pub beside : new ≡ record old { tablet = new.tablet; upkeep = new.upkeep }
  pub line : new.tablet.core.trail ≡ old.tablet.core.trail
  pub goes : new.tablet.core.stopped ≡ old.tablet.core.stopped
  pub aloft : new.tablet.core.aloft ≡ old.tablet.core.aloft
  pub own : OnlyJob n old.upkeep new.upkeep

-- ---- its end

-- a job that went outside is done, and this is what it was
abbrev pub ended : Want → JobView → UpkeepView → UpkeepView
ended w job u = record u { last = finished w; todo = without_want w u.todo; job = None; done = Some job }

-- a job has what was read of another, as of the same bound and with the same mark
pub record HasReadTheSame (its job : JobView) : Type 0 where
  pub inputs : job.inputs ≡ its.inputs
  pub times : (job.bound ≡ its.bound) × (job.mark ≡ its.mark)

-- the job of a pass has come further with what was read of it
pub record KeepsRead (n : ℕ) (old new : UpkeepsView) : Type 0 where
  pub its : JobView
  pub had : job_of n old ≡ Some its
  pub job : JobView
  pub has : job_of n new ≡ Some job
  pub same : HasReadTheSame its job

-- and is done with it
pub record EndsRead (n : ℕ) (old new : UpkeepsView) : Type 0 where
  pub its : JobView
  pub had : job_of n old ≡ Some its
  pub job : JobView
  pub done : (upkeep_at n new.passes).done ≡ Some job
  pub same : HasReadTheSame its job

-- and it has given what it was begun for
pub record HasEnded {L D C : Type 0} (n : ℕ) (w : Want) (old new : EngineView L D C) : Type 0 where
  pub job : JobView
  pub upkeep : upkeep_at n new.upkeep.passes ≡ ended w job (upkeep_at n old.upkeep.passes)
  pub given : HasGiven (IsFound new) w job

-- how a job that was begun ends
abbrev pub EndsAs : {L D C : Type 0} → ℕ → Want → EngineView L D C → EngineView L D C → Result (Unit {0}) MaintNo → Type 0
EndsAs n w old new (Ok done) = HasEnded n w old new × HasNoDevice n new
EndsAs n w old new (Err no.Memory) = HasNoDevice n new × (job_of n new.upkeep ≡ None)
EndsAs n w old new (Err no.Stopped) = (new.tablet.core.stopped ≡ true) × HasNoDevice n new

-- how the job of a pass, which has begun, left the lock: it is outside, or is given up
abbrev pub LeftAs : {L D C : Type 0} → Bool → (D → Files) → ℕ → Want → EngineView L D C → EngineView L D C → Start Turn D → Type 0
LeftAs tells seen n w old new (start.Over t) = (t ≡ turn.Memory) × HasNoDevice n new × (job_of n new.upkeep ≡ None)
LeftAs tells seen n w old new (start.Out out) = IsAwayBy tells seen n w out (part_in new n) × KeepsAsks n old.upkeep new.upkeep

-- it has asked once more, and its job is outside
pub record GoesOut {L D C : Type 0} (tells : Bool) (seen : D → Files) (n : ℕ) (w : Want) (out : Away D) (old new : EngineView L D C) : Type 0 where
  pub away : IsAwayBy tells seen n w out (part_in new n)
  pub job : JobView
  pub want : job.want ≡ w
  pub asks : upkeep_at n new.upkeep.passes ≡ asked w job (upkeep_at n old.upkeep.passes)

-- how a try for a job in a visit ended
abbrev pub StartsAs : {L D C : Type 0} → Bool → (D → Files) → ℕ → Want → EngineView L D C → EngineView L D C → Start Turn D → Type 0
StartsAs tells seen n w old new (start.Over t) = RunsAs n w old new t
StartsAs tells seen n w old new (start.Out out) = GoesOut tells seen n w out old new
