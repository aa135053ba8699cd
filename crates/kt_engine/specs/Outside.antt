-- A job that goes on outside the lock with what it read, while rows change.
use Rattle.std.specs.Prelude.{◌≡◌, ◌≢◌, ◌≤◌, ◌<◌, ◌⊎◌, ◌==◌, ℕ, suc, true, false, Bool, List, [], ◌∷◌, ◌++◌, length, drop, Option, Some, None}
use Rattle.std.specs.List.{All, AllByRecursion, list_any}
use Rattle.kt_history.specs.declared.target.Target.{Target}
use Rattle.kt_history.specs.History.{Past}
use Rattle.kt_history.specs.Stores.{Hist, never}
use Rattle.kt_records.specs.declared.entry.Entry.{Entry}
use Rattle.kt_histlaws.specs.Flights.{UpTo, AllUnder}
use Rattle.kt_histlaws.specs.Histories.{hists}
use Rattle.kt_histlaws.specs.Pending.{Aloft}
use Rattle.kt_rowfiles.specs.Files.{hist_in_files}
use Rattle.kt_content.specs.Flushes.{before}
use Rattle.kt_content.specs.RunEvents.{RecordsBelow, RowsBelow}
use Rattle.kt_pick.specs.declared.rules.Want.{Want}
use Rattle.kt_pick.specs.declared.rules.Want.TheVariants as want
use Rattle.kt_diskrowset.specs.declared.data.RowSetData.{RowSetData}
use Rattle.kt_diskrowset.specs.declared.inputs.Inputs.{Inputs}
use Rattle.kt_diskrowset.specs.Data.{held_in}
use Rattle.kt_diskrowset.specs.Held.{files_told}
use Rattle.kt_diskrowset.specs.Rowset.{HeldFiles}
use Rattle.kt_merge.specs.Merge.{hists_of}
use Rattle.kt_joblaws.specs.Apart.{AreApart}
use Rattle.kt_joblaws.specs.Late.{AllHaveLater}
use Rattle.kt_super.specs.declared.meta.Meta.{Meta}
use Rattle.kt_stores.specs.Takes.{mems, rowsets as disks, of_taken, files_taken}
use Rattle.kt_tablet.specs.Views.{View, Opens}
use Rattle.kt_tablet.specs.Jobs.{taken_stores, files_of}
use Rattle.kt_engine.specs.declared.again.MemsNow.{MemsNow}
use Rattle.kt_engine.specs.declared.upkeep.Stage.{Stage}
use Rattle.kt_engine.specs.declared.upkeep.Stage.TheVariants as stage
use Rattle.kt_engine.specs.Jobs.{JobView, UpkeepView, UpkeepsView, HasRowset, takes_of}
use Rattle.kt_engine.specs.Near.{first_number}
use Rattle.kt_engine.specs.Over.{AreLeft}

-- a job is outside
abbrev pub is_at_outside : Stage → Bool
is_at_outside stage.Outside = true
is_at_outside _ = false

-- whether a pass has a job that is outside
abbrev pub is_outside : Option JobView → Bool
is_outside None = false
is_outside (Some job) = is_at_outside job.stage

abbrev pub any_outside : List (ℕ × UpkeepView) → Bool
any_outside passes = list_any (λ (p : ℕ × UpkeepView). is_outside p.1.job) passes

-- what these files have of each key lies up to a bound
abbrev pub AreUpToInFiles : ℕ → HeldFiles → Type 0
AreUpToInFiles bound h = (q : List ℕ) → UpTo bound (hist_in_files q (files_told h)).steps

-- Where all that some disk rowsets have of a key lies up to a bound, what their files have of it does
abbrev pub FilesAreUpTo : {C : Type 0} → List ℕ → View C → Type 0
FilesAreUpTo taken v = (bound : ℕ) (q : List ℕ) → AllUnder (suc bound) (hists q (taken_stores (disks taken) v)) → AllByRecursion (λ (h : HeldFiles). UpTo bound (hist_in_files q (files_told h)).steps) (files_taken taken v.files)

-- ---- what it takes

-- The MemRowSets of a flush are those up to its last one, which lies below the one that takes inserts: as many as it took with it
pub record TakesMems (names : List Target) (job : JobView) : Type 0 where
  pub none : job.taken ≡ []
  pub first : job.last_mem < first_number names
  pub many : length (of_taken (mems job.last_mem) (drop 1 names) (drop 1 names)) ≡ job.frozen

-- The disk rowsets of a compaction are there
pub record TakesDisks (names : List Target) (job : JobView) : Type 0 where
  pub some : job.taken ≢ []
  pub there : (r : ℕ) → list_any (λ (s : ℕ). s == r) job.taken ≡ true → HasRowset r names

abbrev pub TakesStill : List Target → JobView → Want → Type 0
TakesStill names job want.Flush = TakesMems names job
TakesStill names job (want.Compact taken) = (job.taken ≡ taken) × TakesDisks names job
TakesStill names job _ = ⊥

-- A flush reads the MemRowSet that takes inserts too, which has nothing then
abbrev pub vacant_of : Want → List Hist
vacant_of want.Flush = never ∷ []
vacant_of _ = []

-- what was read of a key without that
abbrev pub hists_read : Want → Inputs → List ℕ → List Hist
hists_read want.Flush inputs q = drop 1 (hists_of q inputs)
hists_read _ inputs q = hists_of q inputs

-- A flush or a compaction that is outside. No superblock is out for publishing, and none was published since it began: what it takes is there, and all disk rowsets have numbers that were given before the job's. The stores that it takes have what was read of them, and behind
-- that changes of their rows above its bound; their files have none. From its mark on all stores are apart, also where that of the tablet has risen. No record of the log, and no row of a flying write, names a rowset that came since.
pub record MergesOutside {C : Type 0} (v : View C) (meta : Meta) (lent : Option Meta) (upkeep : UpkeepsView) (records : List Entry) (job : JobView) : Type 0 where
  pub inputs : Inputs
  pub read : job.inputs ≡ Some inputs
  pub free : (upkeep.publishing ≡ None) × (lent ≡ None)
  pub begun : upkeep.begun ≢ 0
  pub takes : TakesStill v.names job job.want
  pub left : AreLeft job.first_rowset (drop v.frozen (drop 1 v.names))
  pub below : meta.next_rowset ≤ job.first_rowset
  pub as_many : length v.names ≡ length v.core.stores
  pub named : RecordsBelow (before job.first_rowset (first_number v.names)) records
  pub noted : AllByRecursion (RowsBelow (before job.first_rowset (first_number v.names))) v.notes
  pub since : job.bound ≤ v.core.c
  pub flies : All (λ (w : Aloft). job.bound < w.ts) v.core.aloft
  pub mark : (job.mark ≤ job.bound) × (job.mark ≤ v.core.a)
  pub low : (first : Past) → Opens v.opening v.mark v.core.opened first → meta.a ≤ job.mark
  pub front : (first : Past) → Opens v.opening v.mark v.core.opened first → (q : List ℕ) → hists_of q inputs ≡ vacant_of job.want ++ hists_read job.want inputs q
  pub later : (first : Past) → Opens v.opening v.mark v.core.opened first → (q : List ℕ) → AllHaveLater job.bound (hists_read job.want inputs q) (hists q (taken_stores (takes_of job) v))
  pub apart : (first : Past) → Opens v.opening v.mark v.core.opened first → (q : List ℕ) → AreApart job.mark (hists_read job.want inputs q) × AllUnder (suc job.bound) (hists_read job.want inputs q)
  pub whole : (first : Past) → Opens v.opening v.mark v.core.opened first → (q : List ℕ) → AreApart job.mark (hists q v.core.stores)
  pub upto : (first : Past) → Opens v.opening v.mark v.core.opened first → AllByRecursion (AreUpToInFiles job.bound) (files_taken job.taken v.files)

-- a want is on the files of one disk rowset
abbrev pub Rewrites : Want → Type 0
Rewrites want.Flush = ⊥
Rewrites (want.Compact taken) = ⊥
Rewrites _ = Unit {0}

-- A job on the files of a disk rowset that is outside. No superblock is out for publishing, and its rowset has the files that were read
pub record RewritesOutside {C : Type 0} (v : View C) (lent : Option Meta) (upkeep : UpkeepsView) (job : JobView) : Type 0 where
  pub on : Rewrites job.want
  pub free : (upkeep.publishing ≡ None) × (lent ≡ None)
  pub begun : upkeep.begun ≢ 0
  pub was : RowSetData
  pub read : job.read ≡ Some was
  pub held : files_of job.rowset v.files ≡ Some (held_in was)

-- a job that is outside
abbrev pub IsOutside : {C : Type 0} → View C → Meta → Option Meta → UpkeepsView → List Entry → JobView → Type 0
IsOutside v meta lent upkeep records job = MergesOutside v meta lent upkeep records job ⊎ RewritesOutside v lent upkeep job

-- the job of a pass is back, with all records counted, the MemRowSet that takes inserts now, and what its disk rowsets have, which was handed out
abbrev pub job_back : ℕ → ℕ → List RowSetData → JobView → JobView
job_back many last list job = record job { stage = stage.Read; many = many; last_mem = last; returned = Some list }

-- that of a flush is back, with all records counted and the MemRowSet that froze last, and what was handed out of its MemRowSets
abbrev pub job_again : ℕ → ℕ → MemsNow → JobView → JobView
job_again many last now job = record job { stage = stage.Read; many = many; last_mem = last; again = Some now }

-- the job of a pass is outside, of this many frozen MemRowSets
abbrev pub job_out : ℕ → JobView → JobView
job_out frozen job = record job { stage = stage.Outside; frozen = frozen }
