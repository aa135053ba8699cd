-- The log of an engine: the past that opening found, the records of this run behind those that it found, and what a crash leaves of both.
use Rattle.std.specs.Prelude.{◌≡◌, ◌≤◌, ◌<◌, ◌^◌, ◌==◌, ℕ, zero, suc, max, true, false, List, [], ◌∷◌, ◌++◌, length, Some, None, Ok, slice_get}
use Rattle.std.specs.List.{All, AllByRecursion, Contains, list_any}
use Rattle.kt_disk.specs.Disk.{Files}
use Rattle.kt_history.specs.declared.event.Event.{Event}
use Rattle.kt_history.specs.declared.event.Event.TheVariants as event
use Rattle.kt_history.specs.declared.operation.RowOp.{RowOp}
use Rattle.kt_history.specs.declared.target.Target.{Target}
use Rattle.kt_history.specs.declared.target.Target.TheVariants.{Mem, Delta}
use Rattle.kt_history.specs.Rows.{Row, Rows}
use Rattle.kt_history.specs.History.{Past, rows_at, raise}
use Rattle.kt_history.specs.Operations.{outcomes_on}
use Rattle.kt_history.specs.Machine.{Workload, command_at}
use Rattle.kt_history.specs.Machine as machine
use Rattle.kt_history.specs.Stores.{Store, Hist}
use Rattle.kt_records.specs.declared.entry.Entry.{Entry}
use Rattle.kt_records.specs.declared.entry.Entry.TheVariants.{Replicate, Commit}
use Rattle.kt_records.specs.declared.entry.CommitRow.{CommitRow}
use Rattle.kt_journal.specs.Order.{waiting, newest_first}
use Rattle.kt_journal.specs.Log.{log_of, IsLog}
use Rattle.kt_loglaws.specs.Replay.{last_of, commit_of}
use Rattle.kt_loglaws.specs.Fronts.{with_records, ops_of, upto}
use Rattle.kt_content.specs.Places.{Super}
use Rattle.kt_content.specs.DeltaFlushes.{DeltasUpTo}
use Rattle.kt_content.specs.Rules.{Rules, OpsPass, HistPasses}
use Rattle.kt_content.specs.Content.{HoldsKey, IsContent as HoldsPast}
use Rattle.kt_content.specs.InMemory.{Mirrors}
use Rattle.kt_content.specs.Records.{AllTold}
use Rattle.kt_content.specs.Recovering.{IsRecovered}
use Rattle.kt_content.specs.RunEvents.{Numbers, RecordsBelow}
use Rattle.kt_content.specs.Recoverable.{SuperStands}
use Rattle.kt_histlaws.specs.Pending.{Aloft}
use Rattle.kt_histlaws.specs.Core.{Core, run_past}
use Rattle.kt_histlaws.specs.Histories.{hists, past_hist}
use Rattle.kt_tablet.specs.Rows.{AreRecorded}
use Rattle.kt_tablet.specs.Views.{place_at}
use Rattle.kt_engine.specs.Memory.{by_name, resident, AreNamed}
use Rattle.kt_engine.specs.Near.{NamesEach}

-- the rules of the table take each write of the plan
abbrev pub PlanPasses : Rules → Workload → Type 0
PlanPasses rules work = (s i : ℕ) → OpsPass rules work.fill (machine.ops_of (command_at work s i))

-- a flying write waits for its COMMIT in this log
pub record Waits (records : List Entry) (places : List (ℕ × ℕ)) (w : Aloft) : Type 0 where
  pub up : 0 < w.ts
  pub waits : waiting w.ts (newest_first [] records) ≡ Some (length w.ops)
  pub ops : ops_of w.ts records ≡ Some w.ops
  pub n : ℕ
  pub place : place_at w.s places ≡ Some (suc n)
  pub there : slice_get records n ≡ Some (Replicate w.ts w.ops)

-- the REPLICATE of a flying write is placed among so many records
pub record IsPlaced (many : ℕ) (places : List (ℕ × ℕ)) (w : Aloft) : Type 0 where
  pub place : ℕ
  pub at : place_at w.s places ≡ Some place
  pub among : place ≤ many

-- it is at its place among these records, counted from 1
pub record IsThere (records : List Entry) (places : List (ℕ × ℕ)) (w : Aloft) : Type 0 where
  pub n : ℕ
  pub place : place_at w.s places ≡ Some (suc n)
  pub there : slice_get records n ≡ Some (Replicate w.ts w.ops)

-- no two flying writes have one timestamp
abbrev pub AreApart : List Aloft → Type 0
AreApart [] = Unit {0}
AreApart (w ∷ aloft) = All (λ v. (v.ts == w.ts) ≡ false) aloft × AreApart aloft

-- an acknowledged write, which has an `end` line, is at or below t
abbrev pub AcknowledgedBy : ℕ → List Event → Type 0
AcknowledgedBy t [] = Unit {0}
AcknowledgedBy t (event.End s i ts ∷ events) = (ts ≤ t) × AcknowledgedBy t events
AcknowledgedBy t (_ ∷ events) = AcknowledgedBy t events

-- the REPLICATE of each acknowledged write is among these records
abbrev pub AcknowledgedIn : List Entry → List Event → Type 0
AcknowledgedIn records [] = Unit {0}
AcknowledgedIn records (event.End s i ts ∷ events) = ((ops : List RowOp) × Contains records (Replicate ts ops)) × AcknowledgedIn records events
AcknowledgedIn records (_ ∷ events) = AcknowledgedIn records events

-- the first rows of a flying write are applied only once its REPLICATE is among these records
abbrev pub IsDurable : List Entry → Aloft → Type 0
IsDurable records w = 0 < w.applied → Contains records (Replicate w.ts w.ops)

-- the name of a MemRowSet, as a COMMIT spells it
abbrev pub IsMem : Target → Type 0
IsMem (Mem number) = (0 < number) × (number < 2 ^ 64)
IsMem (Delta rowset dms) = ⊥

-- each write of these records without a COMMIT flies
abbrev pub UntoldFly : List Entry → List Aloft → Type 0
UntoldFly records aloft = (ts : ℕ) (ops : List RowOp) → ops_of ts records ≡ Some ops → commit_of ts records ≡ None → list_any (λ w. w.ts == ts) aloft ≡ true

-- the rows just before a write, of which a log may have one at 0
abbrev pub rows_before : ℕ → Past → Rows
rows_before zero past = []
rows_before (suc t) past = rows_at past t

-- COMMITs of writes of these records: each says what its operations did to the rows just before it in this past, and names stores of these
abbrev pub AreDue : Row → List Target → Past → List Entry → List Entry → Type 0
AreDue fill stores past records [] = Unit {0}
AreDue fill stores past records (Replicate ts ops ∷ queued) = ⊥
AreDue fill stores past records (Commit ts rows ∷ queued) =
    ((ops : List RowOp) × (ops_of ts records ≡ Some ops) × AreRecorded stores (outcomes_on fill (rows_before ts past) ops) rows) × AreDue fill stores past records queued

-- COMMITs alone
abbrev pub AreCommits : List Entry → Type 0
AreCommits [] = Unit {0}
AreCommits (Replicate ts ops ∷ records) = ⊥
AreCommits (Commit ts rows ∷ records) = AreCommits records

-- of each disk rowset no record names a later DeltaMemStore than the one that takes its changes
abbrev pub DeltasBelow : List Target → List Entry → Type 0
DeltasBelow [] records = Unit {0}
DeltasBelow (Mem n ∷ names) records = DeltasBelow names records
DeltasBelow (Delta r n ∷ names) records = DeltasUpTo r n records × DeltasBelow names records

-- what stores have of each key passes the rules of the table
abbrev pub StoresPass : Rules → List Store → Type 0
StoresPass rules stores = (q : List ℕ) → AllByRecursion (λ (h : Hist). HistPasses rules q h) (hists q stores)

-- An engine takes up a past that a superblock and records held, up to low: each COMMIT that is queued tells what became of its write, and its stores mirror of
-- each key what the superblock holds with all records, and what they have passes the rules of the table.
pub record TakesUp (rules : Rules) (fill : Row) (super : Super) (names : List Target) (stores : List Store) (records queued : List Entry) (low : ℕ) (first : Past) : Type 0 where
  pub told : AllTold fill super low records queued
  pub mirrors : (q : List ℕ) → (h : HoldsKey fill super (records ++ queued) q (past_hist q first)) → Mirrors super.a super (by_name names (hists q stores)) h.held
  pub passes : StoresPass rules stores

-- a COMMIT names no store but these
abbrev pub NamesOnly : List Target → Entry → Type 0
NamesOnly stores (Replicate ts ops) = Unit {0}
NamesOnly stores (Commit ts rows) = All (λ row. All (Contains stores) row.targets) rows

-- The records of an engine, whatever opening found: those that it found, and behind them those of the run, are a log; no record is
-- later than the last timestamp; each write that flies waits for its COMMIT, and none else does.
pub record LogStands (core : Core) (records : List Entry) (places : List (ℕ × ℕ)) (run : List Entry) : Type 0 where
  pub log : IsLog (records ++ run)
  pub since : core.opened ≤ core.c
  pub last : last_of (records ++ run) ≤ core.c
  pub flying : All (Waits (records ++ run) places) core.aloft
  pub untold : UntoldFly (records ++ run) core.aloft

-- And for a past that these records hold under a superblock, up to low: each front of the records from those on holds it with the writes of the front, and all of
-- them are those of the run. The stores in memory mirror of each key what all records hold, without what is still to be applied, and what is noted of the
-- rows that are applied is true; so a COMMIT that says it changes nothing of what the records hold.
pub record KeepsFrom (rules : Rules) (core : Core) (super : Super) (names : List Target) (notes : List (List CommitRow)) (records run : List Entry) (low : ℕ) (past : Past) : Type 0 where
  pub recovered : IsRecovered rules core.work.fill super records run low past
  pub writes : with_records core.work.fill past run ≡ run_past core
  pub numbers : Numbers
  pub stands : SuperStands rules core.work.fill super records run past (resident core names notes numbers)

-- so it is of the past that opening found, under the superblock that it found
abbrev pub KeepsRun : Rules → Core → Super → List Target → List (List CommitRow) → List Entry → List Entry → Type 0
KeepsRun rules core super names notes records run = KeepsFrom rules core super names notes records run core.opened core.first

-- And of a superblock that was made when since were durable of the run: what it holds with them is the opened past with their writes, up to low.
-- With what opening found it has no earlier last timestamp than opening found. No record names a DeltaMemStore that came since, and what the stores have passes the rules of the table.
pub record KeepsSince (rules : Rules) (core : Core) (super : Super) (names : List Target) (notes : List (List CommitRow)) (records run : List Entry) (durable : ℕ) : Type 0 where
  pub since : List Entry
  pub rest : List Entry
  pub parts : run ≡ since ++ rest
  pub made : length (records ++ since) ≤ durable
  pub opened : core.opened ≤ max super.c (last_of records)
  pub low : ℕ
  pub from : core.opened ≤ low
  pub up : low ≤ core.c
  pub last : last_of (records ++ since) ≤ low
  pub mark : super.a ≤ core.a
  pub clock : super.c ≤ core.c
  pub named : AreNamed super names
  pub deltas : DeltasBelow names (records ++ run)
  pub passes : StoresPass rules core.stores
  pub keeps : KeepsFrom rules core super names notes (records ++ since) rest low (with_records core.work.fill core.first since)

-- A crash left this image: the records that opening found and some of the run, whose COMMITs name such stores alone.
pub record HoldsRecords (found : List Entry) (known : Target → Type 0) (image : Files) : Type 0 where
  pub run : List Entry
  pub reads : log_of image ≡ Ok (found ++ run)
  pub names : All (NamesEach known) run

-- A crash left this image: the records that opening found and some of the run, whose COMMITs name the engine's stores alone. With the superblock it holds
-- the opened past with the run's writes up to some time, each acknowledged one among them, and nothing later than the run's last timestamp.
pub record HoldsFront (rules : Rules) (core : Core) (super : Super) (found : List Entry) (stores : List Target) (image : Files) : Type 0 where
  pub records : List Entry
  pub reads : log_of image ≡ Ok records
  pub log : IsLog records
  pub run : List Entry
  pub front : records ≡ found ++ run
  pub names : All (NamesOnly stores) run
  pub t : ℕ
  pub after_opening : core.opened ≤ t
  pub acknowledged : AcknowledgedBy t core.trail
  pub holds : HoldsPast rules core.work.fill super records (max super.c (last_of records)) (upto t (run_past core))
  pub last : last_of records ≤ t
  pub within : last_of records ≤ core.c

-- It holds the opened past with all writes of the run.
pub record HoldsRun (rules : Rules) (core : Core) (super : Super) (found : List Entry) (stores : List Target) (image : Files) : Type 0 where
  pub records : List Entry
  pub reads : log_of image ≡ Ok records
  pub log : IsLog records
  pub run : List Entry
  pub front : records ≡ found ++ run
  pub names : All (NamesOnly stores) run
  pub holds : HoldsPast rules core.work.fill super records (max super.c (last_of records)) (run_past core)
  pub last : last_of records ≤ core.c

-- It holds, from the superblock's mark on, the opened past with the run's writes up to some time, each acknowledged one among them, and nothing later than
-- the run's last timestamp; its own is no earlier than what opening found. Its COMMITs name no store of a number that the engine has not given.
pub record HoldsUpTo (rules : Rules) (core : Core) (super : Super) (found : List Entry) (numbers : Numbers) (image : Files) : Type 0 where
  pub records : List Entry
  pub reads : log_of image ≡ Ok records
  pub log : IsLog records
  pub run : List Entry
  pub front : records ≡ found ++ run
  pub names : RecordsBelow numbers records
  pub t : ℕ
  pub after_opening : core.opened ≤ t
  pub acknowledged : AcknowledgedBy t core.trail
  pub since : core.opened ≤ max super.c (last_of records)
  pub holds : HoldsPast rules core.work.fill super records (max super.c (last_of records)) (raise (upto t (run_past core)) super.a)
  pub last : last_of records ≤ t
  pub within : last_of records ≤ core.c
