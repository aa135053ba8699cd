-- Each event of an engine keeps what can be recovered.
use Rattle.std.specs.Prelude.{◌≡◌, ◌<◌, ◌≤◌, ◌⊎◌, ◌-◌, ℕ, suc, ◌==◌, not, Bool, true, false, is_some, List, [], ◌∷◌, ◌++◌, map, Option, Some, None, if◌then◌else◌}
use Rattle.std.specs.List.{filter}
use Rattle.std.specs.Ordering.{eq_by_cmp}
use Rattle.kt_history.specs.declared.change.Change.{Change}
use Rattle.kt_history.specs.declared.operation.RowOp.{RowOp}
use Rattle.kt_history.specs.declared.target.Target.{Target}
use Rattle.kt_history.specs.Rows.{Row, key_cmp}
use Rattle.kt_history.specs.History.{Past, raise}
use Rattle.kt_history.specs.Operations.{effect, DifferentKeys}
use Rattle.kt_records.specs.declared.entry.Entry.{Entry}
use Rattle.kt_records.specs.declared.entry.Entry.TheVariants.{Replicate, Commit}
use Rattle.kt_records.specs.declared.entry.CommitRow.{CommitRow}
use Rattle.kt_histlaws.specs.Histories.{first_some, past_hist, AtMostOne}
use Rattle.kt_history.specs.Stores.{Hist, row_of, step_of, never}
use Rattle.kt_disk.specs.Disk.{Files}
use Rattle.kt_journal.specs.Log.{IsLog}
use Rattle.kt_loglaws.specs.Replay.{empty}
use Rattle.kt_loglaws.specs.Fronts.{ops_of, with_records}
use Rattle.kt_rowfiles.specs.Files.{DiskRowset}
use Rattle.kt_content.specs.Rules.{Rules, OpsPass}
use Rattle.kt_content.specs.Places.{Super, fresh, Place, Held, Moves, memory, disk, row_before, needed_in}
use Rattle.kt_content.specs.KeyOps.{KeyOp, seen}
use Rattle.kt_content.specs.Content.{AboveFiles, AreTold, IsContent}
use Rattle.kt_content.specs.Agreement.{Agree}
use Rattle.kt_content.specs.MoreOps.{PlacesDiffer, untold, told, TellsPlace}
use Rattle.kt_content.specs.Records.{KeysAreTold}
use Rattle.kt_content.specs.InMemory.{Name, mem_rows, rowset, Stores, stands_for, group, hist_of_name, joined_name, Mirrors}
use Rattle.kt_content.specs.Recovering.{low_after, Lends}
use Rattle.kt_content.specs.RunEvents.{Named, NamesAreTrue, AllBelow, Numbers, NumbersAreFresh, RowsBelow, RowsetsBelow, DeltasAbove}
use Rattle.kt_content.specs.Successors.{Succeeds}
use Rattle.kt_content.specs.Lending.{GoesOver, GoesOn, KeyOver, MayBeLent, NotEarly, RowsRestNot}
use Rattle.kt_content.specs.Recoverable.{Resident, named_at, names_of, KeyStands, SuperStands, KeptFiles, IsRecoverable}

-- a fresh tablet: its MemRowSet has nothing
abbrev pub fresh_tablet : Resident
fresh_tablet = record { last = 0; named = []; stores = λ q. (mem_rows 1, never) ∷ []; names = mem_rows 1 ∷ []; numbers = record { next = 1; active = 1; deltas = [] } }

abbrev pub a_fresh_tablet_stands : Type 0
a_fresh_tablet_stands = (rules : Rules) (fill : Row) → SuperStands rules fill fresh [] [] empty fresh_tablet

-- a tablet that is opened: each store of the opening has a store in memory, the MemRowSet under a number that is fresh
abbrev pub opened_name : ℕ → Place → Name
opened_name active memory = mem_rows active
opened_name active (disk r) = rowset r

abbrev pub opened_stores : ℕ → Held → Stores
opened_stores active held = map (λ h. (opened_name active h.0, h.1)) held

abbrev pub EachStands : Super → ℕ → Held → Type 0
EachStands super active [] = Unit {0}
EachStands super active (h ∷ held) = (stands_for super (opened_name active h.0) ≡ Some h.0) × EachStands super active held

abbrev pub opened_stores_mirror : Type 0
opened_stores_mirror = (a : ℕ) (super : Super) (active : ℕ) (held : Held) → PlacesDiffer held → EachStands super active held
    → Mirrors a super (opened_stores active held) held

-- Of a key: each operation has its COMMIT, or the last one alone has none. That one lies above the mark, and is applied: its COMMIT, which is owed, is going to say
-- which stores took it.
pub data IsOwed (fill : Row) (super : Super) (live : Resident) (q : List ℕ) (held : Held) (logged : List KeyOp) : Type 0 where
  not_owed : AreTold logged → IsOwed fill super live q held logged
  owed : (front : List KeyOp) (ts : ℕ) (op : RowOp) (targets : List Target) → logged ≡ front ++ untold ts op ∷ [] → AreTold front → super.a < ts
      → ts ≤ live.last
      → names_of live.named q ts ≡ Some targets → TellsPlace fill super held ts op targets → IsOwed fill super live q held logged

abbrev pub an_opened_tablet_stands : Type 0
an_opened_tablet_stands = (rules : Rules) (fill : Row) (super : Super) (records : List Entry) (past : Past) (live : Resident)
    → IsLog records → (is : IsContent rules fill super records live.last past)
    → ((q : List ℕ) → Mirrors super.a super (live.stores q) ((is.keys q).held)) → ((q : List ℕ) → IsOwed fill super live q ((is.keys q).held) (seen q records records))
    → AllBelow live.last live.named → NamesAreTrue fill super records live.named → NumbersAreFresh super records live.names live.numbers
    → SuperStands rules fill super records [] past live

-- a write begins: its REPLICATE is queued, and none of its rows is applied
abbrev pub begun : ℕ → Resident → Resident
begun ts live = record live { last = ts; named = record { ts = ts; ops = []; rows = [] } ∷ live.named }

abbrev pub a_begin_keeps_a_superblock : Type 0
a_begin_keeps_a_superblock = (rules : Rules) (fill : Row) (super : Super) (durable run : List Entry) (past : Past) (live : Resident) (ts : ℕ) (ops : List RowOp)
    → IsLog (durable ++ (run ++ Replicate ts ops ∷ [])) → SuperStands rules fill super durable run past live → live.last < ts → DifferentKeys ops
    → KeysAreTold ops (durable ++ run) → OpsPass rules fill ops
    → SuperStands rules fill super durable (run ++ Replicate ts ops ∷ []) past (begun ts live)

-- a scan takes a timestamp
abbrev pub looked : ℕ → Resident → Resident
looked ts live = record live { last = ts }

abbrev pub a_look_keeps_a_superblock : Type 0
a_look_keeps_a_superblock = (rules : Rules) (fill : Row) (super : Super) (durable run : List Entry) (past : Past) (live : Resident) (ts : ℕ)
    → SuperStands rules fill super durable run past live → live.last ≤ ts → SuperStands rules fill super durable run past (looked ts live)

-- a row of a flying write is applied: its COMMIT is going to say this of it
abbrev pub row_more : RowOp → CommitRow → Named → Named
row_more op row n = record n { ops = n.ops ++ op ∷ []; rows = n.rows ++ row ∷ [] }

abbrev pub with_row : ℕ → RowOp → CommitRow → List Named → List Named
with_row ts op row [] = []
with_row ts op row (n ∷ named) = (if n.ts == ts then row_more op row n else n) ∷ with_row ts op row named

abbrev pub row_applied : ℕ → RowOp → CommitRow → (List ℕ → Stores) → Resident → Resident
row_applied ts op row stores live = record live { named = with_row ts op row live.named; stores = stores }

-- the operation is the last of its key in the log, its write flies, and it is not applied yet
pub record IsNext (records : List Entry) (live : Resident) (ts : ℕ) (op : RowOp) : Type 0 where
  pub front : List KeyOp
  pub last : seen op.key records records ≡ front ++ untold ts op ∷ []
  pub flying : Named
  pub flies : named_at ts live.named ≡ Some flying
  pub unnamed : names_of live.named op.key ts ≡ None

-- The store that takes its change stands for a place under this superblock, and has the key live, or is a MemRowSet where the key is live nowhere. The
-- names make just that place needed.
pub record TakesRow (fill : Row) (super : Super) (live : Resident) (ts : ℕ) (op : RowOp) (row : CommitRow) (whole : Hist) (stores : List ℕ → Stores) : Type 0 where
  pub n : Name
  pub h : Hist
  pub p : Place
  pub c : Change
  pub stands : stands_for super n ≡ Some p
  pub is : hist_of_name n (live.stores op.key) ≡ Some h
  pub one : AtMostOne (map (row_of (ts - 1)) (group super p (live.stores op.key)))
  pub live_there : (is_some (row_before ts h) ≡ true) ⊎ ((row_before ts whole ≡ None) × (p ≡ memory))
  pub made : (effect fill op.kind op.cells (row_before ts whole)).0 ≡ Some c
  pub needs : needed_in super row.targets ≡ p ∷ []
  pub taken : stores op.key ≡ joined_name n ts c (live.stores op.key)
  pub others : (q : List ℕ) → eq_by_cmp key_cmp q op.key ≡ false → stores q ≡ live.stores q

abbrev pub an_applied_row_keeps_a_superblock : Type 0
an_applied_row_keeps_a_superblock = (rules : Rules) (fill : Row) (super : Super) (durable run : List Entry) (past : Past) (live : Resident) (ts : ℕ) (op : RowOp)
    (row : CommitRow) (stores : List ℕ → Stores)
    → IsLog (durable ++ run) → SuperStands rules fill super durable run past live → IsNext (durable ++ run) live ts op
    → TakesRow fill super live ts op row (past_hist op.key (raise (with_records fill past run) super.a)) stores
    → SuperStands rules fill super durable run past (row_applied ts op row stores live)

-- one that makes no change names no store that is needed
abbrev pub a_row_without_a_change_keeps_a_superblock : Type 0
a_row_without_a_change_keeps_a_superblock = (rules : Rules) (fill : Row) (super : Super) (durable run : List Entry) (past : Past) (live : Resident) (ts : ℕ)
    (op : RowOp) (row : CommitRow)
    → IsLog (durable ++ run) → SuperStands rules fill super durable run past live → IsNext (durable ++ run) live ts op
    → (effect fill op.kind op.cells (row_before ts (past_hist op.key (raise (with_records fill past run) super.a)))).0 ≡ None → needed_in super row.targets ≡ []
    → SuperStands rules fill super durable run past (row_applied ts op row live.stores live)

-- a write ends: its COMMIT, which says of each row what is known, is queued
abbrev pub without : ℕ → List Named → List Named
without ts named = filter (λ n. not (n.ts == ts)) named

abbrev pub ended : ℕ → Resident → Resident
ended ts live = record live { named = without ts live.named }

abbrev pub an_end_keeps_a_superblock : Type 0
an_end_keeps_a_superblock = (rules : Rules) (fill : Row) (super : Super) (durable run : List Entry) (past : Past) (live : Resident) (ts : ℕ) (flying : Named)
    → IsLog (durable ++ (run ++ Commit ts flying.rows ∷ [])) → SuperStands rules fill super durable run past live → named_at ts live.named ≡ Some flying
    → ops_of ts (durable ++ run) ≡ Some flying.ops → RowsBelow live.numbers flying.rows
    → SuperStands rules fill super durable (run ++ Commit ts flying.rows ∷ []) past (ended ts live)

-- records that were out are durable
abbrev pub durable_records_keep_a_superblock : Type 0
durable_records_keep_a_superblock = (rules : Rules) (fill : Row) (super : Super) (durable out queued : List Entry) (past : Past) (live : Resident)
    → IsLog (durable ++ (out ++ queued)) → SuperStands rules fill super durable (out ++ queued) past live
    → SuperStands rules fill super (durable ++ out) queued (with_records fill past out) live

-- the stores are others, and so are names and numbers
abbrev pub with_stores : (List ℕ → Stores) → List Name → Numbers → Resident → Resident
with_stores stores names numbers live = record live { stores = stores; names = names; numbers = numbers }

-- stores that show the same at each place, from the mark on from which the key is right: as a rowset with the new files of a delta job
pub record ShowTheSame (a : ℕ) (xs ys : List Hist) : Type 0 where
  pub rows : (t : ℕ) → a ≤ t → first_some (map (row_of t) xs) ≡ first_some (map (row_of t) ys)
  pub steps : (t : ℕ) → a < t → first_some (map (step_of t) xs) ≡ first_some (map (step_of t) ys)

abbrev pub alike_stores_keep_a_superblock : Type 0
alike_stores_keep_a_superblock = (rules : Rules) (fill : Row) (super : Super) (durable run : List Entry) (past : Past) (live : Resident) (stores : List ℕ → Stores)
    (names : List Name) (numbers : Numbers)
    → (s : SuperStands rules fill super durable run past live)
    → ((q : List ℕ) (p : Place) → ShowTheSame ((s.keys q).mark) (group super p (stores q)) (group super p (live.stores q)))
    → NumbersAreFresh super (durable ++ run) names numbers
    → SuperStands rules fill super durable run past (with_stores stores names numbers live)

-- stores that stand for no place under this superblock come, change and go: outputs, inputs of a job that is published, the other side of a row that goes
-- to two stores
abbrev pub other_stores_keep_a_superblock : Type 0
other_stores_keep_a_superblock = (rules : Rules) (fill : Row) (super : Super) (durable run : List Entry) (past : Past) (live : Resident) (stores : List ℕ → Stores)
    (names : List Name) (numbers : Numbers)
    → SuperStands rules fill super durable run past live → ((q : List ℕ) (p : Place) → group super p (stores q) ≡ group super p (live.stores q))
    → NumbersAreFresh super (durable ++ run) names numbers
    → SuperStands rules fill super durable run past (with_stores stores names numbers live)

abbrev pub a_store_that_stands_for_none_is_in_no_group : Type 0
a_store_that_stands_for_none_is_in_no_group = (super : Super) (p : Place) (n : Name) → stands_for super n ≡ None
    → ((ts : ℕ) (c : Change) (stores : Stores) → group super p (joined_name n ts c stores) ≡ group super p stores)
    × ((h : Hist) (xs ys : Stores) → group super p (xs ++ (n, h) ∷ ys) ≡ group super p (xs ++ ys))

-- a store comes that has nothing, as the MemRowSet that takes writes after a freeze
pub record Comes (n : Name) (was now : Stores) : Type 0 where
  pub front : Stores
  pub behind : Stores
  pub before : was ≡ front ++ behind
  pub after : now ≡ front ++ (n, never) ∷ behind

abbrev pub a_freeze_keeps_a_superblock : Type 0
a_freeze_keeps_a_superblock = (rules : Rules) (fill : Row) (super : Super) (durable run : List Entry) (past : Past) (live : Resident) (stores : List ℕ → Stores)
    (names : List Name) (numbers : Numbers) (n : Name)
    → SuperStands rules fill super durable run past live → ((q : List ℕ) → Comes n (live.stores q) (stores q))
    → NumbersAreFresh super (durable ++ run) names numbers
    → SuperStands rules fill super durable run past (with_stores stores names numbers live)

-- numbers: a MemRowSet freezes, and the next one takes writes
abbrev pub a_frozen_memrowset_keeps_numbers_fresh : Type 0
a_frozen_memrowset_keeps_numbers_fresh = (super : Super) (records : List Entry) (names : List Name) (numbers : Numbers) → NumbersAreFresh super records names numbers
    → NumbersAreFresh super records (mem_rows (suc numbers.active) ∷ names) (record numbers { active = suc numbers.active })

-- a rowset's DeltaMemStore freezes, and its next one takes writes
abbrev pub next_delta : ℕ → List (ℕ × ℕ) → List (ℕ × ℕ)
next_delta r [] = []
next_delta r (d ∷ deltas) = (if d.0 == r then (d.0, suc d.1) else d) ∷ next_delta r deltas

abbrev pub a_frozen_deltamemstore_keeps_numbers_fresh : Type 0
a_frozen_deltamemstore_keeps_numbers_fresh = (super : Super) (records : List Entry) (names : List Name) (numbers : Numbers) (r : ℕ)
    → NumbersAreFresh super records names numbers → NumbersAreFresh super records names (record numbers { deltas = next_delta r numbers.deltas })

-- the outputs of a job take rowset numbers from the next one on, each with its DeltaMemStore
abbrev pub AreFrom : ℕ → ℕ → List (ℕ × ℕ) → Type 0
AreFrom low high [] = Unit {0}
AreFrom low high (d ∷ outs) = (low ≤ d.0) × (d.0 < high) × AreFrom low high outs

abbrev pub rowset_names : List (ℕ × ℕ) → List Name
rowset_names outs = map (λ d. rowset d.0) outs

abbrev pub outputs_keep_numbers_fresh : Type 0
outputs_keep_numbers_fresh = (super : Super) (records : List Entry) (names : List Name) (numbers : Numbers) (next : ℕ) (outs : List (ℕ × ℕ))
    → NumbersAreFresh super records names numbers → numbers.next ≤ next → AreFrom numbers.next next outs
    → NumbersAreFresh super records (rowset_names outs ++ names) (record numbers { next = next; deltas = outs ++ numbers.deltas })

-- stores go, and with them their DeltaMemStores
abbrev pub stores_that_go_keep_numbers_fresh : Type 0
stores_that_go_keep_numbers_fresh = (super : Super) (records : List Entry) (names : List Name) (numbers : Numbers) (stay : Name → Bool) (take : ℕ × ℕ → Bool)
    → NumbersAreFresh super records names numbers → NumbersAreFresh super records (filter stay names) (record numbers { deltas = filter take numbers.deltas })

-- The superblock that a job would publish: its own rowsets have numbers that were given, and their DeltaMemStores that are durable lie below those that
-- take changes; and a flush froze the MemRowSets that it has.
abbrev pub gone_rowsets : (Place → Bool) → List DiskRowset → List DiskRowset
gone_rowsets keep rowsets = filter (λ d. not (keep (disk d.rowset))) rowsets

abbrev pub gone_deltas : (Place → Bool) → List (ℕ × ℕ) → List (ℕ × ℕ)
gone_deltas keep deltas = filter (λ d. not (keep (disk d.0))) deltas

abbrev pub a_job_keeps_numbers_fresh : Type 0
a_job_keeps_numbers_fresh = (keep : Place → Bool) (old new : Super) (records : List Entry) (names : List Name) (numbers : Numbers)
    → NumbersAreFresh old records names numbers → Succeeds keep old new → RowsetsBelow numbers (gone_rowsets keep new.rowsets)
    → DeltasAbove new.rowsets (gone_deltas keep numbers.deltas) → (keep memory ≡ false → new.last_mem < numbers.active)
    → NumbersAreFresh new records names numbers

-- A job's own of a key, beside what stands of it: a mark from which it is right under the new superblock too, what its stores make of it, and that the
-- names of an applied row of a flying write go on to be true.
pub record JobOver (fill : Row) (keep : Place → Bool) (old new : Super) (live : Resident) (records : List Entry) (q : List ℕ) (whole : Hist) (k : KeyStands fill old live records q whole) : Type 0 where
  pub b : ℕ
  pub low : ℕ
  pub rise : k.mark ≤ b
  pub mark : b ≤ new.a
  pub job : low ≤ b
  pub over : (ms : List Moves) → Agree fill old k.held k.known ms → GoesOver fill keep old new low (live.stores q) q k.known ms
  pub above : (held : Held) → AboveFiles fill q new held k.known
  pub on : (front : List KeyOp) (ts : ℕ) (op : RowOp) (targets : List Target) → k.known ≡ front ++ told ts op targets ∷ [] → names_of live.named q ts ≡ Some targets
      → GoesOn keep old new (live.stores q) k.shows ts targets

-- each operation without a COMMIT, which flies, lies above a mark
abbrev pub FliesAbove : ℕ → List Entry → List ℕ → Type 0
FliesAbove mark records q = (front : List KeyOp) (ts : ℕ) (op : RowOp) → seen q records records ≡ front ++ untold ts op ∷ [] → mark < ts

-- the same in the words of the law on a job that may be lent
pub record IsOver (fill : Row) (keep : Place → Bool) (old new : Super) (live : Resident) (records : List Entry) (q : List ℕ) (whole : Hist) (k : KeyStands fill old live records q whole)
    (o : KeyOver fill keep old new (live.stores q) records q whole) : Type 0 where
  pub a : o.a ≡ k.mark
  pub known : o.known ≡ k.known
  pub held : o.held ≡ k.held
  pub shows : o.shows ≡ k.shows

abbrev pub what_stands_goes_over : Type 0
what_stands_goes_over = (fill : Row) (keep : Place → Bool) (old new : Super) (live : Resident) (records : List Entry) (q : List ℕ) (whole : Hist) → old.a ≤ new.a
    → (k : KeyStands fill old live records q whole) → JobOver fill keep old new live records q whole k → FliesAbove new.a records q
    → (o : KeyOver fill keep old new (live.stores q) records q whole) × IsOver fill keep old new live records q whole k o

-- the outputs rest on the COMMIT of no flying write
module _ (rules : Rules) (fill : Row) (keep : Place → Bool) (old new : Super) (stores : List ℕ → Stores) (records : List Entry) (past : Past) (m : MayBeLent rules fill keep old new stores records past) where
  abbrev pub NamesRestNot : List Named → Type 0
  NamesRestNot [] = Unit {0}
  NamesRestNot (n ∷ named) = RowsRestNot rules fill keep old new stores records past m n.ts n.ops n.rows × NamesRestNot named

-- a superblock is lent for publishing
abbrev pub a_lent_superblock_stands : Type 0
a_lent_superblock_stands = (rules : Rules) (fill : Row) (keep : Place → Bool) (old new : Super) (durable run : List Entry) (high j : ℕ) (past : Past) (live : Resident)
    → IsLog (durable ++ run) → (s : SuperStands rules fill old durable run past live)
    → (m : MayBeLent rules fill keep old new live.stores (durable ++ run) (with_records fill past run))
    → ((q : List ℕ) → IsOver fill keep old new live (durable ++ run) q (past_hist q (raise (with_records fill past run) old.a)) (s.keys q) (m.keys q))
    → Lends old new durable high j past → low_after high run ≤ live.last
    → NotEarly rules fill keep old new live.stores (durable ++ run) (with_records fill past run) m high durable run
    → NamesRestNot rules fill keep old new live.stores (durable ++ run) (with_records fill past run) m live.named
    → ((q : List ℕ) → FliesAbove new.a (durable ++ run) q) → NumbersAreFresh new (durable ++ run) live.names live.numbers
    → SuperStands rules fill new durable run past live

abbrev pub IsAmong : ℕ × List ℕ → KeptFiles → Type 0
IsAmong f [] = ⊥
IsAmong f (x ∷ files) = (f ≡ x) ⊎ IsAmong f files

-- so there are two; the files that it names are those of the published one and those that the job has kept
abbrev pub AllAmong : KeptFiles → KeptFiles → KeptFiles → Type 0
AllAmong xs ys [] = Unit {0}
AllAmong xs ys (f ∷ files) = (IsAmong f xs ⊎ IsAmong f ys) × AllAmong xs ys files

abbrev pub a_lent_superblock_is_recoverable : Type 0
a_lent_superblock_is_recoverable = (rules : Rules) (fill : Row) (published lent : Super) (durable run : List Entry) (past : Past) (live : Resident) (images : List Files)
    (files lent_files job_files : KeptFiles)
    → IsRecoverable rules fill published None durable run past live images files [] job_files → SuperStands rules fill lent durable run past live
    → AllAmong files job_files lent_files
    → IsRecoverable rules fill published (Some lent) durable run past live images files lent_files job_files

-- an image that keeps files has them
abbrev pub KeepsFiles : Files → Files → KeptFiles → Type 0
KeepsFiles was now [] = Unit {0}
KeepsFiles was now (f ∷ files) = (now f.0 ≡ was f.0) × KeepsFiles was now files

abbrev pub IsImage : Files → List Files → Type 0
IsImage image [] = ⊥
IsImage image (x ∷ images) = (image ≡ x) ⊎ IsImage image images

abbrev pub EachKeeps : List Files → List Files → KeptFiles → Type 0
EachKeeps images [] files = Unit {0}
EachKeeps images (now ∷ later) files = (was : Files) × IsImage was images × KeepsFiles was now files × EachKeeps images later files

-- The device comes home. The lent superblock is published, or it is forgotten; the files of that one and of the job stand in each image that may be left now.
abbrev pub a_superblock_that_comes_home_is_recoverable : Type 0
a_superblock_that_comes_home_is_recoverable = (rules : Rules) (fill : Row) (published lent : Super) (durable run : List Entry) (past : Past) (live : Resident)
    (images later : List Files) (files lent_files job_files : KeptFiles)
    → IsRecoverable rules fill published (Some lent) durable run past live images files lent_files job_files → EachKeeps images later job_files
    → (EachKeeps images later lent_files → IsRecoverable rules fill lent None durable run past live later lent_files [] job_files)
    × (EachKeeps images later files → IsRecoverable rules fill published None durable run past live later files [] job_files)

-- an event that keeps what stands under each of the superblocks keeps the whole
abbrev pub IsOneOf : Super → Super → Option Super → Type 0
IsOneOf super published lent = (super ≡ published) ⊎ (lent ≡ Some super)

abbrev pub what_keeps_each_superblock_keeps_all : Type 0
what_keeps_each_superblock_keeps_all = (rules : Rules) (fill : Row) (published : Super) (lent : Option Super) (durable run durable_then run_then : List Entry)
    (past past_then : Past) (live live_then : Resident) (images : List Files) (files lent_files job_files : KeptFiles)
    → ((super : Super) → IsOneOf super published lent → SuperStands rules fill super durable run past live → SuperStands rules fill super durable_then run_then past_then live_then)
    → IsRecoverable rules fill published lent durable run past live images files lent_files job_files
    → IsRecoverable rules fill published lent durable_then run_then past_then live_then images files lent_files job_files
