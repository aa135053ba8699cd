-- A job between its missed changes and its publishing: what its stores in memory and the names of COMMITs tell of one key.
use Rattle.std.specs.Prelude.{◌-◌, ◌≡◌, ◌<◌, ◌≤◌, ◌⊎◌, ℕ, Bool, true, false, List, [], ◌∷◌, ◌++◌, map, Some, None, Ok}
use Rattle.kt_history.specs.declared.operation.RowOp.{RowOp}
use Rattle.kt_history.specs.History.{Past, raise}
use Rattle.kt_histlaws.specs.Histories.{first_some, AtMostOne, past_hist}
use Rattle.kt_history.specs.Stores.{row_of, Under, Hist}
use Rattle.kt_records.specs.declared.entry.Entry.{Entry}
use Rattle.kt_journal.specs.Log.{IsLog}
use Rattle.kt_loglaws.specs.Fronts.{ops_of, with_records}
use Rattle.kt_records.specs.declared.entry.Entry.TheVariants.{Replicate, Commit}
use Rattle.kt_records.specs.declared.entry.CommitRow.{CommitRow}
use Rattle.kt_history.specs.Operations.{effect}
use Rattle.kt_history.specs.declared.change.Change.{Change}
use Rattle.kt_history.specs.declared.target.Target.{Target}
use Rattle.kt_history.specs.Rows.{Row}
use Rattle.kt_histlaws.specs.Fitting.{AreSound}
use Rattle.kt_histlaws.specs.Jobs.{AreAlike, push_all}
use Rattle.kt_content.specs.Places.{Super, Place, memory, disk, Held, Moves, held_in, at_first, standing, row_there, live_in, row_before, needed_in, AboveRedos, places_of}
use Rattle.kt_content.specs.KeyOps.{KeyOp, seen, may_join, decided, played}
use Rattle.kt_content.specs.Content.{Shown, NumbersDiffer, HoldsKey, SameFrom, AboveFiles}
use Rattle.kt_content.specs.Agreement.{OpsRise, Agree, all_moved}
use Rattle.kt_content.specs.MoreOps.{PlacesDiffer, untold, told, with_op, TellsPlace}
use Rattle.kt_content.specs.Publishing.{kept, gone, AllKept, AllGone}
use Rattle.kt_content.specs.InMemory.{Stores, group, groups, hist_at, HasPlace, Mirrors}
use Rattle.kt_content.specs.StoreChanges.{steps_to}
use Rattle.kt_content.specs.Recovering.{IsRecovered, Lends}
use Rattle.kt_content.specs.Successors.{Succeeds}
use Rattle.kt_content.specs.Rules.{Rules, RowsetsPass}

-- What the names of an operation tell of the job: the moves that it makes under the old superblock and under the new one. The places that the
-- job does not leave have these histories under the new one.
pub data Fate (fill : Row) (keep : Place → Bool) (old new : Super) (j : ℕ) (outs : Place → Hist) (x : KeyOp) (was now : Moves) : Type 0 where
  -- stores that the job leaves, or none
  apart : (targets : List Target) → x.told ≡ Some targets → AllKept keep (needed_in old targets) → needed_in new targets ≡ needed_in old targets → now ≡ was
      → Fate fill keep old new j outs x was now
  -- inputs alone: the outputs rest on this COMMIT
  covered : (targets : List Target) → x.told ≡ Some targets → AllGone keep (needed_in old targets) → needed_in new targets ≡ [] → now ≡ []
      → Fate fill keep old new j outs x was now
  -- an input and an output, above the mark, on a row that was there
  doubled : (targets : List Target) (p : Place) (c : Change) (row : Row) → x.told ≡ Some targets → AllGone keep (needed_in old targets)
      → needed_in new targets ≡ p ∷ [] → keep p ≡ false → j < x.ts
      → (effect fill x.op.kind x.op.cells (Some row)).0 ≡ Some c → now ≡ (p, c) ∷ [] → Fate fill keep old new j outs x was now
  -- a store that took writes since the job froze others: in a flush the MemRowSet, in a delta job the DeltaMemStore
  stays : (targets : List Target) (p : Place) (c : Change) → x.told ≡ Some targets → AllGone keep (needed_in old targets) → needed_in new targets ≡ p ∷ []
      → keep p ≡ false
      → may_join p (effect fill x.op.kind x.op.cells (row_before x.ts (outs p))).0 ≡ Some c → now ≡ (p, c) ∷ [] → Fate fill keep old new j outs x was now

abbrev pub AllFates : Row → (Place → Bool) → Super → Super → ℕ → (Place → Hist) → List KeyOp → List Moves → List Moves → Type 0
AllFates fill keep old new j outs [] [] [] = Unit {0}
AllFates fill keep old new j outs (x ∷ xs) (m ∷ ms) (n ∷ ns) = Fate fill keep old new j outs x m n × AllFates fill keep old new j outs xs ms ns
AllFates fill keep old new j outs _ _ _ = ⊥

-- these moves lie above the REDO files of the rowsets to which they go
abbrev pub MovesAbove : List ℕ → Super → List KeyOp → List Moves → Type 0
MovesAbove q super [] ns = Unit {0}
MovesAbove q super (x ∷ xs) [] = Unit {0}
MovesAbove q super (x ∷ xs) (n ∷ ns) = AboveRedos q super x.ts (places_of n) × MovesAbove q super xs ns

-- Of operations with these fates each change lies above the files under the new superblock, where it did so under the old one, and where what went to
-- an output too, or to a store that took writes since the job froze others, lies above the output's REDO files, the missed changes among them.
abbrev pub a_job_keeps_changes_above_the_files : Type 0
a_job_keeps_changes_above_the_files = (fill : Row) (keep : Place → Bool) (old new : Super) (j : ℕ) (outs : Place → Hist) (q : List ℕ) (held next : Held)
    (xs : List KeyOp) (ms ns : List Moves)
    → Succeeds keep old new → AllFates fill keep old new j outs xs ms ns → AboveFiles fill q old held xs → MovesAbove q new xs ns
    → AboveFiles fill q new next xs

-- what a place has under a superblock: its files, and behind that the changes that go to it
abbrev pub with_changes : List ℕ → Super → List KeyOp → List Moves → Place → Hist
with_changes q super xs ms p = push_all (steps_to p xs ms) (hist_at p (at_first q super))

-- The job's own of a key: these operations make these moves under the old superblock, and under the new one those of their fates. What the
-- places that the job does not leave have then is alike to the inputs in memory, and sound, from the job's mark on.
pub record GoesOver (fill : Row) (keep : Place → Bool) (old new : Super) (j : ℕ) (stores : Stores) (q : List ℕ) (xs : List KeyOp) (ms : List Moves) : Type 0 where
  pub moves : List Moves
  pub fates : AllFates fill keep old new j (with_changes q new xs moves) xs ms moves
  pub outs : (p : Place) → keep p ≡ false → HasPlace p (at_first q new) → AreAlike j (group new p stores) (with_changes q new xs moves p ∷ [])
  pub alike : AreAlike j (groups old stores (gone keep (at_first q old))) (held_in (gone keep (all_moved xs moves (at_first q new))))
  pub sound : AreSound j (held_in (gone keep (all_moved xs moves (at_first q new))))

-- The same of a job that duplicates, told by its stores in memory
pub record Duplicates (fill : Row) (keep : Place → Bool) (old new : Super) (j : ℕ) (stores : Stores) (q : List ℕ) (xs : List KeyOp) (ms : List Moves) : Type 0 where
  pub moves : List Moves
  pub fates : AllFates fill keep old new j (with_changes q new xs moves) xs ms moves
  -- an output has in memory what its files have, with the missed changes, and behind that what was duplicated; the MemRowSet that takes writes has these
  pub outs : (p : Place) → keep p ≡ false → HasPlace p (at_first q new) → group new p stores ≡ with_changes q new xs moves p ∷ []
  -- the outputs in memory are alike to the inputs in memory, and sound, from the job's mark on
  pub alike : AreAlike j (groups old stores (gone keep (at_first q old))) (groups new stores (gone keep (at_first q new)))
  pub sound : AreSound j (groups new stores (gone keep (at_first q new)))

abbrev pub a_job_that_duplicates_goes_over : Type 0
a_job_that_duplicates_goes_over = (fill : Row) (keep : Place → Bool) (old new : Super) (j : ℕ) (stores : Stores) (q : List ℕ) (xs : List KeyOp)
    (ms : List Moves)
    → PlacesDiffer (at_first q new)
    → Duplicates fill keep old new j stores q xs ms → GoesOver fill keep old new j stores q xs ms

-- what the new superblock holds of a key, beside what the old one held
pub record OverTo (fill : Row) (keep : Place → Bool) (new : Super) (b : ℕ) (stores : Stores) (q : List ℕ) (xs : List KeyOp) (held : Held) (whole : Hist) : Type 0 where
  pub next : Held
  pub is : played fill new (at_first q new) xs ≡ Ok next
  pub rest : kept keep next ≡ kept keep held
  pub shown : Shown b next whole
  pub mirrors : Mirrors b new stores next

-- With the job's own of a key, where the old superblock holds a history of it from a on and the stores in memory mirror that, the new one
-- holds the same history from b on, and the same stores mirror it too. The marks are those of the superblocks, or lower ones.
abbrev pub a_key_goes_over : Type 0
a_key_goes_over = (fill : Row) (keep : Place → Bool) (old new : Super) (a b j : ℕ) (stores : Stores) (q : List ℕ) (xs : List KeyOp) (held : Held) (whole : Hist)
    → OpsRise 0 xs → PlacesDiffer (at_first q old) → PlacesDiffer (at_first q new) → kept keep (at_first q new) ≡ kept keep (at_first q old)
    → played fill old (at_first q old) xs ≡ Ok held → Shown a held whole → Mirrors a old stores held
    → ((p : Place) → keep p ≡ true → group new p stores ≡ group old p stores)
    → ((ms : List Moves) → Agree fill old held xs ms → GoesOver fill keep old new j stores q xs ms) → a ≤ b → j ≤ b
    → OverTo fill keep new b stores q xs held whole

-- Names that make one store needed, where the operation fits, tell what became of it: one store at most has the key live just before, and where
-- this one has it not, none has.
abbrev pub a_needed_store_tells : Type 0
a_needed_store_tells = (fill : Row) (super : Super) (next : Held) (ts : ℕ) (op : RowOp) (targets : List Target) (p : Place) (ms : Moves)
    → decided fill super (standing ts next) op (Some targets) ≡ Some ms → needed_in super targets ≡ p ∷ [] → AtMostOne (map (row_before ts) (held_in next))
    → (row_there p (standing ts next) ≡ None → (p ≡ memory) × (live_in (standing ts next) ≡ None)) → TellsPlace fill super next ts op targets

-- Names of stores that a job leaves tell the same under both superblocks, where the others have the same row of the key just before
abbrev pub names_that_a_job_leaves_tell : Type 0
names_that_a_job_leaves_tell = (fill : Row) (keep : Place → Bool) (old new : Super) (held next : Held) (ts : ℕ) (op : RowOp) (targets : List Target)
    → PlacesDiffer held → AllKept keep (needed_in old targets) → needed_in new targets ≡ needed_in old targets → kept keep next ≡ kept keep held
    → first_some (map (row_before ts) (held_in next)) ≡ first_some (map (row_before ts) (held_in held)) → AtMostOne (map (row_before ts) (held_in next))
    → TellsPlace fill old held ts op targets → TellsPlace fill new next ts op targets

-- How names go on to be true: they are of stores that the job leaves, or make needed one that it does not. If that is the MemRowSet and it had the
-- key not live, the history that is shown had it nowhere. So the outputs do not rest on the COMMIT of an operation with these names.
abbrev pub GoesOn : (Place → Bool) → Super → Super → Stores → Hist → ℕ → List Target → Type 0
GoesOn keep old new stores shows ts targets = (AllKept keep (needed_in old targets) × (needed_in new targets ≡ needed_in old targets)) ⊎ ((p : Place) × (needed_in new targets ≡ p ∷ [])
    × (p ≡ memory → first_some (map (row_of (ts - 1)) (group new memory stores)) ≡ None → row_before ts shows ≡ None))

-- so do the names of an operation on a rowset that the job does not leave, whatever its fate but covered, and of one on a store that it leaves
abbrev pub a_fate_goes_on : Type 0
a_fate_goes_on = (keep : Place → Bool) (old new : Super) (stores : Stores) (shows : Hist) (ts r : ℕ) (targets : List Target)
    → needed_in new targets ≡ disk r ∷ [] → GoesOn keep old new stores shows ts targets

-- Names of an operation that is known are true under the new superblock too
abbrev pub a_name_stays_true : Type 0
a_name_stays_true = (fill : Row) (keep : Place → Bool) (old new : Super) (a b : ℕ) (stores : Stores) (q : List ℕ) (front behind : List KeyOp) (ts : ℕ)
    (op : RowOp) (targets : List Target) (held : Held) (shows : Hist)
    → OpsRise 0 (front ++ told ts op targets ∷ behind) → PlacesDiffer held → Shown a held shows
    → (o : OverTo fill keep new b stores q (front ++ told ts op targets ∷ behind) held shows) → a < ts → b < ts
    → TellsPlace fill old held ts op targets → GoesOn keep old new stores shows ts targets → TellsPlace fill new o.next ts op targets

-- What the log says of a key, and what the engine knows of it: the operations whose changes the stores in memory have, each with its names. The
-- last operation may fly: it is still to be applied, or applied, so that its names are known before its COMMIT. The stores show
-- shows, and the past has whole, which is told from the old superblock's mark on.
pub data Known (fill : Row) (keep : Place → Bool) (old new : Super) (a b : ℕ) (stores : Stores) (held : Held) (shows whole : Hist) (logged known : List KeyOp) : Type 0 where
  settled : logged ≡ known → SameFrom new.a shows whole → Known fill keep old new a b stores held shows whole logged known
  pending : (ts : ℕ) (op : RowOp) → logged ≡ known ++ untold ts op ∷ [] → b < ts → SameFrom new.a (with_op fill ts op shows) whole → Under ts shows.steps
      → Known fill keep old new a b stores held shows whole logged known
  taken : (front : List KeyOp) (ts : ℕ) (op : RowOp) (targets : List Target) → logged ≡ front ++ untold ts op ∷ [] → known ≡ front ++ told ts op targets ∷ []
      → b < ts → SameFrom new.a shows whole → TellsPlace fill old held ts op targets
      → GoesOn keep old new stores shows ts targets → Known fill keep old new a b stores held shows whole logged known

-- Of a key: what the engine knows of it, mirrored by the stores in memory, and the job's own. It is right from a on under the old superblock
-- and is to be from b on under the new one: from the mark on, or from below the first write on it whose COMMIT is not durable.
pub record KeyOver (fill : Row) (keep : Place → Bool) (old new : Super) (stores : Stores) (records : List Entry) (q : List ℕ) (whole : Hist) : Type 0 where
  pub a : ℕ
  pub b : ℕ
  pub low : ℕ
  pub rise : a ≤ b
  pub mark : b ≤ new.a
  pub job : low ≤ b
  pub known : List KeyOp
  pub held : Held
  pub shows : Hist
  pub is : played fill old (at_first q old) known ≡ Ok held
  pub shown : Shown a held shows
  pub mirrors : Mirrors a old stores held
  pub over : (ms : List Moves) → Agree fill old held known ms → GoesOver fill keep old new low stores q known ms
  pub above : (held : Held) → AboveFiles fill q new held known
  pub stands : Known fill keep old new a b stores held shows whole (seen q records records) known

-- and of the new superblock: it holds the key, and the stores in memory mirror what is known
pub record KeyLent (fill : Row) (keep : Place → Bool) (new : Super) (b : ℕ) (stores : Stores) (records : List Entry) (q : List ℕ) (whole : Hist) (known : List KeyOp) (held : Held) (shows : Hist) : Type 0 where
  pub holds : HoldsKey fill new records q whole
  pub over : OverTo fill keep new b stores q known held shows

abbrev pub a_key_may_be_lent : Type 0
a_key_may_be_lent = (fill : Row) (keep : Place → Bool) (old new : Super) (stores : Stores) (records : List Entry) (q : List ℕ) (whole : Hist)
    → IsLog records → NumbersDiffer old.rowsets → NumbersDiffer new.rowsets → kept keep (at_first q new) ≡ kept keep (at_first q old)
    → ((p : Place) → keep p ≡ true → group new p stores ≡ group old p stores)
    → (k : KeyOver fill keep old new stores records q whole) → KeyLent fill keep new k.b stores records q whole k.known k.held k.shows

-- A job past its missed changes: of each key its own, and the superblock that it would publish names the other stores as before
pub record MayBeLent (rules : Rules) (fill : Row) (keep : Place → Bool) (old new : Super) (stores : List ℕ → Stores) (records : List Entry) (past : Past) : Type 0 where
  pub numbers : NumbersDiffer new.rowsets
  pub files : RowsetsPass rules new.rowsets
  pub rest : (q : List ℕ) → kept keep (at_first q new) ≡ kept keep (at_first q old)
  pub others : (q : List ℕ) (p : Place) → keep p ≡ true → group new p (stores q) ≡ group old p (stores q)
  pub keys : (q : List ℕ) → KeyOver fill keep old new (stores q) records q (past_hist q (raise past old.a))

-- The outputs do not rest on the COMMIT of this operation: it is known with its names, it lies above the marks, and they go on to be true.
pub record RestsNot (keep : Place → Bool) (old new : Super) (a b : ℕ) (stores : Stores) (shows : Hist) (known : List KeyOp) (ts : ℕ) (op : RowOp) (targets : List Target) : Type 0 where
  pub front : List KeyOp
  pub behind : List KeyOp
  pub stands : known ≡ front ++ told ts op targets ∷ behind
  pub mark : a < ts
  pub later : b < ts
  pub on : GoesOn keep old new stores shows ts targets

module _ (rules : Rules) (fill : Row) (keep : Place → Bool) (old new : Super) (stores : List ℕ → Stores) (records : List Entry) (past : Past) (m : MayBeLent rules fill keep old new stores records past) where
  abbrev pub RowsRestNot : ℕ → List RowOp → List CommitRow → Type 0
  RowsRestNot ts [] [] = Unit {0}
  RowsRestNot ts [] (row ∷ rows) = ⊥
  RowsRestNot ts (op ∷ ops) [] = ⊥
  RowsRestNot ts (op ∷ ops) (row ∷ rows) =
      RestsNot keep old new ((m.keys op.key).a) ((m.keys op.key).b) (stores op.key) ((m.keys op.key).shows) ((m.keys op.key).known) ts op row.targets × RowsRestNot ts ops rows

  -- Early does not hold: the outputs rest on no COMMIT of these records, which are not durable and stand behind this log; and the writes among
  -- them are above low
  abbrev pub NotEarly : ℕ → List Entry → List Entry → Type 0
  NotEarly low log [] = Unit {0}
  NotEarly low log (Replicate ts ops ∷ run) = (low < ts) × NotEarly ts (log ++ Replicate ts ops ∷ []) run
  NotEarly low log (Commit ts rows ∷ run) = ((ops : List RowOp) × (ops_of ts log ≡ Some ops) × RowsRestNot ts ops rows) × NotEarly low (log ++ Commit ts rows ∷ []) run

-- Where Early does not hold, the superblock of a job may be lent: each front is recovered under it, and the stores in memory mirror it
abbrev pub a_job_may_be_lent : Type 0
a_job_may_be_lent = (rules : Rules) (fill : Row) (keep : Place → Bool) (old new : Super) (durable run : List Entry) (low high j : ℕ) (past : Past) (stores : List ℕ → Stores)
    → IsLog (durable ++ run) → IsRecovered rules fill old durable run low past
    → (m : MayBeLent rules fill keep old new stores (durable ++ run) (with_records fill past run)) → Lends old new durable high j past
    → NotEarly rules fill keep old new stores (durable ++ run) (with_records fill past run) m high durable run
    → IsRecovered rules fill new durable run high past
    × ((q : List ℕ) → KeyLent fill keep new ((m.keys q).b) (stores q) (durable ++ run) q (past_hist q (raise (with_records fill past run) old.a)) ((m.keys q).known) ((m.keys q).held) ((m.keys q).shows))
