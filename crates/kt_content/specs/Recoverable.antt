-- What of an engine can be recovered from its disks, in parts: under each superblock the fronts of its log, its stores in memory, the names of what
-- flies and its numbers; and that files stand.
use Rattle.std.specs.Prelude.{◌≡◌, ◌<◌, ◌≤◌, ℕ, ◌==◌, List, [], ◌∷◌, ◌++◌, Option, Some, None, Ok, if◌then◌else◌}
use Rattle.std.specs.Ordering.{eq_by_cmp}
use Rattle.kt_history.specs.declared.operation.RowOp.{RowOp}
use Rattle.kt_history.specs.declared.target.Target.{Target}
use Rattle.kt_history.specs.Rows.{Row, key_cmp}
use Rattle.kt_history.specs.History.{Past, raise}
use Rattle.kt_records.specs.declared.entry.Entry.{Entry}
use Rattle.kt_records.specs.declared.entry.CommitRow.{CommitRow}
use Rattle.kt_histlaws.specs.Histories.{past_hist}
use Rattle.kt_history.specs.Stores.{Hist, Under}
use Rattle.kt_histlaws.specs.Flights.{UpTo}
use Rattle.kt_disk.specs.Disk.{Files}
use Rattle.kt_loglaws.specs.Fronts.{with_records}
use Rattle.kt_content.specs.Rules.{Rules}
use Rattle.kt_content.specs.Places.{Super, Held, at_first}
use Rattle.kt_content.specs.KeyOps.{KeyOp, seen, played}
use Rattle.kt_content.specs.Content.{Shown, AreTold, SameFrom}
use Rattle.kt_content.specs.MoreOps.{untold, told, with_op, TellsPlace}
use Rattle.kt_content.specs.InMemory.{Name, Stores, Mirrors}
use Rattle.kt_content.specs.Recovering.{IsRecovered, low_after}
use Rattle.kt_content.specs.RunEvents.{Named, NamesAreTrue, Numbers, NumbersAreFresh, AllBelow}

-- What an engine has in memory beside its log: the last timestamp that it gave, the flying writes, what its stores have of each key, their names,
-- and the numbers of those that take changes
pub record Resident : Type 0 where
  pub last : ℕ
  pub named : List Named
  pub stores : List ℕ → Stores
  pub names : List Name
  pub numbers : Numbers

-- the flying write of a timestamp
abbrev pub named_at : ℕ → List Named → Option Named
named_at ts [] = None
named_at ts (n ∷ named) = if n.ts == ts then Some n else named_at ts named

-- the stores that its COMMIT is going to name of a key, where that row is applied
abbrev pub row_names : List ℕ → List RowOp → List CommitRow → Option (List Target)
row_names q [] rows = None
row_names q (op ∷ ops) [] = None
row_names q (op ∷ ops) (row ∷ rows) = if eq_by_cmp key_cmp q op.key then Some row.targets else row_names q ops rows

abbrev pub names_in : List ℕ → Option Named → Option (List Target)
names_in q None = None
names_in q (Some n) = row_names q n.ops n.rows

abbrev pub names_of : List Named → List ℕ → ℕ → Option (List Target)
names_of named q ts = names_in q (named_at ts named)

-- What the log says of a key, and what is known of it: the operations whose changes the stores in memory have, each with its names. The last one may
-- fly. It lies above the superblock's mark, and above the mark from which the key is right. The stores show shows, and the past has whole.
pub data Stage (fill : Row) (super : Super) (mark : ℕ) (live : Resident) (q : List ℕ) (held : Held) (shows whole : Hist) (logged known : List KeyOp) : Type 0 where
  -- none flies: the log says what is known
  rests : logged ≡ known → AreTold logged → SameFrom super.a shows whole → Stage fill super mark live q held shows whole logged known
  -- it is still to be applied
  waits : (ts : ℕ) (op : RowOp) → logged ≡ known ++ untold ts op ∷ [] → AreTold known → mark < ts → super.a < ts → ts ≤ live.last → names_of live.named q ts ≡ None
      → Under ts shows.steps → SameFrom super.a (with_op fill ts op shows) whole → Stage fill super mark live q held shows whole logged known
  -- it is applied, so that its names are known before its COMMIT
  applied : (front : List KeyOp) (ts : ℕ) (op : RowOp) (targets : List Target) → logged ≡ front ++ untold ts op ∷ [] → known ≡ front ++ told ts op targets ∷ []
      → AreTold front → mark < ts → super.a < ts → ts ≤ live.last → names_of live.named q ts ≡ Some targets → TellsPlace fill super held ts op targets
      → SameFrom super.a shows whole → Stage fill super mark live q held shows whole logged known

-- What is known of a key, mirrored by the stores in memory. It is right from a mark on: the superblock's, or one below it and below the first write on
-- the key whose COMMIT is not durable.
pub record KeyStands (fill : Row) (super : Super) (live : Resident) (records : List Entry) (q : List ℕ) (whole : Hist) : Type 0 where
  pub mark : ℕ
  pub low : mark ≤ super.a
  pub known : List KeyOp
  pub held : Held
  pub shows : Hist
  pub is : played fill super (at_first q super) known ≡ Ok held
  pub shown : Shown mark held shows
  pub mirrors : Mirrors mark super (live.stores q) held
  pub up : UpTo live.last shows.steps
  pub stage : Stage fill super mark live q held shows whole (seen q records records) known

-- The parts that speak of one superblock, the published one or one that is lent: each front of the log from the durable records on holds the past with
-- its writes; the stores in memory mirror what is known of each key; what is known of the flying writes is true; and numbers are fresh.
pub record SuperStands (rules : Rules) (fill : Row) (super : Super) (durable run : List Entry) (past : Past) (live : Resident) : Type 0 where
  pub low : ℕ
  pub recovered : IsRecovered rules fill super durable run low past
  pub up : low_after low run ≤ live.last
  pub below : AllBelow live.last live.named
  pub keys : (q : List ℕ) → KeyStands fill super live (durable ++ run) q (past_hist q (raise (with_records fill past run) super.a))
  pub names : NamesAreTrue fill super (durable ++ run) live.named
  pub numbers : NumbersAreFresh super (durable ++ run) live.names live.numbers

-- files by their numbers, and that each image which may be left has them: those that a superblock names, and those that a job which runs has kept
abbrev pub KeptFiles : Type 0
KeptFiles = List (ℕ × List ℕ)

abbrev pub HasFiles : Files → KeptFiles → Type 0
HasFiles image [] = Unit {0}
HasFiles image (f ∷ files) = (image f.0 ≡ Some f.1) × HasFiles image files

abbrev pub FilesStand : List Files → KeptFiles → Type 0
FilesStand [] files = Unit {0}
FilesStand (image ∷ images) files = HasFiles image files × FilesStand images files

-- the superblock that is lent for publishing, if one is
abbrev pub LentStands : Rules → Row → Option Super → List Entry → List Entry → Past → Resident → Type 0
LentStands rules fill None durable run past live = Unit {0}
LentStands rules fill (Some super) durable run past live = SuperStands rules fill super durable run past live

-- the whole
pub record IsRecoverable (rules : Rules) (fill : Row) (published : Super) (lent : Option Super) (durable run : List Entry) (past : Past) (live : Resident)
    (images : List Files) (files lent_files job_files : KeptFiles) : Type 0 where
  pub stands : SuperStands rules fill published durable run past live
  pub lent_stands : LentStands rules fill lent durable run past live
  pub files_stand : FilesStand images files
  pub lent_files_stand : FilesStand images lent_files
  pub job_files_stand : FilesStand images job_files
