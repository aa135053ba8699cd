-- A visit of a pass to an engine: what the lock asks of the value that is put back.
use Rattle.std.specs.Prelude.{◌≡◌, ◌==◌, ℕ, Bool, List, Option, Some, None, if◌then◌else◌}
use Rattle.kt_history.specs.declared.event.Event.{Event}
use Rattle.kt_history.specs.declared.event.Event.TheVariants as event
use Rattle.kt_history.specs.declared.target.Target.{Target}
use Rattle.kt_records.specs.declared.entry.Entry.{Entry}
use Rattle.kt_seatlock.specs.Trails.{Adds, KeepsParts}
use Rattle.kt_history.specs.Machine.{Workload}
use Rattle.kt_journal.specs.Open.{JournalView}
use Rattle.kt_history.specs.Stores.{Store}
use Rattle.kt_histlaws.specs.Parts.{SessionPart, part}
use Rattle.kt_content.specs.Places.{Super}
use Rattle.kt_tablet.specs.Views.{place_at}
use Rattle.kt_storeside.specs.Sides.{StoreView, Beginning}
use Rattle.kt_schema.specs.declared.column.Column.{Column}
use Rattle.kt_engine.specs.Engines.{EngineView}
use Rattle.kt_engine.specs.Sessions.{runs}
use Rattle.kt_engine.specs.Jobs.{UpkeepView, upkeep_at}

-- the session of a line, if it has one
abbrev pub session_of : Event → Option ℕ
session_of (event.Begin s i ts m) = Some s
session_of (event.End s i ts) = Some s
session_of (event.Look s i t m) = Some s
session_of (event.Rows s i t) = Some s
session_of (event.Ancient s i t a) = Some s
session_of (event.Busy s i t f) = Some s
session_of (event.Mark s i a) = Some s
session_of (event.Chore s i) = Some s
session_of (event.Large s i n) = Some s
session_of event.Stop = None

-- the records that a pass has out, if it has the log
abbrev pub out_of : Option ℕ → List Entry → ℕ → Option (List Entry)
out_of None out n = None
out_of (Some by) out n = if by == n then Some out else None

-- What an engine has of one pass: its flying write and where its session stands, the place of that write's REPLICATE, the records
-- that it has out, whether its session runs, and what it has of maintenance.
pub record PassPart : Type 0 where
  pub session : SessionPart
  pub place : Option ℕ
  pub out : Option (List Entry)
  pub runs : Bool
  pub upkeep : UpkeepView

abbrev pub part_of : {L D C : Type 0} → EngineView L D C → ℕ → PassPart
part_of view n = record { session = part view.tablet.core n; place = place_at n view.tablet.places; out = out_of view.log.holder view.log.out n; runs = runs n view.running; upkeep = upkeep_at n view.upkeep.passes }

-- What is alike in every part and never changes while passes visit: what is to be run, what opening found, the names of its stores then and the first rowset and file numbers, the columns of each superblock, and both devices as opening left them.
pub record Root (L D C : Type 0) : Type 0 where
  pub work : Workload
  pub opened : ℕ
  pub opening : List Store
  pub mark : ℕ
  pub records : List Entry
  pub super : Super
  pub began : C
  pub device : L
  pub store : D
  pub columns : List Column
  pub found : List Target
  pub first_rowset : ℕ
  pub first_file : ℕ
  pub first_log : L
  pub first_store : Beginning D

abbrev pub root_of : {L D C : Type 0} → EngineView L D C → Root L D C
root_of view = record {
  work = view.tablet.core.work;
  opened = view.tablet.core.opened;
  opening = view.tablet.opening;
  mark = view.tablet.mark;
  records = view.records;
  super = view.super;
  began = view.tablet.opened;
  device = view.device;
  store = view.store_device;
  columns = view.store.meta.schema;
  found = view.found;
  first_rowset = view.first_rowset;
  first_file = view.first_file;
  first_log = view.log.first;
  first_store = view.store.first;
}

-- the log or the store as it went out, if this pass has it
abbrev pub lent_of : {J : Type 0} → Option ℕ → J → ℕ → Option J
lent_of None known n = None
lent_of (Some by) known n = if by == n then Some known else None

-- What the lock knows of one pass: what the engine has of it, the log and the store as they went out to it, and what is alike in every part.
pub record PartView (L D C : Type 0) : Type 0 where
  pub pass : PassPart
  pub lent : Option (JournalView L)
  pub turn : Option (StoreView D)
  pub root : Root L D C

abbrev pub part_in : {L D C : Type 0} → EngineView L D C → ℕ → PartView L D C
part_in view n = record { pass = part_of view n; lent = lent_of view.log.holder view.log.known n; turn = lent_of view.store.holder view.store n; root = root_of view }

-- It adds one line at most, of its own session or of none, and changes no other pass's part.
pub record IsVisit {L D C : Type 0} (n : ℕ) (old new : EngineView L D C) : Type 0 where
  pub line : Adds session_of n old.tablet.core.trail new.tablet.core.trail
  pub parts : KeepsParts part_in n old new

-- a step of a visit without a line, and one behind it
abbrev pub StepsAreOne : (L D C : Type 0) → Type 0
StepsAreOne L D C = (n : ℕ) (a b c : EngineView L D C) → IsVisit n a b → b.tablet.core.trail ≡ a.tablet.core.trail → IsVisit n b c → IsVisit n a c
