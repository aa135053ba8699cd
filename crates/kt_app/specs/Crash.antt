-- A run over both devices, and what a crash leaves of them.
use Rattle.std.specs.Prelude.{◌≡◌, ◌⊎◌, ◌≤◌, ◌<◌, ℕ, Bool, false, List, [], length, Option, Some, None, Ok, Err}
use Rattle.kt_disk.specs.Disk.{Files}
use Rattle.kt_super.specs.declared.meta.Meta.{Meta}
use Rattle.kt_super.specs.Slots.{super_of}
use Rattle.kt_schema.specs.declared.column.Column.{Column}
use Rattle.kt_history.specs.declared.event.Event.{Event}
use Rattle.kt_history.specs.History.{Past, raise}
use Rattle.kt_history.specs.Machine.{Workload, IsRun, readings_of}
use Rattle.kt_history.specs.Replies.{past_after}
use Rattle.kt_journal.specs.Log.{log_of}
use Rattle.kt_loglaws.specs.Replay.{empty}
use Rattle.kt_loglaws.specs.Fronts.{upto}
use Rattle.kt_content.specs.Rules.{Rules, no_rules}
use Rattle.kt_reopen.specs.Both.{Found, Answers, read_both, last_most}
use Rattle.kt_reopen.specs.Holding.{HoldBoth}
use Rattle.kt_reopen.specs.Opened.{Shows}
use Rattle.kt_reopen.specs.declared.why.Why.{Why}
use Rattle.kt_reopen.specs.declared.why.Why.TheVariants.{B6}
use Rattle.kt_script.specs.Scripts.{Said, script_of, load_of, workload}
use Rattle.kt_engine.specs.Logged.{AcknowledgedBy}
use Rattle.kt_engine.specs.Stored.{IsMarkOf}
use Rattle.kt_app.specs.Headline.{IsPrinted, end_of}
use Rattle.kt_app.specs.Images.{Image, LeavesAsBefore, Both}
use Rattle.kt_app.specs.TableRules.{rules_of}

-- ---- what images hold

-- opening an image answers what shows this past, or that its last timestamp is too great for another run
pub record Reopens (columns : List Column) (image : Image) (last : ℕ) (past : Past) : Type 0 where
  pub shows : last < last_most → (f : Found) × Answers columns image.log image.store (Ok f) × Shows f last past
  pub late : last_most ≤ last → Answers columns image.log image.store (Err (B6 last))

-- By these rules of the table an image holds this past with this last timestamp, and opening it shows that past.
pub record HasContent (rules : Rules) (columns : List Column) (image : Image) (last : ℕ) (past : Past) : Type 0 where
  pub holds : HoldBoth rules columns image.log image.store last past
  pub reopens : Reopens columns image last past

-- An image holds the opening past with the run's writes up to a time, every acknowledged one among them, seen from the opening mark or from that of a
-- `mark` line. Its last timestamp is no earlier than that of the opening, and no later than the run's.
pub record HoldsPrefix (rules : Rules) (columns : List Column) (work : Workload) (past : Past) (c : ℕ) (events : List Event) (image : Image) : Type 0 where
  pub t : ℕ
  pub after_opening : c ≤ t
  pub acknowledged : AcknowledgedBy t events
  pub mark : ℕ
  pub marked : IsMarkOf past.mark events mark
  pub last : ℕ
  pub since : c ≤ last
  pub within : last ≤ (end_of work past c events).c
  pub holds : HasContent rules columns image last (raise (upto t (past_after work past c events)) mark)

-- It holds the opening past with all writes of the run, seen from the run's mark, and the run's last timestamp.
abbrev pub HoldsAll : Rules → List Column → Workload → Past → ℕ → List Event → Image → Type 0
HoldsAll rules columns work past c events image =
    HasContent rules columns image (end_of work past c events).c (raise (past_after work past c events) (end_of work past c events).a)

-- a store has a superblock with this mark, this last timestamp and so many disk rowsets
pub record HasSuper (a c rowsets : ℕ) (files : Files) : Type 0 where
  pub superblock : Meta
  pub is : super_of files ≡ Ok (Some superblock)
  pub mark : superblock.a ≡ a
  pub last : superblock.c ≡ c
  pub count : length superblock.rowsets ≡ rowsets

-- ---- runs from a past that is held by some rules

-- These lines are a run of the workload from a past, in which the clock gave what was read, and by each of the rules by which that past was held each
-- image after it holds the first of its writes, whatever was printed.
pub record KeptBy (gave : List ℕ → Type 0) (held : Rules → Type 0) (columns : List Column) (after : Image → Type 0) (work : Workload) (past : Past) (c : ℕ) (events : List Event) : Type 0 where
  pub run : IsRun work past c events
  pub clock : gave (readings_of events)
  pub crash : (rules : Rules) → held rules → (image : Image) → after image → HoldsPrefix rules columns work past c events image

-- The text is what is printed of that run, and where it was not stopped each image after it holds all its writes, and a superblock with its mark, its last
-- timestamp and so many rowsets: what the last line of an output text says.
pub record RanBy (gave : List ℕ → Type 0) (held : Rules → Type 0) (columns : List Column) (after : Image → Type 0) (work : Workload) (past : Past) (c : ℕ) (events : List Event) (load : Option ℕ) (stopped : Bool) (rowsets : ℕ) (text : List ℕ) : Type 0 where
  pub kept : KeptBy gave held columns after work past c events
  pub output : IsPrinted load work past c stopped rowsets text events
  pub whole : stopped ≡ false → (rules : Rules) → held rules → (image : Image) → after image → HoldsAll rules columns work past c events image
  pub superblock : stopped ≡ false → (image : Image) → after image → HasSuper (end_of work past c events).a (end_of work past c events).c rowsets image.store

-- ---- devices in which nothing was written

-- a log and a store in which there is nothing yet hold the empty past, by any rules of any table
abbrev pub fresh_devices_are_empty : Type 0
fresh_devices_are_empty = (rules : Rules) (columns : List Column) (log store : Files) → read_both (super_of store) (log_of log) ≡ Ok (None, []) → HoldBoth rules columns log store 0 empty

-- ---- runs over what was read at opening

-- by these rules of the table what was read at opening holds this past, of which c is the last timestamp
abbrev pub OpensWith : Rules → List Column → (Image → Type 0) → ℕ → Past → Type 0
OpensWith rules columns found c past = (image : Image) × found image × HoldBoth rules columns image.log image.store c past

-- These lines are a run of the workload from a past, in which the clock gave what was read, and each image after it holds the first of its writes,
-- whatever was printed. So it does by the rules of the table, where what was read holds that past by them.
pub record Kept (gave : List ℕ → Type 0) (columns : List Column) (found after : Image → Type 0) (work : Workload) (past : Past) (c : ℕ) (events : List Event) : Type 0 where
  pub run : IsRun work past c events
  pub clock : gave (readings_of events)
  pub crash : (image : Image) → after image → HoldsPrefix no_rules columns work past c events image
  pub crash_by : OpensWith (rules_of columns) columns found c past → (image : Image) → after image → HoldsPrefix (rules_of columns) columns work past c events image

-- The text is what is printed of that run, and where it was not stopped each image after it holds all its writes, and a superblock with its mark, its last
-- timestamp and so many rowsets: what the last line of an output text says.
pub record Ran (gave : List ℕ → Type 0) (columns : List Column) (found after : Image → Type 0) (work : Workload) (past : Past) (c : ℕ) (events : List Event) (load : Option ℕ) (stopped : Bool) (rowsets : ℕ) (text : List ℕ) : Type 0 where
  pub kept : Kept gave columns found after work past c events
  pub output : IsPrinted load work past c stopped rowsets text events
  pub whole : stopped ≡ false → (image : Image) → after image → HoldsAll no_rules columns work past c events image
  pub whole_by : stopped ≡ false → OpensWith (rules_of columns) columns found c past → (image : Image) → after image → HoldsAll (rules_of columns) columns work past c events image
  pub superblock : stopped ≡ false → (image : Image) → after image → HasSuper (end_of work past c events).a (end_of work past c events).c rowsets image.store

-- The text is that of a run from each past that what was read holds, and all these runs have the same lines.
pub record RunsPlan (gave : List ℕ → Type 0) (columns : List Column) (found after : Image → Type 0) (work : Workload) (load : Option ℕ) (stopped : Bool) (text : List ℕ) : Type 0 where
  pub events : List Event
  pub rowsets : ℕ
  pub runs : (past : Past) (c : ℕ) → OpensWith no_rules columns found c past → Ran gave columns found after work past c events load stopped rowsets text

-- and of the script, in a pool of so many cells: of one that loads, by its load
abbrev pub RunsScript : (List ℕ → Type 0) → (Image → Type 0) → (Image → Type 0) → ℕ → Bool → List ℕ → List ℕ → Type 0
RunsScript gave found after cells stopped script text = (said : Said) × (script_of script ≡ Some said) × RunsPlan gave said.columns found after (workload cells said) (load_of script) stopped text

-- ---- refusals

-- opening answers what was read with this reason
abbrev pub Refuses : List Column → (Image → Type 0) → Why → Type 0
Refuses columns found reason = (image : Image) → found image → Answers columns image.log image.store (Err reason)

-- Each image after holds what one before held, or, from each past that what was read holds, the first writes of a run of the script with these lines.
abbrev pub LeavesFirst : (List ℕ → Type 0) → (Image → Type 0) → (Files → Type 0) → (Files → Type 0) → (Files → Type 0) → (Files → Type 0) → ℕ → Said → Type 0
LeavesFirst gave found logs logs' stores stores' cells said =
    LeavesAsBefore said.columns logs logs' stores stores'
    ⊎ ((events : List Event) × ((past : Past) (c : ℕ) → OpensWith no_rules said.columns found c past → Kept gave said.columns found (Both logs' stores') (workload cells said) past c events))
