-- What a contract sees of the log of an engine: the records that are durable, those that a pass has out, and those queued.
use Rattle.std.specs.Prelude.{◌≡◌, ◌+◌, ◌^◌, ◌<◌, ◌≤◌, ℕ, Bool, true, false, IsTrue, List, [], ◌++◌, length, Option, Some, None}
use Rattle.kt_disk.specs.Disk.{Files, LeavesOnly}
use Rattle.kt_records.specs.declared.entry.Entry.{Entry}
use Rattle.kt_history.specs.Rows.{Row}
use Rattle.kt_history.specs.History.{Past}
use Rattle.kt_journal.specs.Log.{records_of, IsLog, Holds, IsOldOrBoth}
use Rattle.kt_journal.specs.Open.{JournalView}
use Rattle.kt_loglaws.specs.Laws.{LogHolds}
use Rattle.kt_loglaws.specs.Fronts.{with_records, AllTold, HoldsUpTo}
use Rattle.kt_loglaws.specs.Appended.{AreOfLogged, WasAppended, records_after}

-- known is the log as it is, or as it last went out; home is the log where it is at home; holder is the pass that has
-- it out, with the records out. room says how many more records may be queued. After a fault it is no longer whole. first is its device as the side began.
pub record SideView (L : Type 0) : Type 0 where
  pub home : Option (JournalView L)
  pub known : JournalView L
  pub holder : Option ℕ
  pub out : List Entry
  pub queued : List Entry
  pub room : ℕ
  pub whole : Bool
  pub first : L

-- all records in their order: those known to be durable, those out, and those queued
abbrev pub all_of : {L : Type 0} → (L → Files) → SideView L → List Entry
all_of seen side = records_of (seen side.known.disk) ++ (side.out ++ side.queued)

-- the log as it is, where it is at home and whole, and else as it went out
abbrev pub known_in : {J : Type 0} → Option J → Bool → J → J
known_in None whole lent = lent
known_in (Some journal) true lent = journal
known_in (Some journal) false lent = lent

-- the records that went out, unless the log is at home and whole
abbrev pub out_in : {J : Type 0} → Option J → Bool → List Entry → List Entry
out_in None whole sent = sent
out_in (Some journal) true sent = []
out_in (Some journal) false sent = sent

abbrev pub holder_in : {J : Type 0} → Option J → ℕ → Option ℕ
holder_in None by = Some by
holder_in (Some journal) by = None

-- The counts of the log of an engine: how many records are durable and how many are out, the room behind what is queued
-- also where a batch comes back, and each record has a place.
pub record IsSide {L : Type 0} (tells : Bool) (seen : L → Files) (now : L → ℕ) (leaves : L → ℕ → Files → Type 0) (known : JournalView L) (out : List Entry) (durable sent queued room capacity spare : ℕ) : Type 0 where
  pub count : durable ≡ known.count
  pub length_out : sent ≡ length out
  pub reserved : sent + queued + room ≤ capacity
  pub places : durable + sent + queued + room < 2 ^ 64
  pub bare : spare ≡ 0
  pub usable : IsTrue known.usable
  pub holds : IsTrue tells → Holds now leaves known.disk (records_of (seen known.disk))

-- Since the side began batches were appended to the log one behind another, and its records are those behind them. So it is up to the known log, and from
-- there to one that came home after a fault a crash left the durable records, or these and those out. Each COMMIT that is out or queued is of a durable write.
pub record IsGrown {L : Type 0} (tells : Bool) (seen : L → Files) (now : L → ℕ) (leaves : L → ℕ → Files → Type 0) (first : L) (home : Option (JournalView L)) (whole : Bool) (known : JournalView L) (out queued : List Entry) : Type 0 where
  pub was : IsTrue tells → (grown : WasAppended seen now leaves true first known.disk) × (records_after (records_of (seen first)) grown.appends ≡ records_of (seen known.disk))
  pub broken : IsTrue tells → whole ≡ false → (journal : JournalView L) → home ≡ Some journal → LeavesOnly now leaves (λ c. IsOldOrBoth (records_of (seen known.disk)) out (c 1)) known.disk journal.disk
  pub of_logged : IsTrue tells → AreOfLogged (records_of (seen known.disk)) (out ++ queued)

-- A crash while the log is out, or after its append failed: the file holds the durable records, or these and those out.
-- Then it holds the opened past with the writes up to some t, each durable one among them. The records are those of an
-- opened log and those of a run, of which each COMMIT tells what became of its write.
abbrev pub a_crash_keeps_each_durable_write : (L : Type 0) → (L → Files) → Type 0
a_crash_keeps_each_durable_write L seen = (side : SideView L) (fill : Row) (opened durable : List Entry) (past : Past) (file : Option (List ℕ))
    → records_of (seen side.known.disk) ≡ opened ++ durable → IsLog (all_of seen side) → LogHolds fill opened past → AllTold fill opened past (durable ++ (side.out ++ side.queued))
    → IsOldOrBoth (records_of (seen side.known.disk)) side.out file → HoldsUpTo fill (with_records fill past (durable ++ (side.out ++ side.queued))) durable file
