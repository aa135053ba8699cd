-- The past that the images of a log and of a store hold together.
use Rattle.std.specs.Prelude.{◌≡◌, ◌≤◌, ◌⊎◌, ◌↔◌, ℕ, List, [], Some, None, Result, Ok}
use Rattle.kt_disk.specs.Disk.{Files, held}
use Rattle.kt_history.specs.History.{Past}
use Rattle.kt_records.specs.declared.entry.Entry.{Entry}
use Rattle.kt_journal.specs.Log.{log_of}
use Rattle.kt_schema.specs.declared.column.Column.{Column}
use Rattle.kt_schema.specs.Columns.{fill_of}
use Rattle.kt_super.specs.declared.meta.Meta.{Meta}
use Rattle.kt_super.specs.Slots.{super_of, slot_at, IsSlot}
use Rattle.kt_diskrowset.specs.Rowset.{HeldFiles}
use Rattle.kt_files.specs.Reading.{HoldAll}
use Rattle.kt_files.specs.Named.{HasNamed}
use Rattle.kt_storeside.specs.Supers.{SpellNoOther}
use Rattle.kt_content.specs.Places.{fresh}
use Rattle.kt_content.specs.Rules.{Rules}
use Rattle.kt_content.specs.Content.{IsContent}
use Rattle.kt_reopen.specs.declared.why.Why.{Why}
use Rattle.kt_reopen.specs.Both.{Found, Answers, read_both, super_in}

-- By these rules of the table both images hold this past, of which c is the last timestamp. Under a superblock whose columns have other ids than the
-- script's they hold none
pub data HoldBoth (rules : Rules) (columns : List Column) (log store : Files) (c : ℕ) (past : Past) : Type 0 where
  first : read_both (super_of store) (log_of log) ≡ Ok (None, []) → IsContent rules (fill_of columns) fresh [] c past → HoldBoth rules columns log store c past
  later : (m : Meta) (records : List Entry) (held : List HeldFiles) → read_both (super_of store) (log_of log) ≡ Ok (Some m, records) → HoldAll store m.rowsets held
      → m.schema ≡ columns → IsContent rules (fill_of columns) (super_in m held) records c past → HoldBoth rules columns log store c past

-- two pairs of images hold the same pasts, by any rules, and opening gives both the same answer
pub record AreAlikePairs (columns : List Column) (log store log' store' : Files) : Type 0 where
  pub pasts : (rules : Rules) (c : ℕ) (past : Past) → HoldBoth rules columns log store c past ↔ HoldBoth rules columns log' store' c past
  pub answers : (answer : Result Found Why) → Answers columns log store answer ↔ Answers columns log' store' answer

-- a crash at this moment of a call leaves these files
pub record IsLeft {D : Type 0} (now : D → ℕ) (leaves : D → ℕ → Files → Type 0) (old new : D) (moment : ℕ) (c : Files) : Type 0 where
  pub since : now old ≤ moment
  pub until : moment ≤ now new
  pub left : leaves new moment c

-- a store has the superblock of an image that a crash at the last moment of that disk might have left
pub record HadSuper {D : Type 0} (now : D → ℕ) (leaves : D → ℕ → Files → Type 0) (disk : D) (c : Files) : Type 0 where
  pub image : Files
  pub was_left : leaves disk (now disk) image
  pub super : super_of c ≡ super_of image

-- Each image of the log at a moment of a call holds with each of the store at one what a pair holds that a crash might have left before the call, and opening
-- answers the same. But beside a superblock that the store did not have before the log is at its end, or has no record.
abbrev pub KeepsContent : {L D : Type 0} → (L → ℕ) → (L → ℕ → Files → Type 0) → (D → ℕ) → (D → ℕ → Files → Type 0) → List Column → L → D → L → D → Type 0
KeepsContent now leaves now' leaves' columns log store log' store' =
    (m n : ℕ) (l s : Files) → IsLeft now leaves log log' m l → IsLeft now' leaves' store store' n s → (m ≡ now log') ⊎ ((log_of l ≡ Ok []) ⊎ HadSuper now' leaves' store s)
    → (k t : Files) × leaves log (now log) k × leaves' store (now' store) t × AreAlikePairs columns l s k t

-- ---- one device at a time

-- This image of a store has the superblock of one that a crash at the last moment of that disk might have left, and all files that it names. Its slots tell
-- the same
pub record HasFilesOf {D : Type 0} (now : D → ℕ) (leaves : D → ℕ → Files → Type 0) (disk : D) (c : Files) : Type 0 where
  pub image : Files
  pub was_left : leaves disk (now disk) image
  pub super : super_of c ≡ super_of image
  pub named : (m : Meta) → super_of image ≡ Ok (Some m) → HasNamed m.rowsets image c
  pub slots : (slot : ℕ) → IsSlot slot → slot_at slot (held c slot) ≡ slot_at slot (held image slot)

-- This image of a store has the superblock of one that a crash at the last moment of that disk might have left, and all files that it names; where that
-- one has none, it may have the first one. No slot spells another that is new
pub record IsOfStore {D : Type 0} (now : D → ℕ) (leaves : D → ℕ → Files → Type 0) (first : Meta) (disk : D) (c : Files) : Type 0 where
  pub image : Files
  pub was_left : leaves disk (now disk) image
  pub super : (super_of c ≡ super_of image) ⊎ ((super_of image ≡ Ok None) × (super_of c ≡ Ok (Some first)))
  pub named : (m : Meta) → super_of image ≡ Ok (Some m) → HasNamed m.rowsets image c
  pub slots : SpellNoOther image first c
