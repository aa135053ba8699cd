-- The answers of opening to a superblock and its records.
use Rattle.std.proofs.Common.{◌≡◌, ◌≢◌, ◌<◌, ℕ, max, List, Result, Ok, Err, refl, sym, ap, ◌∙◌, subst}
use Rattle.kt_disk.specs.Disk.{Files}
use Rattle.kt_records.specs.declared.entry.Entry.{Entry}
use Rattle.kt_loglaws.specs.Replay.{last_of, gate_of}
use Rattle.kt_schema.specs.declared.column.Column.{Column}
use Rattle.kt_schema.specs.Columns.{fill_of}
use Rattle.kt_super.specs.declared.meta.Meta.{Meta}
use Rattle.kt_diskrowset.specs.Rowset.{HeldFiles}
use Rattle.kt_files.specs.declared.refusal.FilesNo.{FilesNo}
use Rattle.kt_files.specs.declared.refusal.FilesNo.TheVariants as files_no
use Rattle.kt_files.specs.declared.refusal.RemoveNo.{RemoveNo}
use Rattle.kt_files.specs.declared.refusal.RemoveNo.TheVariants as remove_no
use Rattle.kt_files.specs.Reading.{HoldAll, IsFirstFault}
use Rattle.kt_content.specs.Opening.{Placed}
use Rattle.kt_reopen.specs.declared.why.Why.{Why}
use Rattle.kt_reopen.specs.declared.why.Why.TheVariants.{B3, Fault, Memory}
use Rattle.kt_reopen.specs.Tables.{AllAreLike}
use Rattle.kt_reopen.specs.Both.{AnswersLater, super_in, stores_after, last_most, found_or_late}
use Rattle.kt_reopen.specs.Both.AnswersLater.{in_file, whole}
use Rattle.kt_reopen.specs.Refusal.{files_why, remove_why}
use Rattle.kt_reopen.specs.Opened.{found_of, IsRefusal}

module _ (columns : List Column) (m : Meta) (records : List Entry) (store : Files) (held : List HeldFiles) (hold : HoldAll store m.rowsets held) (alike : AllAreLike columns m.schema) (low : max m.c (last_of records) < last_most) where
  -- the stores that are made
  pub answers_found : (stores : Placed) → stores_after (fill_of columns) (super_in m held) records ≡ Ok stores → AnswersLater columns m records store (Ok (found_of (super_in m held) records stores))
  answers_found stores here = whole held hold alike low (sym (ap (found_or_late (super_in m held) records) here))

  -- or an operation that does not fit
  pub answers_late : (ts : ℕ) (no : Why) → stores_after (fill_of columns) (super_in m held) records ≡ Err ts → no ≡ B3 (gate_of ts records) → AnswersLater columns m records store (Err no)
  answers_late ts why here is = whole held hold alike low (ap (λ (w : Why). Err w) is ∙ sym (ap (found_or_late (super_in m held) records) here))

-- a refusal is neither a fault nor want of memory
pub not_fault : (why : Why) → IsRefusal why → why ≢ Fault
not_fault why h e = subst IsRefusal e h

pub not_memory : (why : Why) → IsRefusal why → why ≢ Memory
not_memory why h e = subst IsRefusal e h

-- a data file at fault
pub files_refused : (columns : List Column) (m : Meta) (records : List Entry) (store : Files) (e : FilesNo) (no : Why) → no ≡ files_why e → no ≢ Fault → no ≢ Memory
    → ((file offset : ℕ) → e ≡ files_no.Place file offset → IsFirstFault store m.rowsets file offset) → AnswersLater columns m records store (Err no)
files_refused columns m records store files_no.Fault why is fault memory first = absurd (fault is)
files_refused columns m records store files_no.Memory why is fault memory first = absurd (memory is)
files_refused columns m records store (files_no.Place file offset) why is fault memory first = in_file file offset (first file offset refl) (ap (λ (w : Why). Err w) is)

-- and files that are not removed are none
pub removal_refuses_none : {G : Type 0} (e : RemoveNo) (no : Why) → no ≡ remove_why e → no ≢ Fault → no ≢ Memory → G
removal_refuses_none remove_no.Fault why is fault memory = absurd (fault is)
removal_refuses_none remove_no.Memory why is fault memory = absurd (memory is)

-- the same reason, of another result
pub err_again : {X Y : Type 0} (given why : Why) → ◌≡◌ {A = Result X Why} (Err given) (Err why) → ◌≡◌ {A = Result Y Why} (Err why) (Err given)
err_again given why e = (let same : given ≡ why = cc in ap (λ (w : Why). Err w) (sym same))
