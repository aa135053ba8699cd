-- What both images hold is found, or its last timestamp is too great for another run.
use Rattle.std.proofs.Common.{◌≡◌, ◌<◌, ◌≤◌, ℕ, zero, max, List, [], ◌∷◌, Ok, Err, refl, sym, ap, subst, arith}
use Rattle.kt_disk.specs.Disk.{Files}
use Rattle.kt_history.specs.History.{Past}
use Rattle.kt_records.specs.declared.entry.Entry.{Entry}
use Rattle.kt_journal.specs.Log.{IsLog, log_of}
use Rattle.kt_loglaws.specs.Replay.{last_of}
use Rattle.kt_schema.specs.declared.column.Column.{Column}
use Rattle.kt_schema.specs.Columns.{fill_of}
use Rattle.kt_super.specs.declared.meta.Meta.{Meta}
use Rattle.kt_super.specs.Slots.{super_of}
use Rattle.kt_diskrowset.specs.Rowset.{HeldFiles}
use Rattle.kt_files.specs.Reading.{HoldAll}
use Rattle.kt_content.specs.Rules.{Rules}
use Rattle.kt_content.specs.Content.{IsContent}
use Rattle.kt_reopen.specs.Tables.{AllAreLike}
use Rattle.kt_reopen.specs.Both.{Found, Answers, AnswersLater, nothing, super_in, found_or_late, last_most}
use Rattle.kt_reopen.specs.Both.Answers.{first, later}
use Rattle.kt_reopen.specs.Both.AnswersLater.{too_late, whole}
use Rattle.kt_reopen.specs.Holding.{HoldBoth}
use Rattle.kt_reopen.specs.Holding.HoldBoth.{first as none_yet, later as both_there}
use Rattle.kt_reopen.specs.Opened.{Shows}
use Rattle.kt_reopen.specs.declared.why.Why.TheVariants.{B6}
use Rattle.kt_reopen.proofs.Held.{content_opened, found_shows}
use Rattle.kt_reopen.proofs.BothRead.{log_read}
use Rattle.kt_app.specs.Images.{Image}
use Rattle.kt_app.specs.Crash.{Reopens, HasContent}

-- columns are like themselves
all_like : (columns : List Column) → AllAreLike columns columns
all_like [] = tt
all_like (c ∷ columns) = (refl, all_like columns)

like_held : (columns others : List Column) → others ≡ columns → AllAreLike columns others
like_held columns others e = subst (AllAreLike columns) (sym e) (all_like columns)

-- ---- opening

-- opening answers so to what both hold: it finds it, or it is too late
answer_later : (rules : Rules) (columns : List Column) (store : Files) (m : Meta) (records : List Entry) (held : List HeldFiles) (c : ℕ) (past : Past) → IsLog records → HoldAll store m.rowsets held → m.schema ≡ columns
    → IsContent rules (fill_of columns) (super_in m held) records c past → max m.c (last_of records) < last_most → (f : Found) × AnswersLater columns m records store (Ok f) × IsLog f.records
answer_later rules columns store m records held c past log hold same is low =
    let made = content_opened rules (fill_of columns) (super_in m held) records c past log is in
    let f : Found = record { super = super_in m held; records = records; last = max m.c (last_of records); stores = made.0 } in
    (f, whole held hold (like_held columns m.schema same) low (sym (ap (found_or_late (super_in m held) records) made.1)), log)

module _ (rules : Rules) (columns : List Column) (image : Image) (last : ℕ) (past : Past) (sound : (records : List Entry) → log_of image.log ≡ Ok records → IsLog records) where
  -- what is found shows the past that is held
  found_here : (f : Found) → IsLog f.records → HoldBoth rules columns image.log image.store last past → Answers columns image.log image.store (Ok f)
      → (g : Found) × Answers columns image.log image.store (Ok g) × Shows g last past
  found_here f log holds answers = (f, answers, found_shows rules columns image.log image.store last past f log holds answers)

  reopens : HoldBoth rules columns image.log image.store last past → Reopens columns image last past
  reopens (none_yet e is) = record {
    shows = λ low. found_here nothing tt (none_yet e is) (first e refl);
    late = λ far. absurd (let zero : last ≡ 0 = is.last in omega (arith, zero, far));
  }
  reopens (both_there m records held e hold same is) =
      let reads = log_read (super_of image.store) (log_of image.log) m records e in
      let log = sound records reads in
      record {
        shows = λ low.
            let f = answer_later rules columns image.store m records held last past log hold same is (subst (λ n. n < last_most) is.last low) in
            found_here f.0 f.2 (both_there m records held e hold same is) (later m records e f.1);
        late = λ far. later m records e (subst (λ n. AnswersLater columns m records image.store (Err (B6 n))) (sym is.last) (too_late held hold (like_held columns m.schema same) (subst (λ n. last_most ≤ n) is.last far) refl));
      }

  pub has_content : HoldBoth rules columns image.log image.store last past → HasContent rules columns image last past
  has_content holds = record { holds = holds; reopens = reopens holds }
