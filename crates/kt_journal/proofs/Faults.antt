-- The records of frames, and the first fault among them.
use Rattle.std.proofs.Common.{◌≡◌, ℕ, ◌+◌, true, List, [], ◌∷◌, ◌++◌, length, map, drop, Option, None, Some, Result, Ok, Err, inl, inr, refl, ap, ◌∙◌, arith, length-append}
use Rattle.std.specs.List.{flat_map}
use Rattle.std.proofs.lemmas.List.{append-nil}
use Rattle.kt_records.specs.declared.entry.Entry.{Entry}
use Rattle.kt_records.specs.Spelling.{spelling}
use Rattle.kt_records.specs.Reading.{record_of}
use Rattle.kt_records.proofs.Records.{record_again}
use Rattle.kt_journal.specs.Frames.{frame, is_open, Frames, sound, frames_in}
use Rattle.kt_journal.specs.Order.{follows, InOrder, newest_first}
use Rattle.kt_journal.specs.Log.{following, with_record, then_records, records_in, then_broken, log_in, IsLog}
use Rattle.kt_journal.specs.Reads.{IsFaulty}
use Rattle.kt_journal.proofs.Framed.{order_fit}
use Rattle.kt_journal.proofs.Loop.{frame_fault, frame_more}

spelled_follows : (before : List Entry) (r : Entry) → follows before r ≡ true → record_of (spelling r) ≡ Ok r → following before (record_of (spelling r)) ≡ Some r
spelled_follows before r may again = rw (again, may) refl

pub records_read : (records before : List Entry) (offset : ℕ) → InOrder before records → records_in before offset (map spelling records) ≡ Ok records
unfolding records_in
records_read [] before offset ordered = refl
records_read (r ∷ records) before offset ordered =
    let more : Entry → Result (List Entry) ℕ = λ x. records_in (x ∷ before) (offset + 5 + length (spelling r)) (map spelling records) in
    ap (then_records more offset) (spelled_follows before r ordered.1 (record_again r ordered.0.keeps))
    ∙ ap (with_record r) (records_read records (r ∷ before) (offset + 5 + length (spelling r)) ordered.2)

records_fault : (records before : List Entry) (offset at : ℕ) (p : List ℕ) (payloads : List (List ℕ)) → InOrder before records → at ≡ offset + length (flat_map frame (map spelling records))
    → following (newest_first before records) (record_of p) ≡ None → records_in before offset (map spelling records ++ p ∷ payloads) ≡ Err at
unfolding records_in
records_fault [] before offset at p payloads ordered at_is none =
    let more : Entry → Result (List Entry) ℕ = λ x. records_in (x ∷ before) (offset + 5 + length p) payloads in
    let here : offset ≡ at = omega arith in
    ap (then_records more offset) none ∙ ap (λ (o : ℕ). Err o) here
records_fault (r ∷ records) before offset at p payloads ordered at_is none =
    let more : Entry → Result (List Entry) ℕ = λ x. records_in (x ∷ before) (offset + 5 + length (spelling r)) (map spelling records ++ p ∷ payloads) in
    let there : at ≡ offset + 5 + length (spelling r) + length (flat_map frame (map spelling records)) = omega (arith, length-append (frame (spelling r)) (flat_map frame (map spelling records))) in
    ap (then_records more offset) (spelled_follows before r ordered.1 (record_again r ordered.0.keeps))
    ∙ ap (with_record r) (records_fault records (r ∷ before) (offset + 5 + length (spelling r)) at p payloads ordered.2 there none)

abbrev read_frames : Frames → Result (List Entry) ℕ
read_frames frames = then_broken frames.broken (records_in [] 0 frames.payloads)

-- frames of records in order are a log of these records
pub sound_log : (bytes : List ℕ) (records : List Entry) → frames_in bytes ≡ sound (map spelling records) → IsLog records → log_in bytes ≡ Ok records
sound_log bytes records is ordered = ap read_frames is ∙ records_read records [] 0 ordered

-- the records of a log depend on its frames alone
pub same_log : (a b : List ℕ) → frames_in a ≡ frames_in b → log_in a ≡ log_in b
same_log a b is = ap read_frames is

broken_after : (b : Option ℕ) (read : Result (List Entry) ℕ) (offset : ℕ) → read ≡ Err offset → then_broken b read ≡ Err offset
broken_after None read offset is = is
broken_after (Some gate) read offset is = rw is refl

-- the first frame at fault
pub faulty_log : (bytes : List ℕ) (records : List Entry) (end : ℕ) → bytes ≡ flat_map frame (map spelling records) ++ drop end bytes → end ≡ length (flat_map frame (map spelling records))
    → IsLog records → is_open (drop end bytes) ≡ true → IsFaulty (newest_first [] records) (drop (end + 1) bytes) → log_in bytes ≡ Err end
faulty_log bytes records end whole place_is ordered is faulty =
    let payloads : List (List ℕ) = map spelling records in
    let fit = order_fit [] records ordered in
    let at : end ≡ 0 + length (flat_map frame payloads) = omega (arith, place_is) in
    elim faulty [
      | inl none ↦
          ap read_frames (frame_fault bytes payloads end whole place_is fit is none)
          ∙ ap (λ (ps : List (List ℕ)). then_broken (Some end) (records_in [] 0 ps)) (append-nil payloads)
          ∙ ap (then_broken (Some end)) (records_read records [] 0 ordered)
      | inr found ↦
          ap read_frames (frame_more bytes payloads end whole place_is fit is found.0 found.1 found.2)
          ∙ broken_after _ _ end (records_fault records [] 0 end found.0 _ ordered at found.3)
    ]
