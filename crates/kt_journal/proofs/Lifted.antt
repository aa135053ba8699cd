-- What holds of the frames of a log holds of its records.
use Rattle.std.proofs.Common.{◌≡◌, ℕ, List, [], ◌++◌, map, Bool, IsTrue, Option, Result, Ok, Err, inl, inr, sym, ap, ◌∙◌, subst, arith}
use Rattle.std.specs.Prelude.{IfOk, OnOk}
use Rattle.std.proofs.lemmas.List.{map-append}
use Rattle.kt_disk.specs.Disk.{Files, held, bytes_of, LeavesOnly}
use Rattle.kt_disk.proofs.Moments.{weaker}
use Rattle.kt_records.specs.declared.entry.Entry.{Entry}
use Rattle.kt_records.specs.Spelling.{spelling}
use Rattle.kt_journal.specs.declared.refusal.AppendNo.{AppendNo}
use Rattle.kt_journal.specs.declared.refusal.JournalNo.{JournalNo}
use Rattle.kt_journal.specs.Frames.{sound, frames_in, payloads_of, Settled, IsEither, IsFrom}
use Rattle.kt_journal.specs.Log.{log_in, log_of, records_of, found_in, IsLog, Holds, IsOldOrBoth, IsOf, CanOpen}
use Rattle.kt_journal.specs.Open.{Stands}
use Rattle.kt_journal.proofs.Crash.{rest_read}
use Rattle.kt_journal.proofs.Publish.{settled_holds}
use Rattle.kt_journal.proofs.Framed.{order_front}
use Rattle.kt_journal.proofs.Faults.{sound_log, same_log}

either_lifts : (old new : List Entry) (file : Option (List ℕ)) → IsLog (old ++ new) → IsEither (map spelling old) (map spelling new) file → IsOldOrBoth old new file
either_lifts old new file ordered either = (
  either.0,
  elim either.1 [
    | inl before ↦ inl (sound_log (bytes_of file) old before (order_front [] old new ordered))
    | inr both ↦ inr (sound_log (bytes_of file) (old ++ new) (both ∙ ap sound (sym (map-append spelling old new))) ordered)
  ],
)

module _ {D : Type 0} (seen : D → Files) (now : D → ℕ) (leaves : D → ℕ → Files → Type 0) where
  stands_read : (disk : D) (place : ℕ) (records : List Entry) → Stands seen now leaves disk place records → log_of (seen disk) ≡ Ok records
  stands_read disk place records stands = sound_log (held (seen disk) 1) records (rest_read _ _ _ stands.settled.rest ∙ ap sound stands.spelled) stands.sound

  pub stands_holds : (disk : D) (place : ℕ) (records : List Entry) → Stands seen now leaves disk place records → Holds now leaves disk records
  stands_holds disk place records stands c left = sound_log (held c 1) records (settled_holds seen now leaves 1 disk place stands.settled c left ∙ ap sound stands.spelled) stands.sound

  pub stands_of : (disk : D) (place : ℕ) (records : List Entry) → Settled seen now leaves 1 disk place → payloads_of 1 (seen disk) ≡ map spelling records → IsLog records
      → Stands seen now leaves disk place (records_of (seen disk)) × (records_of (seen disk) ≡ records)
  stands_of disk place records settled spelled ordered =
      let stands : Stands seen now leaves disk place records = record { settled = settled; spelled = spelled; sound = ordered } in
      let same : records_of (seen disk) ≡ records = ap found_in (stands_read disk place records stands) in
      (subst (λ (r : List Entry). Stands seen now leaves disk place r) (sym same) stands, same)

  -- after an append
  pub stands_more : (old new : D) (place next : ℕ) (more : List Entry) → Stands seen now leaves old place (records_of (seen old)) → IsLog (records_of (seen old) ++ more)
      → Settled seen now leaves 1 new next → payloads_of 1 (seen new) ≡ payloads_of 1 (seen old) ++ map spelling more
      → Stands seen now leaves new next (records_of (seen new)) × (records_of (seen new) ≡ records_of (seen old) ++ more)
  stands_more old new place next more stands ordered settled adds =
      stands_of new next (records_of (seen old) ++ more) settled (adds ∙ ap (λ (ps : List (List ℕ)). ps ++ map spelling more) stands.spelled ∙ sym (map-append spelling (records_of (seen old)) more)) ordered

  pub leaves_lift : (old new : D) (place : ℕ) (more : List Entry) → Stands seen now leaves old place (records_of (seen old)) → IsLog (records_of (seen old) ++ more)
      → LeavesOnly now leaves (λ c. IsEither (payloads_of 1 (seen old)) (map spelling more) (c 1)) old new → LeavesOnly now leaves (λ c. IsOldOrBoth (records_of (seen old)) more (c 1)) old new
  leaves_lift old new place more stands ordered run =
      weaker now leaves (λ c. IsEither (payloads_of 1 (seen old)) (map spelling more) (c 1)) (λ c. IsOldOrBoth (records_of (seen old)) more (c 1)) old new
      (λ c has. either_lifts (records_of (seen old)) more (c 1) ordered (subst (λ (ps : List (List ℕ)). IsEither ps (map spelling more) (c 1)) stands.spelled has)) run

  pub from_lifts : (old new : D) → LeavesOnly now leaves (IsFrom now leaves 1 old) old new → LeavesOnly now leaves (IsOf now leaves old) old new
  from_lifts old new run = weaker now leaves (IsFrom now leaves 1 old) (IsOf now leaves old) old new (λ c has. (has.image, has.was_left, same_log (held c 1) (held has.image 1) has.frames)) run

  -- a log whose file is there in each image may be opened
  pub openable_after : (old new : D) (records more : List Entry) → LeavesOnly now leaves (λ c. IsOldOrBoth records more (c 1)) old new → CanOpen now leaves new
  openable_after old new records more run = record { either = inl (λ c left. (run.each (now new) c run.later (omega arith) left).0) }

  -- what an append answers
  pub appended_stands : (r : Result ℕ AppendNo) (tells : Bool) (old new : D) (place : ℕ) (more : List Entry) → (IsTrue tells → Stands seen now leaves old place (records_of (seen old))) → (IsTrue tells → IsLog (records_of (seen old) ++ more))
      → IfOk r (λ next. IsTrue tells → Settled seen now leaves 1 new next × (payloads_of 1 (seen new) ≡ payloads_of 1 (seen old) ++ map spelling more))
      → IfOk r (λ next. IsTrue tells → Stands seen now leaves new next (records_of (seen new)) × (records_of (seen new) ≡ records_of (seen old) ++ more))
  appended_stands (Ok next) tells old new place more stands ordered adds = λ told. stands_more old new place next more (stands told) (ordered told) (adds told).0 (adds told).1
  appended_stands (Err why) tells old new place more stands ordered adds = tt

  pub appended_holds : (r : Result ℕ AppendNo) (tells : Bool) (new : D) (P : Type 0) → IfOk r (λ next. IsTrue tells → Stands seen now leaves new next (records_of (seen new)) × P) → OnOk r (IsTrue tells → Holds now leaves new (records_of (seen new)))
  appended_holds (Ok next) tells new P stands = λ told. stands_holds new next (records_of (seen new)) (stands told).0
  appended_holds (Err why) tells new P stands = tt

  -- what opening answers
  pub opened_reads : (r : Result (ℕ × List Entry) JournalNo) (tells : Bool) (bytes : List ℕ) → IfOk r (λ o. IsLog o.1) → IfOk r (λ o. IsTrue tells → frames_in bytes ≡ sound (map spelling o.1)) → IfOk r (λ o. IsTrue tells → log_in bytes ≡ Ok o.1)
  opened_reads (Ok o) tells bytes ordered reads = λ told. sound_log bytes o.1 (reads told) ordered
  opened_reads (Err why) tells bytes ordered reads = tt

  pub opened_stands : (r : Result (ℕ × List Entry) JournalNo) (tells : Bool) (new : D) → IfOk r (λ o. IsLog o.1)
      → IfOk r (λ o. IsTrue tells → Settled seen now leaves 1 new o.0 × (payloads_of 1 (seen new) ≡ map spelling o.1))
      → IfOk r (λ o. IsTrue tells → Stands seen now leaves new o.0 (records_of (seen new)) × (records_of (seen new) ≡ o.1))
  opened_stands (Ok o) tells new ordered settled = λ told. stands_of new o.0 o.1 (settled told).0 (settled told).1 ordered
  opened_stands (Err why) tells new ordered settled = tt

  pub opened_holds : (r : Result (ℕ × List Entry) JournalNo) (tells : Bool) (new : D)
      → IfOk r (λ o. IsTrue tells → Stands seen now leaves new o.0 (records_of (seen new)) × (records_of (seen new) ≡ o.1)) → IfOk r (λ o. IsTrue tells → Holds now leaves new o.1)
  opened_holds (Ok o) tells new stands = λ told. subst (λ (r : List Entry). Holds now leaves new r) (stands told).1 (stands_holds new o.0 (records_of (seen new)) (stands told).0)
  opened_holds (Err why) tells new stands = tt
