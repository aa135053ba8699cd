-- What a crash left of each device at each moment of a run, and of a call around it.
use Rattle.std.proofs.Common.{◌≡◌, ◌≤◌, ℕ, Bool, true, false, IsTrue, List, Some, refl, sym, ap, subst, ◌∙◌, arith, inl, inr}
use Rattle.std.specs.Prelude.{Ok}
use Rattle.kt_base.specs.Causes.{Rose}
use Rattle.kt_disk.specs.Disk.{Files, LeavesOnly}
use Rattle.kt_history.specs.declared.command.Command.{Command}
use Rattle.kt_records.specs.declared.entry.Entry.{Entry}
use Rattle.kt_journal.specs.Frames.{IsFrom}
use Rattle.kt_journal.specs.Log.{log_of, records_of}
use Rattle.kt_journal.specs.Open.{JournalView}
use Rattle.kt_loglaws.specs.Appended.{WasAppended}
use Rattle.kt_schema.specs.declared.column.Column.{Column}
use Rattle.kt_storeside.specs.Sides.{Beginning}
use Rattle.kt_storeside.specs.Published.{WasPublished}
use Rattle.kt_reopen.specs.Holding.{IsOfStore}
use Rattle.kt_reopen.specs.Opened.{first_meta}
use Rattle.kt_engine.specs.Engines.{EngineView, IsHome}
use Rattle.kt_engine.specs.Pairs.{AreHome}
use Rattle.kt_engine.specs.Visits.{Root, root_of}
use Rattle.kt_app.specs.Moments.{LogGrew, LogWentOn, LogThroughout, StoreWentOn, StoreThroughout}
use Rattle.kt_app.proofs.Runs.{with_plan}

-- ---- the devices, as a run of a plan gives them back

module _ {L D C : Type 0} {tells : Bool} {seen : L → Files} {now : L → ℕ} {leaves : L → ℕ → Files → Type 0} {faults : L → ℕ} (old view : EngineView L D C) (plan : List (List Command)) (log : L) (store : D) (root : root_of view ≡ root_of (with_plan old plan))
    (at_home : (journal : JournalView L) → view.log.home ≡ Some journal → IsHome tells seen now leaves faults view journal) (home : AreHome view log store) where
  pub log_grew : (IsTrue tells → (journal : JournalView L) → view.log.home ≡ Some journal → WasAppended seen now leaves view.log.whole view.log.first journal.disk) → IsTrue tells → LogGrew seen now leaves faults old.device old.log.first log
  log_grew moments t =
      let device : view.device ≡ old.device = ap (λ (r : Root L D C). r.device) root in
      let first : view.log.first ≡ old.log.first = ap (λ (r : Root L D C). r.first_log) root in
      subst (LogGrew seen now leaves faults old.device old.log.first) (sym home.log_is) (record {
        whole = view.log.whole;
        failed = λ un. subst (λ (d : L). Rose (faults d) (faults home.journal.disk)) device ((at_home home.journal home.log_home).rose un);
        appended = subst (λ (d : L). WasAppended seen now leaves view.log.whole d home.journal.disk) first (moments t home.journal home.log_home);
      })

  pub store_published : (tells' : Bool) (seen' : D → Files) (now' : D → ℕ) (leaves' : D → ℕ → Files → Type 0) → (IsTrue tells' → (disk : D) → view.store.home ≡ Some disk → WasPublished seen' now' leaves' view.store.first.device disk)
      → IsTrue tells' → WasPublished seen' now' leaves' old.store.first.device store
  store_published tells' seen' now' leaves' moments t = subst (λ (r : Root L D C). WasPublished seen' now' leaves' r.first_store.device store) root (moments t store home.store_home)

-- ---- around it

-- a device upon which nothing was called
pub log_rests : {L : Type 0} (seen : L → Files) (now : L → ℕ) (leaves : L → ℕ → Files → Type 0) (faults : L → ℕ) (old new : L) → new ≡ old → LogThroughout seen now leaves faults old new
log_rests seen now leaves faults old new is = subst (LogThroughout seen now leaves faults old) (sym is) (inl (record {
  later = omega arith;
  each = λ m c low high left. let same : m ≡ now old = omega (arith, low, high) in record { image = c; was_left = subst (λ (n : ℕ). leaves old n c) same left; frames = refl; others = λ n none. refl };
  past = λ m c le left. left;
  keeps = λ m c le left. left;
}))

pub store_rests : {D : Type 0} (seen : D → Files) (now : D → ℕ) (leaves : D → ℕ → Files → Type 0) (columns : List Column) (old new : D) → new ≡ old → StoreThroughout seen now leaves columns old new
store_rests seen now leaves columns old new is = subst (StoreThroughout seen now leaves columns old) (sym is) (inl (record {
  later = omega arith;
  each = λ m c low high left. let same : m ≡ now old = omega (arith, low, high) in record { image = c; was_left = subst (λ (n : ℕ). leaves old n c) same left; super = inl refl; named = λ k e n has. refl; slots = λ slot at k told. inl told };
  past = λ m c le left. left;
  keeps = λ m c le left. left;
}))

-- one that was not opened
pub log_shut : {L : Type 0} (seen : L → Files) (now : L → ℕ) (leaves : L → ℕ → Files → Type 0) (faults : L → ℕ) (old closed new : L) → new ≡ closed → LeavesOnly now leaves (IsFrom now leaves 1 old) old closed → LogThroughout seen now leaves faults old new
log_shut seen now leaves faults old closed new is only = subst (LogThroughout seen now leaves faults old) (sym is) (inl only)

pub store_shut : {D : Type 0} (seen : D → Files) (now : D → ℕ) (leaves : D → ℕ → Files → Type 0) (columns : List Column) (old closed new : D) → new ≡ closed → LeavesOnly now leaves (IsOfStore now leaves (first_meta columns) old) old closed → StoreThroughout seen now leaves columns old new
store_shut seen now leaves columns old closed new is only = subst (StoreThroughout seen now leaves columns old) (sym is) (inl only)

-- one that was opened, and upon which a run went
pub log_went : {L : Type 0} (seen : L → Files) (now : L → ℕ) (leaves : L → ℕ → Files → Type 0) (faults : L → ℕ) (old device opened known ran new : L) (records : List Entry) → new ≡ ran → device ≡ old → opened ≡ known → log_of (seen old) ≡ Ok records → records_of (seen opened) ≡ records
    → LeavesOnly now leaves (IsFrom now leaves 1 old) old known → LogGrew seen now leaves faults device opened ran → LogThroughout seen now leaves faults old new
log_went seen now leaves faults old device opened known ran new records is was same read found only grew = subst (LogThroughout seen now leaves faults old) (sym is) (inr (record {
  opened = opened;
  opening = subst (LeavesOnly now leaves (IsFrom now leaves 1 old) old) (sym same) only;
  found = read ∙ ap Ok (sym found);
  grew = subst (λ d. LogGrew seen now leaves faults d opened ran) was grew;
}))

pub store_went : {D : Type 0} (seen : D → Files) (now : D → ℕ) (leaves : D → ℕ → Files → Type 0) (columns : List Column) (old opened known ran new : D) → new ≡ ran → opened ≡ known
    → LeavesOnly now leaves (IsOfStore now leaves (first_meta columns) old) old known → WasPublished seen now leaves opened ran → StoreThroughout seen now leaves columns old new
store_went seen now leaves columns old opened known ran new is same only published = subst (StoreThroughout seen now leaves columns old) (sym is) (inr (record {
  opened = opened;
  opening = subst (LeavesOnly now leaves (IsOfStore now leaves (first_meta columns) old) old) (sym same) only;
  published = published;
}))
