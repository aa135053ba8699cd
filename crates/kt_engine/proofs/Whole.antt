-- What a crash leaves of both devices where nothing waits for the log and the superblock that is published has the run's mark and last timestamp.
use Rattle.std.proofs.Common.{◌≡◌, ◌≤◌, ℕ, max, Bool, List, [], ◌++◌, Some, Ok, refl, sym, ap, ◌∙◌, subst, arith, inl}
use Rattle.std.specs.Prelude.{IsTrue}
use Rattle.std.proofs.lemmas.List.{append-nil}
use Rattle.kt_disk.specs.Disk.{Files}
use Rattle.kt_history.specs.declared.target.Target.{Target}
use Rattle.kt_history.specs.History.{Past, raise}
use Rattle.kt_records.specs.declared.entry.Entry.{Entry}
use Rattle.kt_records.specs.declared.entry.CommitRow.{CommitRow}
use Rattle.kt_journal.specs.Log.{records_of, IsLog, Holds}
use Rattle.kt_journal.specs.Open.{JournalView}
use Rattle.kt_loglaws.specs.Replay.{last_of}
use Rattle.kt_loglaws.specs.Fronts.{with_records}
use Rattle.kt_histlaws.specs.Core.{Core, run_past}
use Rattle.kt_content.specs.Places.{Super}
use Rattle.kt_content.specs.Rules.{Rules}
use Rattle.kt_content.specs.Content.{IsContent as HoldsPast}
use Rattle.kt_content.proofs.Recovering.{all_hold}
use Rattle.kt_reopen.specs.Both.{super_in}
use Rattle.kt_storeside.specs.Supers.{HasSuper}
use Rattle.kt_engine.specs.Logged.{KeepsSince}
use Rattle.kt_engine.specs.Engines.{EngineView, IsEngine, core_from}
use Rattle.kt_engine.specs.Stored.{IsStored, AreMarked, core_at, names_at}
use Rattle.kt_engine.specs.Pairs.{RecoversAllOfBoth, LeavesPublished}
use Rattle.kt_engine.proofs.Devices.{goes_whole}
use Rattle.kt_engine.proofs.Marks.{of_each}
use Rattle.kt_engine.proofs.Stored.{same_log}
use Rattle.kt_engine.proofs.StoreEvents.{named_hold}

-- all records hold the run under a superblock, seen from its mark
since_all : (rules : Rules) (core : Core) (super : Super) (names : List Target) (notes : List (List CommitRow)) (records run : List Entry) (durable : ℕ) → IsLog (records ++ run) → KeepsSince rules core super names notes records run durable
    → HoldsPast rules core.work.fill super (records ++ run) (max super.c (last_of (records ++ run))) (raise (run_past core) super.a)
since_all rules core super names notes records run durable log k =
    let base = records ++ k.since in
    let same : base ++ k.rest ≡ records ++ run = sym (same_log core records k.since k.rest run k.parts) in
    let past = with_records core.work.fill core.first k.since in
    subst (λ (l : List Entry). HoldsPast rules core.work.fill super l (max super.c (last_of l)) (raise (run_past core) super.a)) same
    (subst (λ (p : Past). HoldsPast rules core.work.fill super (base ++ k.rest) (max super.c (last_of (base ++ k.rest))) (raise p super.a)) k.keeps.writes
    (all_hold rules core.work.fill super base k.rest k.low past (subst (λ (l : List Entry). IsLog l) (sym same) log) k.keeps.recovered))

greatest : (c last now : ℕ) → c ≡ now → last ≤ now → max c last ≡ now
greatest c last now same low = omega arith

module _ {L D C : Type 0} (log_tells : Bool) (log_seen : L → Files) (log_now : L → ℕ) (log_leaves : L → ℕ → Files → Type 0) (log_faults : L → ℕ) (tells : Bool) (seen : D → Files) (now : D → ℕ) (leaves : D → ℕ → Files → Type 0) (faults : D → ℕ)
    (view : EngineView L D C) (engine : IsEngine log_tells log_seen log_now log_leaves log_faults view) (is : IsStored log_tells log_seen tells seen faults view)
    (same : IsTrue view.store.whole → (disk : D) → view.store.home ≡ Some disk → disk ≡ view.store.known)
    (crash : IsTrue view.store.whole → IsTrue tells → (disk : D) → view.store.home ≡ Some disk → (c : Files) → leaves disk (now disk) c → HasSuper (seen disk) view.store.meta c) where
  abbrev known : List Entry
  known = records_of (log_seen view.log.known.disk)

  pub recovers_all_of_both : (IsTrue log_tells → Holds log_now log_leaves view.log.known.disk known) → IsTrue log_tells → IsTrue tells → RecoversAllOfBoth log_now log_leaves now leaves view
  recovers_all_of_both held lt t rules first content plan goes empty mark clock log store home log_image image log_left left =
      let whole = goes_whole view engine.whole goes in
      let at = (engine.home home.journal home.log_home).known whole.0 in
      let none : view.log.out ++ view.log.queued ≡ [] = ap (λ (l : List Entry). l ++ view.log.queued) at.1 ∙ empty in
      let all : known ≡ view.records ++ is.run = sym (append-nil known) ∙ ap (λ (l : List Entry). known ++ l) (sym none) ∙ sym (is.all lt) in
      let log_left' : log_leaves view.log.known.disk (log_now view.log.known.disk) log_image = subst (λ (j : JournalView L). log_leaves j.disk (log_now j.disk) log_image) at.0 (subst (λ (d : L). log_leaves d (log_now d) log_image) home.log_is log_left) in
      let that : HasSuper (seen view.store.known) view.store.meta image = subst (λ (d : D). HasSuper (seen d) view.store.meta image) (same whole.1 store home.store_home) (crash whole.1 t store home.store_home image left) in
      let files = is.holds t view.store.meta (inl refl) in
      let super = super_in view.store.meta files.0 in
      let k = is.keeps rules first content plan t super (record { meta = view.store.meta; one = inl refl; held = files.0; hold = files.1; is = refl }) in
      let holds = since_all rules (core_at view view.store.meta (core_from view first)) super (names_at view view.store.meta) view.tablet.notes view.records is.run view.log.known.count is.stands.log k in
      let last : max super.c (last_of (view.records ++ is.run)) ≡ view.tablet.core.c = greatest super.c (last_of (view.records ++ is.run)) view.tablet.core.c clock is.stands.last in
      record {
        superblock = that.superblock;
        held = files.0;
        hold = named_hold view.store.meta files.0 (seen view.store.known) image that.named_are files.1;
        records = view.records ++ is.run;
        reads = held lt log_image log_left' ∙ ap Ok all;
        log = is.stands.log;
        holds = subst (λ (a : ℕ). HoldsPast rules view.tablet.core.work.fill super (view.records ++ is.run) view.tablet.core.c (raise (run_past (core_from view first)) a)) mark
            (subst (λ (c : ℕ). HoldsPast rules view.tablet.core.work.fill super (view.records ++ is.run) c (raise (run_past (core_from view first)) super.a)) last holds);
      }

  pub leaves_published : IsTrue tells → LeavesPublished seen now leaves view
  leaves_published t goes store at image left = crash (goes_whole view engine.whole goes).1 t store at image left

  pub are_marked : AreMarked view
  are_marked = record { mark = is.marked; last = is.clock; table = of_each (λ m. m.schema ≡ view.store.meta.schema) view.store refl is.columns }
