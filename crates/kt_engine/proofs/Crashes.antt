-- What a crash leaves of the run.
use Rattle.std.proofs.Common.{◌≡◌, ℕ, ◌<◌, ◌≤◌, zero, suc, max, List, [], ◌∷◌, ◌++◌, length, Some, Ok, refl, sym, true, false, Bool, ap, ◌∙◌, arith, subst, get_or, inl, inr, append_assoc}
use Rattle.std.specs.Prelude.{◌+◌, ◌^◌, IsTrue, take, drop}
use Rattle.std.specs.List.{All}
use Rattle.std.proofs.lemmas.List.{append-nil, append_cancel_left, take-append-drop}
use Rattle.std.proofs.Math.Seq.{take-append_seam}
use Rattle.kt_disk.specs.Disk.{Files}
use Rattle.kt_history.specs.declared.event.Event.{Event}
use Rattle.kt_history.specs.declared.event.Event.TheVariants as event
use Rattle.kt_history.specs.declared.operation.RowOp.{RowOp}
use Rattle.kt_history.specs.History.{Past, raise}
use Rattle.kt_history.specs.declared.target.Target.{Target}
use Rattle.kt_records.specs.declared.entry.Entry.{Entry}
use Rattle.kt_records.specs.declared.entry.Entry.TheVariants.{Replicate, Commit}
use Rattle.kt_records.specs.declared.entry.CommitRow.{CommitRow}
use Rattle.kt_journal.specs.Log.{log_of, records_of, IsLog, Holds}
use Rattle.kt_journal.specs.Open.{JournalView}
use Rattle.kt_loglaws.specs.Replay.{last_of}
use Rattle.kt_loglaws.specs.Side.{all_of}
use Rattle.kt_loglaws.specs.Fronts.{with_records, upto}
use Rattle.kt_histlaws.specs.Core.{Core, run_past}
use Rattle.kt_content.specs.Places.{Super}
use Rattle.kt_content.specs.Rules.{Rules}
use Rattle.kt_content.specs.Content.{IsContent as HoldsPast}
use Rattle.kt_content.specs.Recovering.{low_after}
use Rattle.kt_content.proofs.Records.{told_front, order_front}
use Rattle.kt_content.proofs.Recovering.{runs_up, take_all, each_front, all_hold}
use Rattle.kt_engine.specs.Logged.{PlanPasses, KeepsRun, AcknowledgedIn, AcknowledgedBy, NamesOnly, HoldsFront, HoldsRun}
use Rattle.kt_engine.specs.Near.{NamesEach, AreNear, IsBelow}
use Rattle.kt_engine.specs.Engines.{EngineView, HasNoJobs, IsContent, IsLogged, IsEngine, LeavesRecords, Recovers, RecoversEach, RecoversAll, core_from}
use Rattle.kt_engine.specs.Moments.{HasSome}
use Rattle.kt_engine.proofs.Devices.{acknowledged_longer, goes_whole}
use Rattle.kt_engine.proofs.Near.{near_below}
use Rattle.kt_engine.proofs.Lists.{all_front}
use Rattle.kt_engine.proofs.Raised.{raise_at}
use Rattle.kt_engine.proofs.Fronts.{told_climbs, front_last, upto_front}

at_most_last : (ts : ℕ) (ops : List RowOp) (xs : List Entry) (k : ℕ) → k < length xs → get_or xs k (Replicate ts ops) ≡ Replicate ts ops → ts ≤ last_of xs
at_most_last ts ops [] k lt is = absurd (omega arith)
at_most_last ts ops (Replicate t o ∷ xs) zero lt is = let e : t ≡ ts = cc in omega arith
at_most_last ts ops (Commit t rows ∷ xs) zero lt is = absurd (cc)
at_most_last ts ops (Replicate t o ∷ xs) (suc k) lt is = let low = at_most_last ts ops xs k (omega arith) is in omega arith
at_most_last ts ops (Commit t rows ∷ xs) (suc k) lt is = at_most_last ts ops xs k (omega arith) is

pub last_of-front : (xs ys : List Entry) → last_of xs ≤ last_of (xs ++ ys)
last_of-front [] ys = omega arith
last_of-front (Replicate t o ∷ xs) ys = let low = last_of-front xs ys in omega arith
last_of-front (Commit t rows ∷ xs) ys = last_of-front xs ys

-- what is acknowledged in these records is at or below their last timestamp
pub acknowledged_by : (records : List Entry) (t : ℕ) (trail : List Event) → last_of records ≤ t → AcknowledgedIn records trail → AcknowledgedBy t trail
acknowledged_by records t [] le h = tt
acknowledged_by records t (event.End s i ts ∷ trail) le h = (let low = at_most_last ts h.0.0 records h.0.1.0 h.0.1.1 h.0.1.2 in omega arith, acknowledged_by records t trail le h.1)
acknowledged_by records t (_ ∷ trail) le h = acknowledged_by records t trail le h

-- a front of the records, as a crash may leave it
front_holds : {notes : List (List CommitRow)} (rules : Rules) (core : Core) (super : Super) (records durable rest : List Entry) (stores : List Target) (image : Files)
    → IsLog (records ++ (durable ++ rest)) → last_of (records ++ (durable ++ rest)) ≤ core.c → KeepsRun rules core super stores notes records (durable ++ rest) → last_of records ≤ core.opened → core.first.mark ≡ super.a
    → AcknowledgedIn (records ++ durable) core.trail → All (NamesOnly stores) (durable ++ rest) → log_of image ≡ Ok (records ++ durable) → HoldsFront rules core super records stores image
front_holds rules core super records durable rest stores image log high keeps since mark acknowledged names reads =
    let fill = core.work.fill in
    let run = durable ++ rest in
    let t = low_after core.opened durable in
    let r = keeps.recovered in
    let climbs = told_climbs fill super core.opened records run r.told in
    let last = front_last fill core.first core.opened durable rest climbs records since in
    let up = runs_up fill super core.opened records core.first durable (told_front fill super core.opened records durable rest r.told) r.ends in
    let past_is : raise (with_records fill core.first durable) super.a ≡ upto t (run_past core) = raise_at (with_records fill core.first durable) super.a (up.2 ∙ mark) up.0.is ∙ sym (ap (upto t) (sym keeps.writes) ∙ upto_front fill core.first core.opened durable rest climbs up.0) in
    let holds = subst (λ (l : List Entry). HoldsPast rules fill super (records ++ l) (max super.c (last_of (records ++ l))) (raise (with_records fill core.first l) super.a)) (take_all durable rest) (each_front rules fill super records run core.opened core.first (length durable) log r) in
    record {
      records = records ++ durable;
      reads = reads;
      log = order_front [] (records ++ durable) rest (subst (λ (l : List Entry). IsLog l) (sym (append_assoc records durable rest)) log);
      run = durable;
      front = refl;
      names = all_front (NamesOnly stores) durable rest names;
      t = t;
      after_opening = last.0;
      acknowledged = acknowledged_by (records ++ durable) t core.trail last.1 acknowledged;
      holds = subst (λ (p : Past). HoldsPast rules fill super (records ++ durable) (max super.c (last_of (records ++ durable))) p) past_is holds;
      last = last.1;
      within = omega (arith, last_of-front (records ++ durable) rest, ap last_of (append_assoc records durable rest), high);
    }

-- all of the records
all_holds : {notes : List (List CommitRow)} (rules : Rules) (core : Core) (super : Super) (records run : List Entry) (stores : List Target) (image : Files) → IsLog (records ++ run) → last_of (records ++ run) ≤ core.c → KeepsRun rules core super stores notes records run → core.first.mark ≡ super.a
    → All (NamesOnly stores) run → log_of image ≡ Ok (records ++ run) → HoldsRun rules core super records stores image
all_holds rules core super records run stores image log high keeps mark names reads =
    let fill = core.work.fill in
    let r = keeps.recovered in
    let up = runs_up fill super core.opened records core.first run r.told r.ends in
    let past_is : raise (with_records fill core.first run) super.a ≡ run_past core = raise_at (with_records fill core.first run) super.a (up.2 ∙ mark) up.0.is ∙ keeps.writes in
    record {
      records = records ++ run;
      reads = reads;
      log = log;
      run = run;
      front = refl;
      names = names;
      holds = subst (λ (p : Past). HoldsPast rules fill super (records ++ run) (max super.c (last_of (records ++ run))) p) past_is (all_hold rules fill super records run core.opened core.first log r);
      last = high;
    }

-- a front of the engine's records holds its run up to a time
engine_front : {L D C : Type 0} (tells : Bool) (seen : L → Files) (now : L → ℕ) (leaves : L → ℕ → Files → Type 0) (faults : L → ℕ) (view : EngineView L D C) (rules : Rules) (first : Past) (durable rest : List Entry) (image : Files)
    → IsContent rules view first → PlanPasses rules view.tablet.core.work → HasNoJobs view
    → (is : IsEngine tells seen now leaves faults view) → is.logged.run ≡ durable ++ rest → AcknowledgedIn (view.records ++ durable) view.tablet.core.trail → log_of image ≡ Ok (view.records ++ durable)
    → HoldsFront rules (core_from view first) view.super view.records view.tablet.names image
engine_front tells seen now leaves faults view rules first durable rest image content plan none is run acknowledged reads =
    front_holds rules (core_from view first) view.super view.records durable rest view.tablet.names image
    (subst (λ (r : List Entry). IsLog (view.records ++ r)) run is.logged.stands.log) (subst (λ (r : List Entry). last_of (view.records ++ r) ≤ view.tablet.core.c) run is.logged.stands.last)
    (subst (λ (r : List Entry). KeepsRun rules (core_from view first) view.super view.tablet.names view.tablet.notes view.records r) run (is.logged.keeps rules first content plan none)) (omega (arith, content.holds.last)) content.holds.mark acknowledged (subst (All (NamesOnly view.tablet.names)) run (is.logged.names none)) reads

-- what is durable and some records more: those that opening found, and a front of the run
pub record IsFront {L D C : Type 0} (seen : L → Files) (view : EngineView L D C) (run : List Entry) (n : ℕ) : Type 0 where
  pub durable : List Entry
  pub rest : List Entry
  pub run_is : run ≡ durable ++ rest
  pub records : records_of (seen view.log.known.disk) ++ take n (view.log.out ++ view.log.queued) ≡ view.records ++ durable

pub front_at : {L D C : Type 0} (tells : Bool) (seen : L → Files) (view : EngineView L D C) (is : IsLogged tells seen view) → IsTrue tells → (n : ℕ) → IsFront seen view is.run n
front_at tells seen view is t n =
    let rest = view.log.out ++ view.log.queued in
    let begins = is.begins t in
    let durable = begins.0 in
    let moved : view.records ++ is.run ≡ view.records ++ (durable ++ rest) = is.all t ∙ ap (λ (l : List Entry). l ++ rest) begins.1 ∙ append_assoc view.records durable rest in
    record {
      durable = durable ++ take n rest;
      rest = drop n rest;
      run_is = append_cancel_left view.records is.run (durable ++ rest) moved ∙ ap (λ (l : List Entry). durable ++ l) (sym (take-append-drop n rest)) ∙ sym (append_assoc durable (take n rest) (drop n rest));
      records = ap (λ (l : List Entry). l ++ take n rest) begins.1 ∙ append_assoc view.records durable (take n rest);
    }

-- And it has the run's writes up to a time, each acknowledged one among them.
pub recovers_each : {L D C : Type 0} (tells : Bool) (seen : L → Files) (now : L → ℕ) (leaves : L → ℕ → Files → Type 0) (faults : L → ℕ) (view : EngineView L D C)
    → IsEngine tells seen now leaves faults view
    → RecoversEach tells seen view
recovers_each {L} {D} {C} tells seen now leaves faults view is rules first content plan none t n image reads =
    let at = front_at tells seen view is.logged t n in
    engine_front tells seen now leaves faults view rules first at.durable at.rest image content plan none is at.run_is
    (subst (λ (l : List Entry). AcknowledgedIn l view.tablet.core.trail) at.records (acknowledged_longer (records_of (seen view.log.known.disk)) (take n (view.log.out ++ view.log.queued)) view.tablet.core.trail (is.logged.acknowledged t))) (reads ∙ ap Ok at.records)

-- each image that a crash may leave now has what is durable, and some records more
pub leaves_some : {L D C : Type 0} (tells : Bool) (seen : L → Files) (now : L → ℕ) (leaves : L → ℕ → Files → Type 0) (faults : L → ℕ) (view : EngineView L D C)
    → IsEngine tells seen now leaves faults view → (IsTrue tells → Holds now leaves view.log.known.disk (records_of (seen view.log.known.disk)))
    → IsTrue tells → (journal : JournalView L) → view.log.home ≡ Some journal → (image : Files) → leaves journal.disk (now journal.disk) image → HasSome seen view image
leaves_some {L} {D} {C} tells seen now leaves faults view is held t journal at image left =
    let known = records_of (seen view.log.known.disk) in
    let old : log_of image ≡ Ok known → HasSome seen view image = λ reads. (0, reads ∙ ap Ok (sym (append-nil known))) in
    let both : log_of image ≡ Ok (known ++ view.log.out) → HasSome seen view image = λ reads. (length view.log.out, reads ∙ ap (λ (l : List Entry). Ok (known ++ l)) (sym (take-append_seam view.log.out view.log.queued))) in
    let home = is.home journal at in
    elim view.log.whole as (λ b. view.log.whole ≡ b → HasSome seen view image) [
      | true ↦ λ whole. old (held t image (subst (λ (j : JournalView L). leaves j.disk (now j.disk) image) (home.known whole).0 left))
      | false ↦ λ broken. elim (home.images broken t image left).1 [ inl reads ↦ old reads | inr reads ↦ both reads ]
    ] refl

-- A crash leaves the records that opening found and some of the run, whose numbers are near those that opening found.
pub leaves_records : {L D C : Type 0} (tells : Bool) (seen : L → Files) (now : L → ℕ) (leaves : L → ℕ → Files → Type 0) (faults : L → ℕ) (view : EngineView L D C) (run : List Entry)
    → IsEngine tells seen now leaves faults view → (IsTrue tells → view.records ++ run ≡ all_of seen view.log) → AreNear view.found view.tablet.names view.first_rowset view.store.next_rowset view.upkeep.begun run
    → (IsTrue tells → Holds now leaves view.log.known.disk (records_of (seen view.log.known.disk))) → LeavesRecords tells now leaves view
leaves_records tells seen now leaves faults view run is all near held t journal at image left bound one low up =
    let P = NamesEach (IsBelow (bound + 2 ^ 45)) in
    let some = leaves_some tells seen now leaves faults view is held t journal at image left in
    let front = front_at tells seen view is.logged t some.0 in
    let same : run ≡ is.logged.run = append_cancel_left view.records run is.logged.run (all t ∙ sym (is.logged.all t)) in
    record {
      run = front.durable;
      reads = some.1 ∙ ap Ok front.records;
      names = all_front P front.durable front.rest (subst (All P) (same ∙ front.run_is) (near_below view.found view.tablet.names view.first_rowset view.store.next_rowset view.upkeep.begun run bound near one low up));
    }

-- It leaves the run's writes up to a time, each acknowledged one among them.
pub recovers : {L D C : Type 0} (tells : Bool) (seen : L → Files) (now : L → ℕ) (leaves : L → ℕ → Files → Type 0) (faults : L → ℕ) (view : EngineView L D C)
    → IsEngine tells seen now leaves faults view
    → (IsTrue tells → Holds now leaves view.log.known.disk (records_of (seen view.log.known.disk))) → Recovers tells now leaves view
recovers tells seen now leaves faults view is held rules first content plan none t journal at image left =
    let some = leaves_some tells seen now leaves faults view is held t journal at image left in
    recovers_each tells seen now leaves faults view is rules first content plan none t some.0 image some.1

-- And all of them, where nothing waits and nothing has stopped it.
pub recovers_all : {L D C : Type 0} (tells : Bool) (seen : L → Files) (now : L → ℕ) (leaves : L → ℕ → Files → Type 0) (faults : L → ℕ) (view : EngineView L D C)
    → IsEngine tells seen now leaves faults view
    → (IsTrue tells → Holds now leaves view.log.known.disk (records_of (seen view.log.known.disk))) → RecoversAll tells now leaves view
recovers_all {L} {D} {C} tells seen now leaves faults view is held rules first content plan jobless goes empty t journal at image left =
    let known = (is.home journal at).known (goes_whole view is.whole goes).0 in
    let none : view.log.out ++ view.log.queued ≡ [] = ap (λ (l : List Entry). l ++ view.log.queued) known.1 ∙ empty in
    let all : records_of (seen view.log.known.disk) ≡ view.records ++ is.logged.run =
    sym (append-nil (records_of (seen view.log.known.disk))) ∙ ap (λ (l : List Entry). records_of (seen view.log.known.disk) ++ l) (sym none) ∙ sym (is.logged.all t) in
    all_holds rules (core_from view first) view.super view.records is.logged.run view.tablet.names image is.logged.stands.log is.logged.stands.last (is.logged.keeps rules first content plan jobless) content.holds.mark (is.logged.names jobless)
    (held t image (subst (λ (j : JournalView L). leaves j.disk (now j.disk) image) known.0 left) ∙ ap Ok all)
