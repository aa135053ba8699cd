-- What a row that is applied keeps of an engine.
use Rattle.std.proofs.Common.{◌≡◌, ℕ, suc, zero, ◌+◌, ◌-◌, ◌≤◌, List, [], ◌∷◌, ◌++◌, length, Some, sym, true, false, Bool, ap, ◌∙◌, subst, arith, length-append}
use Rattle.std.specs.Prelude.{◌==◌, slice_get, Result, Ok, Err, IfOk, OnErr, IsErr}
use Rattle.std.specs.List.{All, Contains, find}
use Rattle.kt_disk.specs.Disk.{Files}
use Rattle.kt_history.specs.declared.change.Outcome.{Outcome}
use Rattle.kt_history.specs.declared.operation.RowOp.{RowOp}
use Rattle.kt_history.specs.declared.target.Target.{Target}
use Rattle.kt_history.specs.History.{Past, rows_at}
use Rattle.kt_history.specs.Operations.{effect, effect_on}
use Rattle.kt_records.specs.declared.entry.Entry.{Entry}
use Rattle.kt_records.specs.declared.entry.Entry.TheVariants.{Replicate}
use Rattle.kt_records.specs.declared.entry.CommitRow.{CommitRow}
use Rattle.kt_journal.specs.Log.{records_of}
use Rattle.kt_loglaws.specs.Fronts.{ops_of}
use Rattle.kt_loglaws.proofs.LogOrder.{same}
use Rattle.kt_histlaws.specs.Pending.{Aloft}
use Rattle.kt_histlaws.specs.Histories.{hists, on_nth}
use Rattle.kt_histlaws.specs.Core.{Core, Stands, live, run_past}
use Rattle.kt_histlaws.specs.Events.{advance, IsNextOp, pushed_if, applied}
use Rattle.kt_histlaws.specs.Flights.{AllUnder}
use Rattle.kt_histlaws.proofs.Applied.{applies}
use Rattle.kt_histlaws.proofs.Shown.{in_order}
use Rattle.kt_content.specs.Places.{Super}
use Rattle.kt_content.specs.Rules.{Rules}
use Rattle.kt_content.specs.Recoverable.{SuperStands}
use Rattle.kt_stores.specs.Shelf.{place_of}
use Rattle.kt_tablet.specs.Rows.{commit_row}
use Rattle.kt_tablet.specs.declared.tablet.Stopped.{Stopped}
use Rattle.kt_tablet.specs.Views.{View, place_at}
use Rattle.kt_tablet.specs.Visits.{HasApplied, HasNoted, IsRunOutcome}
use Rattle.kt_engine.specs.Logged.{Waits, IsDurable, AreApart, LogStands, KeepsFrom}
use Rattle.kt_engine.specs.Memory.{resident, AreNamed}
use Rattle.kt_engine.specs.Engines.{EngineView, IsEngine, IsFound, core_from}
use Rattle.kt_engine.proofs.Lists.{all_head, all_tail, all_cons, all_at, all_found, found_passes, get_among, some_one}
use Rattle.kt_engine.proofs.Memory.{one_place}
use Rattle.kt_engine.proofs.Next.{goes_on, row_stands}
use Rattle.kt_engine.proofs.Runs.{not_true}
use Rattle.kt_engine.proofs.Waiting.{one_session, untold_advanced}
use Rattle.kt_engine.proofs.Places.{advanced_sessions, advanced_length, advanced_all, advanced_apart, is_session}

-- a row more of a write whose REPLICATE is durable
durable_on : (known log : List Entry) (places : List (ℕ × ℕ)) (j : ℕ) (aloft : List Aloft) (ts : ℕ) (op : RowOp) (ops : List RowOp) → IsNextOp j aloft ts op → ops_of ts log ≡ Some ops → Contains known (Replicate ts ops) → All (Waits log places) aloft → All (IsDurable known) aloft → All (IsDurable known) (on_nth j advance aloft)
durable_on known log places j [] ts op ops h is has waits durable = absurd h
durable_on known log places zero (w ∷ aloft) ts op ops h is has waits durable =
    let wf = all_head (Waits log places) w aloft waits in
    let same_ts : w.ts ≡ ts = h.0 in
    let here : ops_of ts log ≡ Some w.ops = ap (λ t. ops_of t log) (sym same_ts) ∙ wf.ops in
    let same_ops : ops ≡ w.ops = cc in
    let there : Contains known (Replicate w.ts w.ops) = subst (λ (t : ℕ). Contains known (Replicate t w.ops)) (sym same_ts) (subst (λ (os : List RowOp). Contains known (Replicate ts os)) same_ops has) in
    all_cons (IsDurable known) (advance w) aloft (λ lt. there) (all_tail (IsDurable known) w aloft durable)
durable_on known log places (suc j) (w ∷ aloft) ts op ops h is has waits durable =
    all_cons (IsDurable known) w (on_nth j advance aloft) (all_head (IsDurable known) w aloft durable) (durable_on known log places j aloft ts op ops h is has (all_tail (Waits log places) w aloft waits) (all_tail (IsDurable known) w aloft durable))

-- so many records are durable
counted : (whole known rest : List Entry) (count : ℕ) → whole ≡ known ++ rest → length whole ≡ count + length rest → length known ≡ count
counted whole known rest count is n = let a = length-append known rest in let b = ap length is in omega arith

-- what is noted of a row: at the place of its write, with the name of the store to which it goes
pub record NotedHere (core : Core) (names : List Target) (notes later : List (List CommitRow)) (j : ℕ) (op : RowOp) (outcome : Outcome) : Type 0 where
  pub name : Target
  pub there : slice_get names (place_of op.key core.stores) ≡ Some name
  pub is : later ≡ on_nth j (λ rows. rows ++ commit_row name outcome ∷ []) notes

pub noted_here : {C : Type 0} (old new : View C) (log : List Entry) (s at : ℕ) (outcome : Outcome) → All (Waits log old.places) old.core.aloft → AreApart old.core.aloft → (h : HasApplied old.core new.core s at outcome) → HasNoted old new s at outcome
    → NotedHere old.core old.names old.notes new.notes h.j h.op outcome
noted_here old new log s at outcome waits apart h n =
    let wf = all_found (Waits log old.places) (λ w. w.s == s) old.core.aloft h.flight h.flies waits in
    let wn = all_at (Waits log old.places) old.core.aloft n.j n.flight n.flies waits in
    let own : h.flight.s ≡ s = is_session h.flight.s s (found_passes (λ w. w.s == s) old.core.aloft h.flight h.flies) in
    let time : n.flight.ts ≡ h.flight.ts = one_session log old.places n.flight h.flight (n.own ∙ sym own) wn wf in
    let ops : n.flight.ops ≡ h.flight.ops = some_one n.flight.ops h.flight.ops (sym wn.ops ∙ ap (λ t. ops_of t log) time ∙ wf.ops) in
    let op : n.op ≡ h.op = some_one n.op h.op (sym n.row ∙ ap (λ (os : List RowOp). slice_get os at) ops ∙ h.row) in
    let g = goes_on h.j old.core.aloft h.flight.ts h.op h.next in
    let place : n.j ≡ h.j = one_place old.core.aloft n.j h.j n.flight g.w apart n.flies g.at (time ∙ sym g.time) in
    record {
      name = n.name;
      there = subst (λ (o : RowOp). slice_get old.names (place_of o.key old.core.stores) ≡ Some n.name) op n.named;
      is = n.notes ∙ ap (λ i. on_nth i (λ rows. rows ++ commit_row n.name outcome ∷ []) old.notes) place;
    }

-- all that the stores have of its key lies below it
pub keys_under : (core : Core) → Stands core → (j ts : ℕ) (op : RowOp) → IsNextOp j core.aloft ts op → AllUnder ts (hists op.key core.stores)
keys_under core st j ts op next = let a = applies core st j ts op next in in_order core st op.key ts (a.goes.before ts ∙ same ts)

-- the stores with its change, if it makes one
pub pushed_is : (core : Core) → Stands core → (j ts : ℕ) (op : RowOp) → IsNextOp j core.aloft ts op → (new : Core) → (AllUnder ts (hists op.key core.stores) → new ≡ applied core j (place_of op.key core.stores) ts op)
    → new.stores ≡ pushed_if (place_of op.key core.stores) op.key ts (effect core.work.fill op.kind op.cells (live core.stores op.key ts)).0 core.stores
pushed_is core st j ts op next new stores = ap (λ (c : Core). c.stores) (stores (keys_under core st j ts op next))

-- its outcome is the run's, and its change reaches that store: so what can be recovered goes on
pub applied_run : (rules : Rules) (core : Core) (super : Super) (names : List Target) (notes later : List (List CommitRow)) (records run : List Entry) (places : List (ℕ × ℕ)) (new : Core) (s at : ℕ) (outcome : Outcome) (from : ℕ) (past : Past)
    → Stands core → LogStands core records places run → AreNamed super names → AreApart core.aloft → length names ≡ length core.stores → length notes ≡ length core.aloft
    → (j : ℕ) (flight : Aloft) (op : RowOp) → find (λ w. w.s == s) core.aloft ≡ Some flight → IsNextOp j core.aloft flight.ts op → slice_get flight.ops at ≡ Some op
    → (AllUnder flight.ts (hists op.key core.stores) → new ≡ applied core j (place_of op.key core.stores) flight.ts op) → NotedHere core names notes later j op outcome → IsRunOutcome core s at outcome
    → KeepsFrom rules core super names notes records run from past → KeepsFrom rules (record core { aloft = on_nth j advance core.aloft; stores = new.stores }) super names later records run from past
applied_run rules core super names notes later records run places new s at outcome from past st log named apart stored noted j flight op flies next row stores n r k =
    let g = goes_on j core.aloft flight.ts op next in
    let w = g.w in
    let here : IsNextOp j core.aloft w.ts op = subst (λ (t : ℕ). IsNextOp j core.aloft t op) (sym g.time) next in
    let found : r.flight ≡ flight = some_one r.flight flight (sym r.flies ∙ flies) in
    let op_is : r.op ≡ op = some_one r.op op (sym r.row ∙ ap (λ (f : Aloft). slice_get f.ops at) found ∙ row) in
    let is_outcome : outcome ≡ (effect_on core.work.fill (rows_at (run_past core) (w.ts - 1)) op).1 =
    r.outcome_is ∙ ap (λ (f : Aloft). (effect_on core.work.fill (rows_at (run_past core) (f.ts - 1)) r.op).1) found ∙ ap (λ t. (effect_on core.work.fill (rows_at (run_past core) (t - 1)) r.op).1) (sym g.time)
    ∙ ap (λ (o : RowOp). (effect_on core.work.fill (rows_at (run_past core) (w.ts - 1)) o).1) op_is in
    let a = applies core st j w.ts op here in
    let under : AllUnder flight.ts (hists op.key core.stores) = subst (λ (t : ℕ). AllUnder t (hists op.key core.stores)) g.time (in_order core st op.key w.ts (a.goes.before w.ts ∙ same w.ts)) in
    let stores_are : new.stores ≡ pushed_if (place_of op.key core.stores) op.key w.ts (effect core.work.fill op.kind op.cells (live core.stores op.key w.ts)).0 core.stores =
    ap (λ (c : Core). c.stores) (stores under) ∙ ap (λ t. pushed_if (place_of op.key core.stores) op.key t (effect core.work.fill op.kind op.cells (live core.stores op.key t)).0 core.stores) (sym g.time) in
    let stands = row_stands rules core super names notes records run places from past k st log named apart stored noted j w op g.at here g.row n.name n.there outcome is_outcome new.stores stores_are in
    record {
      recovered = k.recovered;
      writes = k.writes;
      numbers = k.numbers;
      stands = subst (λ (ns : List (List CommitRow)). SuperStands rules core.work.fill super records run past (resident (record core { aloft = on_nth j advance core.aloft; stores = new.stores }) names ns k.numbers)) (sym n.is) stands;
    }

with_applied : {L D C : Type 0} (tells : Bool) (seen : L → Files) (now : L → ℕ) (leaves : L → ℕ → Files → Type 0) (faults : L → ℕ) (old : EngineView L D C) (s at place : ℕ) (outcome : Outcome) (new : View C) → IsEngine tells seen now leaves faults old
    → (h : HasApplied old.tablet.core new.core s at outcome) → HasNoted old.tablet new s at outcome → ((first : Past) → IsFound old first → IsRunOutcome (core_from old first) s at outcome)
    → ((first : Past) → IsFound old first → Stands (core_from old first)) → length old.tablet.names ≡ length old.tablet.core.stores → length old.tablet.notes ≡ length old.tablet.core.aloft
    → place_at s old.tablet.places ≡ Some place → place ≤ old.log.known.count
    → IsEngine tells seen now leaves faults (record old { tablet = record old.tablet { core = record old.tablet.core { aloft = on_nth h.j advance old.tablet.core.aloft; stores = new.core.stores }; notes = new.notes; pool = new.pool } })
with_applied tells seen now leaves faults old s at_row place outcome new e h note run_outcome stands stored noted at low =
    let core = old.tablet.core in
    let j = h.j in
    let f = h.flight in
    let op = h.op in
    let log = old.records ++ e.logged.run in
    let known = e.logged.stands in
    let wf = all_found (Waits log old.tablet.places) (λ w. w.s == s) core.aloft f h.flies known.flying in
    let own : f.s ≡ s = is_session f.s s (found_passes (λ w. w.s == s) core.aloft f h.flies) in
    let own_place : place_at s old.tablet.places ≡ Some (suc wf.n) = ap (λ t. place_at t old.tablet.places) (sym own) ∙ wf.place in
    let is_place : place ≡ suc wf.n = cc in
    let here = noted_here old.tablet new log s at_row outcome known.flying e.ready.apart h note in
    record {
      logged = record {
        run = e.logged.run;
        all = e.logged.all;
        count = e.logged.count;
        begins = e.logged.begins;
        stands = record {
          log = known.log;
          since = known.since;
          last = known.last;
          flying = advanced_all (Waits log old.tablet.places) j core.aloft (λ w h. record { up = h.up; waits = h.waits; ops = h.ops; n = h.n; place = h.place; there = h.there }) known.flying;
          untold = untold_advanced log j core.aloft known.untold;
        };
        keeps = λ rules first is plan none.
            let k = e.logged.keeps rules first (record { closed = is.closed; opens = is.opens; holds = is.holds }) plan none in
            applied_run rules (core_from old first) old.super old.tablet.names old.tablet.notes new.notes old.records e.logged.run old.tablet.places (core_from (record old { tablet = new }) first) s at_row outcome core.opened first (stands first is.opens)
            (record { log = known.log; since = known.since; last = known.last; flying = known.flying; untold = known.untold }) (e.ready.named none) e.ready.apart stored noted j f op h.flies h.next h.row
            (λ under. ap (λ (c : Core). record c { first = first }) (h.stores under)) (record { name = here.name; there = here.there; is = here.is }) (run_outcome first is.opens) k;
        names = e.logged.names;
        framed = e.logged.framed;
        durable = λ t.
            let n = counted log (records_of (seen old.log.known.disk)) (old.log.out ++ old.log.queued) old.log.known.count (e.logged.all t) e.logged.count in
            let there = subst (λ (l : List Entry). slice_get l wf.n ≡ Some (Replicate f.ts f.ops)) (e.logged.all t) wf.there in
            durable_on (records_of (seen old.log.known.disk)) log old.tablet.places j core.aloft f.ts op f.ops h.next wf.ops (get_among (records_of (seen old.log.known.disk)) (old.log.out ++ old.log.queued) wf.n (Replicate f.ts f.ops) there (omega arith)) known.flying (e.logged.durable t);
        acknowledged = e.logged.acknowledged;
      };
      home = λ journal is. let h = e.home journal is in record { opens = h.opens; others = h.others; later = h.later; known = h.known; rose = h.rose; images = h.images };
      others = e.others;
      lent = e.lent;
      whole = e.whole;
      stops = record { goes = e.stops.goes; stopped = e.stops.stopped };
      ready = record { room = subst (λ (n : ℕ). n ≤ old.log.room) (sym (advanced_length j core.aloft)) e.ready.room; apart = advanced_apart j core.aloft e.ready.apart; spelled = e.ready.spelled; shelved = e.ready.shelved; named = e.ready.named };
      placed = e.placed ∙ sym (advanced_sessions j core.aloft);
    }

-- a row that has been applied
pub has_applied : {L D C : Type 0} (tells : Bool) (seen : L → Files) (now : L → ℕ) (leaves : L → ℕ → Files → Type 0) (faults : L → ℕ) (old : EngineView L D C) (tablet : View C) (s at place : ℕ) (outcome : Outcome)
    → tablet ≡ record old.tablet { core = tablet.core; notes = tablet.notes; pool = tablet.pool } → HasApplied old.tablet.core tablet.core s at outcome → HasNoted old.tablet tablet s at outcome
    → ((first : Past) → IsFound old first → IsRunOutcome (core_from old first) s at outcome) → ((first : Past) → IsFound old first → Stands (core_from old first))
    → length old.tablet.names ≡ length old.tablet.core.stores → length old.tablet.notes ≡ length old.tablet.core.aloft → place_at s old.tablet.places ≡ Some place → place ≤ old.log.known.count
    → IsEngine tells seen now leaves faults old → IsEngine tells seen now leaves faults (record old { tablet = tablet })
has_applied {L} {D} {C} tells seen now leaves faults old tablet s at place outcome beside h note run_outcome stands stored noted is low e =
    subst (λ (t : View C). IsEngine tells seen now leaves faults (record old { tablet = t })) (sym (beside ∙ ap (λ (k : Core). record old.tablet { core = k; notes = tablet.notes; pool = tablet.pool }) h.core))
    (with_applied tells seen now leaves faults old s at place outcome tablet e h note run_outcome stands stored noted is low)

-- a row that has been applied, or not, where the tablet has stopped
pub applied_or_not : {L D C : Type 0} (tells : Bool) (seen : L → Files) (now : L → ℕ) (leaves : L → ℕ → Files → Type 0) (faults : L → ℕ) (old : EngineView L D C) (tablet : View C) (s at : ℕ) (result : Result Outcome Stopped)
    → IfOk result (λ outcome. HasApplied old.tablet.core tablet.core s at outcome) → IfOk result (λ outcome. HasNoted old.tablet tablet s at outcome)
    → IfOk result (λ outcome. (first : Past) → IsFound old first → IsRunOutcome (core_from old first) s at outcome) → ((first : Past) → IsFound old first → Stands (core_from old first))
    → length old.tablet.names ≡ length old.tablet.core.stores → length old.tablet.notes ≡ length old.tablet.core.aloft
    → tablet ≡ record old.tablet { core = tablet.core; notes = tablet.notes; pool = tablet.pool } → OnErr result (tablet ≡ old.tablet) → (old.tablet.core.stopped ≡ true → IsErr result)
    → (old.tablet.core.stopped ≡ false → (place : ℕ) × (place_at s old.tablet.places ≡ Some place) × (place ≤ old.log.known.count)) → IsEngine tells seen now leaves faults old → IsEngine tells seen now leaves faults (record old { tablet = tablet })
applied_or_not tells seen now leaves faults old tablet s at (Ok outcome) applies note run_outcome stands stored noted beside same stops durable e =
    let there = durable (not_true old.tablet.core.stopped (λ is. stops is)) in
    has_applied tells seen now leaves faults old tablet s at there.0 outcome beside applies note run_outcome stands stored noted there.1 there.2 e
applied_or_not {L} {D} {C} tells seen now leaves faults old tablet s at (Err why) applies note run_outcome stands stored noted beside same stops durable e = subst (λ (t : View C). IsEngine tells seen now leaves faults (record old { tablet = t })) (sym same) e
