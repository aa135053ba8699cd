-- What the end of a write keeps of an engine.
use Rattle.std.proofs.Common.{◌≡◌, ℕ, ◌-◌, ◌<◌, ◌≤◌, List, [], ◌∷◌, ◌++◌, length, map, Some, refl, sym, true, false, Bool, ap, ◌∙◌, subst, arith, not, get_or, append_assoc, length-drop, drop}
use Rattle.std.specs.Prelude.{◌==◌, slice_get, take}
use Rattle.std.specs.List.{All, find, filter, remove}
use Rattle.std.proofs.lemmas.List.{append-nil, take-append-drop}
use Rattle.kt_disk.specs.Disk.{Files}
use Rattle.kt_history.specs.declared.change.Outcome.{Outcome}
use Rattle.kt_history.specs.declared.change.Outcome.TheVariants.{Done, Present, Absent, Ignored}
use Rattle.kt_history.specs.declared.event.Event.TheVariants.{End, Stop}
use Rattle.kt_history.specs.declared.operation.RowOp.{RowOp}
use Rattle.kt_history.specs.declared.target.Target.{Target}
use Rattle.kt_history.specs.declared.target.Target.TheVariants.{Mem, Delta}
use Rattle.kt_history.specs.History.{Past}
use Rattle.kt_records.specs.declared.entry.Entry.{Entry}
use Rattle.kt_records.specs.declared.entry.Entry.TheVariants.{Replicate, Commit}
use Rattle.kt_records.specs.declared.entry.CommitRow.{CommitRow}
use Rattle.kt_journal.specs.Order.{IsFramed, is_count, waiting, newest_first}
use Rattle.kt_journal.specs.Log.{records_of, IsLog}
use Rattle.kt_loglaws.specs.Replay.{last_of}
use Rattle.kt_records.specs.Rules.{TargetFits}
use Rattle.kt_loglaws.specs.Fronts.{ops_of}
use Rattle.kt_loglaws.specs.Side.{SideView}
use Rattle.kt_loglaws.proofs.LogOrder.{same}
use Rattle.kt_histlaws.specs.Pending.{Aloft}
use Rattle.kt_histlaws.specs.Core.{Core}
use Rattle.kt_histlaws.specs.Histories.{hists}
use Rattle.kt_histlaws.specs.Events.{ended, IsOver}
use Rattle.kt_content.specs.Places.{Super}
use Rattle.kt_content.specs.Rules.{Rules}
use Rattle.kt_content.specs.Records.{RowsTell}
use Rattle.kt_content.specs.RunEvents.{Named, Numbers, IsBelow, TargetsBelow, RowsBelow, StoresBelow}
use Rattle.kt_content.specs.Recoverable.{named_at, SuperStands}
use Rattle.kt_content.specs.Keeping.{without}
use Rattle.kt_content.proofs.Ends.{end_keeps}
use Rattle.kt_content.proofs.Stages.{found_true}
use Rattle.kt_content.proofs.Keeping.{with_records-append}
use Rattle.kt_content.proofs.Recovering.{commit_recovered}
use Rattle.kt_tablet.specs.Views.{View}
use Rattle.kt_tablet.specs.Visits.{MayEnd, HasEnded, IsWritten, HasHandedOut}
use Rattle.kt_tablet.specs.Rows.{commit_row, AreRecorded}
use Rattle.kt_engine.specs.Memory.{name_of, by_name, named_write, named_writes, resident}
use Rattle.kt_engine.specs.Logged.{Waits, UntoldFly, AreApart, IsDurable, LogStands, KeepsFrom, NamesOnly}
use Rattle.kt_engine.specs.Engines.{EngineView, IsContent, core_from, IsEngine}
use Rattle.kt_engine.proofs.Lists.{all_none, all_cons, all_each, all_at, all_more, all_passing, all_found, found_passes, found_place, fewer, map-filter}
use Rattle.kt_engine.proofs.Memory.{IsOwn, named_there, named_ended, one_place}
use Rattle.kt_engine.proofs.Places.{place-kept, others_apart, turned, apart_fewer, over_found, is_other, is_session}
use Rattle.kt_engine.proofs.Records.{order_more, framed_at, last_of-commit, waits_behind, all_parts, count_parts, framed_parts}
use Rattle.kt_engine.proofs.Commits.{of_each, held_few, commit_framed, commit_names, recorded_count}
use Rattle.kt_engine.proofs.Waiting.{one_session, untold_ended}
use Rattle.kt_engine.proofs.Runs.{past_line, acknowledged_more, stop_line}

-- the flying write's own REPLICATE keeps the rules
pub own_framed : (core : Core) (records : List Entry) (places : List (ℕ × ℕ)) (run : List Entry) (s : ℕ) (f : Aloft) → find (λ w. w.s == s) core.aloft ≡ Some f → LogStands core records places run → IsFramed (Replicate f.ts f.ops)
own_framed core records places run s f flies k =
    let wf = all_found (Waits (records ++ run) places) (λ w. w.s == s) core.aloft f flies k.flying in
    framed_at [] (records ++ run) wf.n (Replicate f.ts f.ops) k.log wf.there

-- its COMMIT, with a row for each operation, keeps them too
pub own_commit : (names : List Target) → All TargetFits names → (f : Aloft) (outcomes : List Outcome) (rows : List CommitRow) → AreRecorded names outcomes rows → length outcomes ≡ length f.ops → IsFramed (Replicate f.ts f.ops) → IsFramed (Commit f.ts rows)
own_commit names fits f outcomes rows are count framed =
    let few = (held_few (length f.ops) framed.keeps.count).1 in
    commit_framed names fits f.ts framed.keeps.ts outcomes rows are (omega arith)

-- the flying writes of other sessions still wait
others_wait : (log : List Entry) (places : List (ℕ × ℕ)) (s : ℕ) (aloft : List Aloft) (f : Aloft) (rows : List CommitRow) → find (λ w. w.s == s) aloft ≡ Some f → (λ (ws : List Aloft). All (Waits log places) ws) aloft
    → All (λ v. (v.ts == f.ts) ≡ false) (filter (λ w. not (w.s == s)) aloft) → All (Waits (log ++ Commit f.ts rows ∷ []) (filter (λ p. not (p.0 == s)) places)) (filter (λ w. not (w.s == s)) aloft)
others_wait log places s aloft f rows flies waits apart =
    let kept = filter (λ (p : ℕ × ℕ). not (p.0 == s)) places in
    let both = all_passing (Waits log places) (λ w. Waits log places w × ((w.s == s) ≡ false)) (λ w. not (w.s == s)) aloft (λ w passes h. (h, is_other w.s s passes)) waits in
    λ n d lt.
    let w = get_or (filter (λ (v : Aloft). not (v.s == s)) aloft) n d in
    waits_behind log places kept w f.ts rows (turned w.ts f.ts (apart n d lt)) (place-kept w.s s places (both n d lt).1) (both n d lt).0

-- the log and a COMMIT more
pub ended_log : (core : Core) (records : List Entry) (places : List (ℕ × ℕ)) (run : List Entry) (s i : ℕ) (f : Aloft) (rows : List CommitRow) → find (λ w. w.s == s) core.aloft ≡ Some f → length rows ≡ length f.ops → IsFramed (Commit f.ts rows)
    → All (λ v. (v.ts == f.ts) ≡ false) (filter (λ w. not (w.s == s)) core.aloft) → LogStands core records places run → LogStands (ended core s i f.ts) records (filter (λ p. not (p.0 == s)) places) (run ++ Commit f.ts rows ∷ [])
ended_log core records places run s i f rows flies count framed apart k =
    let log = records ++ run in
    let wf = all_found (Waits log places) (λ w. w.s == s) core.aloft f flies k.flying in
    let may : is_count (waiting f.ts (newest_first [] log)) (length rows) ≡ true = ap (λ o. is_count o (length rows)) wf.waits ∙ ap (λ n. length f.ops == n) count ∙ same (length f.ops) in
    let joined : log ++ Commit f.ts rows ∷ [] ≡ records ++ (run ++ Commit f.ts rows ∷ []) = append_assoc records run (Commit f.ts rows ∷ []) in
    let whole : IsLog (log ++ Commit f.ts rows ∷ []) = order_more [] log (Commit f.ts rows) k.log framed may in
    record {
      log = subst (λ (l : List Entry). IsLog l) joined whole;
      since = k.since;
      last = subst (λ (l : List Entry). last_of l ≤ core.c) joined (let e = last_of-commit log f.ts rows in let low = k.last in omega arith);
      flying = subst (λ (l : List Entry). All (Waits l (filter (λ p. not (p.0 == s)) places)) (filter (λ w. not (w.s == s)) core.aloft)) joined (others_wait log places s core.aloft f rows flies k.flying apart);
      untold = subst (λ (l : List Entry). UntoldFly l (filter (λ w. not (w.s == s)) core.aloft)) joined (untold_ended log places core.aloft s f rows flies k.flying k.untold);
    }

-- each name of a COMMIT is one of the stores, so that its number was given
pub each_below : (numbers : Numbers) (names : List Target) → StoresBelow numbers (map name_of names) → All (IsBelow numbers) names
each_below numbers [] below = all_none (IsBelow numbers)
each_below numbers (Mem n ∷ names) below = all_cons (IsBelow numbers) (Mem n) names below.0 (each_below numbers names below.1)
each_below numbers (Delta r n ∷ names) below = all_cons (IsBelow numbers) (Delta r n) names below.0 (each_below numbers names below.1)

pub rows_below : (numbers : Numbers) (names : List Target) (os : List Outcome) (rows : List CommitRow) → All (IsBelow numbers) names → AreRecorded names os rows → RowsBelow numbers rows
rows_below numbers names [] [] below are = tt
rows_below numbers names [] (row ∷ rows) below are = absurd are
rows_below numbers names (o ∷ os) [] below are = absurd are
rows_below numbers names (o ∷ os) (row ∷ rows) below are =
    let one = are.0 in
    (subst (λ (r : CommitRow). TargetsBelow numbers r.targets) (sym one.2) (own one.0 (of_each (IsBelow numbers) names one.0 below one.1) o), rows_below numbers names os rows below are.1)
  where
    own : (name : Target) → IsBelow numbers name → (o : Outcome) → TargetsBelow numbers (commit_row name o).targets
    own name is Done = (is, tt)
    own name is Present = tt
    own name is Absent = tt
    own name is Ignored = tt

all_applied : (n : ℕ) (ops : List RowOp) → drop n ops ≡ [] → take n ops ≡ ops
all_applied n ops none = sym (append-nil (take n ops)) ∙ ap (λ (l : List RowOp). take n ops ++ l) (sym none) ∙ take-append-drop n ops

-- what is handed out was noted at the place of the write that is found
pub at_its_place : {C : Type 0} (old new : View C) (log : List Entry) (s : ℕ) (f : Aloft) (rows : List CommitRow) → All (Waits log old.places) old.core.aloft → AreApart old.core.aloft → find (λ w. w.s == s) old.core.aloft ≡ Some f
    → (h : HasHandedOut old new s rows) → slice_get old.core.aloft h.j ≡ Some f
at_its_place old new log s f rows waits apart flies h =
    let wf = all_found (Waits log old.places) (λ w. w.s == s) old.core.aloft f flies waits in
    let wh = all_at (Waits log old.places) old.core.aloft h.j h.flight h.flies waits in
    let own : f.s ≡ s = is_session f.s s (found_passes (λ w. w.s == s) old.core.aloft f flies) in
    let time : f.ts ≡ h.flight.ts = one_session log old.places f h.flight (own ∙ sym h.own) wf wh in
    let there = found_place (λ (w : Aloft). w.s == s) old.core.aloft f flies in
    ap (slice_get old.core.aloft) (sym (one_place old.core.aloft there.0 h.j f h.flight apart there.1 h.flies time)) ∙ there.1

-- and the run with it: what was noted of its rows is true, so that its COMMIT tells what became of them
pub ended_run : (rules : Rules) (core : Core) (super : Super) (names : List Target) (notes later : List (List CommitRow)) (records : List Entry) (places : List (ℕ × ℕ)) (run : List Entry) (s i j : ℕ) (f : Aloft) (outcomes : List Outcome) (rows : List CommitRow) (from : ℕ) (past : Past)
    → IsLog (records ++ (run ++ Commit f.ts rows ∷ [])) → All (Waits (records ++ run) places) core.aloft → AreApart core.aloft → slice_get core.aloft j ≡ Some f → f.s ≡ s → drop f.applied f.ops ≡ []
    → slice_get notes j ≡ Some rows → later ≡ remove notes j → AreRecorded names outcomes rows → KeepsFrom rules core super names notes records run from past → KeepsFrom rules (ended core s i f.ts) super names later records (run ++ Commit f.ts rows ∷ []) from past
ended_run rules core super names notes later records places run s i j f outcomes rows from past log waits apart at own over here later_is are k =
    let fill = core.work.fill in
    let live = resident core names notes k.numbers in
    let wf = all_at (Waits (records ++ run) places) core.aloft j f at waits in
    let flying : Named = named_write f rows in
    let flies : named_at f.ts live.named ≡ Some flying = named_there j core.aloft notes f rows apart at here in
    let stands : ops_of f.ts (records ++ run) ≡ Some flying.ops = wf.ops ∙ ap Some (sym (all_applied f.applied f.ops over)) in
    let tells : RowsTell fill super (records ++ run) f.ts flying.ops rows = found_true fill super (records ++ run) live.named f.ts flying k.stands.names flies in
    let below = rows_below k.numbers names outcomes rows (each_below k.numbers names k.stands.numbers.stores) are in
    let alone : All (IsOwn s f.ts) core.aloft = all_each (Waits (records ++ run) places) (IsOwn s f.ts) core.aloft (λ v h is. one_session (records ++ run) places v f (is_session v.s s is ∙ sym own) h wf) waits in
    let named : named_writes (filter (λ (w : Aloft). not (w.s == s)) core.aloft) later ≡ without f.ts (named_writes core.aloft notes) =
    ap (named_writes (filter (λ (w : Aloft). not (w.s == s)) core.aloft)) later_is ∙ named_ended j s core.aloft notes f rows apart alone at own here in
    record {
      recovered = commit_recovered rules fill super records run from past f.ts rows k.recovered (record { ops = flying.ops; stands = stands; tells = tells });
      writes = with_records-append fill past run (Commit f.ts rows ∷ []) ∙ k.writes ∙ sym (past_line core (End s i f.ts));
      numbers = k.numbers;
      stands = subst (λ (ns : List Named). SuperStands rules fill super records (run ++ Commit f.ts rows ∷ []) past (record { last = core.c; named = ns; stores = λ q. by_name names (hists q core.stores); names = map name_of names; numbers = k.numbers }))
          (sym named) (end_keeps rules fill super records run past live f.ts flying log k.stands flies stands below);
    }

-- a write whose rows are all applied has one that is
pub some_applied : (f : Aloft) → 0 < length f.ops → drop f.applied f.ops ≡ [] → 0 < f.applied
some_applied f more none = let a = length-drop f.applied f.ops in let b = ap length none in omega arith

with_ended : {L D C : Type 0} (tells : Bool) (seen : L → Files) (now : L → ℕ) (leaves : L → ℕ → Files → Type 0) (faults : L → ℕ) (old : EngineView L D C) (s i : ℕ) (f : Aloft) (outcomes : List Outcome) (rows : List CommitRow) (tablet : View C) → IsEngine tells seen now leaves faults old
    → old.tablet.core.stopped ≡ false → find (λ w. w.s == s) old.tablet.core.aloft ≡ Some f → IsOver s old.tablet.core.aloft → length outcomes ≡ length f.ops → AreRecorded old.tablet.names outcomes rows → HasHandedOut old.tablet tablet s rows
    → IsEngine tells seen now leaves faults (record old { tablet = record old.tablet { core = ended old.tablet.core s i f.ts; notes = tablet.notes; places = filter (λ p. not (p.0 == s)) old.tablet.places }; log = record old.log { queued = old.log.queued ++ Commit f.ts rows ∷ []; room = old.log.room - 1 } })
with_ended tells seen now leaves faults old s i f outcomes rows tablet e goes flies over each are handed =
    let core = old.tablet.core in
    let k = e.logged.stands in
    let wf = all_found (Waits (old.records ++ e.logged.run) old.tablet.places) (λ w. w.s == s) core.aloft f flies k.flying in
    let framed = own_framed core old.records old.tablet.places e.logged.run s f flies k in
    let commit = own_commit old.tablet.names e.ready.spelled f outcomes rows are each framed in
    let count : length rows ≡ length f.ops = recorded_count old.tablet.names outcomes rows are ∙ each in
    let apart = others_apart s core.aloft f flies e.ready.apart in
    let some : 0 < length f.ops = (held_few (length f.ops) framed.keeps.count).0 in
    let own : f.s ≡ s = is_session f.s s (found_passes (λ w. w.s == s) core.aloft f flies) in
    let at = at_its_place old.tablet tablet (old.records ++ e.logged.run) s f rows k.flying e.ready.apart flies handed in
    let stands = ended_log core old.records old.tablet.places e.logged.run s i f rows flies count commit apart k in
    record {
      logged = record {
        run = e.logged.run ++ Commit f.ts rows ∷ [];
        all = λ t. all_parts old.records e.logged.run (records_of (seen old.log.known.disk)) old.log.out old.log.queued (Commit f.ts rows) (e.logged.all t);
        count = count_parts old.records e.logged.run old.log.out old.log.queued (Commit f.ts rows) old.log.known.count e.logged.count;
        begins = e.logged.begins;
        stands = stands;
        keeps = λ rules first is plan none. let before : IsContent rules old first = record { closed = is.closed; opens = is.opens; holds = is.holds } in
            ended_run rules (core_from old first) old.super old.tablet.names old.tablet.notes tablet.notes old.records old.tablet.places e.logged.run s i handed.j f outcomes rows core.opened first stands.log k.flying e.ready.apart at own (over_found s core.aloft f flies over)
            handed.rows_are handed.notes are (e.logged.keeps rules first before plan none);
        names = λ none. all_more (NamesOnly old.tablet.names) e.logged.run (Commit f.ts rows) (e.logged.names none) (commit_names old.tablet.names f.ts outcomes rows are);
        framed = framed_parts old.log.out old.log.queued (Commit f.ts rows) e.logged.framed commit;
        durable = λ t. all_passing (IsDurable (records_of (seen old.log.known.disk))) (IsDurable (records_of (seen old.log.known.disk))) (λ w. not (w.s == s)) core.aloft (λ w passes h. h) (e.logged.durable t);
        acknowledged = λ t. acknowledged_more (records_of (seen old.log.known.disk)) core.trail (End s i f.ts) (e.logged.acknowledged t)
            ((f.ops, all_found (IsDurable (records_of (seen old.log.known.disk))) (λ w. w.s == s) core.aloft f flies (e.logged.durable t) (some_applied f some (over_found s core.aloft f flies over))), tt);
      };
      home = λ journal at. let h = e.home journal at in record { opens = h.opens; others = h.others; later = h.later; known = h.known; rose = h.rose; images = h.images };
      others = e.others;
      lent = e.lent;
      whole = e.whole;
      stops = stop_line core (ended core s i f.ts) (End s i f.ts) e.stops goes (λ is. let no : End s i f.ts ≡ Stop = is in cc) refl refl;
      ready = record {
        room = (let less = fewer (λ (w : Aloft). w.s == s) core.aloft f flies in let low = e.ready.room in omega arith);
        apart = apart_fewer (λ w. not (w.s == s)) core.aloft e.ready.apart;
        spelled = e.ready.spelled;
        shelved = e.ready.shelved;
        named = e.ready.named;
      };
      placed = map-filter (λ (p : ℕ × ℕ). p.0) (λ n. not (n == s)) old.tablet.places ∙ ap (filter (λ n. not (n == s))) e.placed ∙ sym (map-filter (λ (w : Aloft). w.s) (λ n. not (n == s)) core.aloft);
    }

-- a write that has ended
pub has_ended : {L D C : Type 0} (tells : Bool) (seen : L → Files) (now : L → ℕ) (leaves : L → ℕ → Files → Type 0) (faults : L → ℕ) (old : EngineView L D C) (tablet : View C) (log : SideView L) (s i ts : ℕ) (outcomes : List Outcome) (rows : List CommitRow)
    → tablet ≡ record old.tablet { core = tablet.core; notes = tablet.notes; places = tablet.places } → tablet.places ≡ filter (λ p. not (p.0 == s)) old.tablet.places → HasEnded old.tablet.core tablet.core s i ts → log ≡ record old.log { queued = old.log.queued ++ Commit ts rows ∷ []; room = old.log.room - 1 }
    → old.tablet.core.stopped ≡ false → MayEnd old.tablet.core s → IsWritten old.tablet.core old.tablet.names s outcomes rows → HasHandedOut old.tablet tablet s rows
    → IsEngine tells seen now leaves faults old → IsEngine tells seen now leaves faults (record old { tablet = tablet; log = log })
has_ended {L} {D} {C} tells seen now leaves faults old tablet log s i ts outcomes rows beside is_places h is_log goes may written handed e =
    let core = old.tablet.core in
    let f = h.flight in
    let is : written.flight ≡ f = (let other = written.flies in let own = h.flies in cc) in
    let count : length outcomes ≡ length f.ops = written.count ∙ ap (λ (w : Aloft). length w.ops) is in
    let is_core : tablet.core ≡ ended core s i f.ts = h.core ∙ ap (λ t. ended core s i t) h.time in
    let is_tablet : tablet ≡ record old.tablet { core = ended core s i f.ts; notes = tablet.notes; places = filter (λ p. not (p.0 == s)) old.tablet.places } =
    beside ∙ ap (λ (k : Core). record old.tablet { core = k; notes = tablet.notes; places = tablet.places }) is_core ∙ ap (λ (ps : List (ℕ × ℕ)). record old.tablet { core = ended core s i f.ts; notes = tablet.notes; places = ps }) is_places in
    let is_log' : log ≡ record old.log { queued = old.log.queued ++ Commit f.ts rows ∷ []; room = old.log.room - 1 } = is_log ∙ ap (λ t. record old.log { queued = old.log.queued ++ Commit t rows ∷ []; room = old.log.room - 1 }) h.time in
    subst (λ (t : View C). IsEngine tells seen now leaves faults (record old { tablet = t; log = log })) (sym is_tablet)
    (subst (λ (l : SideView L). IsEngine tells seen now leaves faults (record old { tablet = record old.tablet { core = ended core s i f.ts; notes = tablet.notes; places = filter (λ p. not (p.0 == s)) old.tablet.places }; log = l })) (sym is_log')
    (with_ended tells seen now leaves faults old s i f outcomes rows tablet e goes h.flies may.over count written.told handed))

-- there is room for the COMMIT of a write that flies
pub has_room : {L D C : Type 0} (tells : Bool) (seen : L → Files) (now : L → ℕ) (leaves : L → ℕ → Files → Type 0) (faults : L → ℕ) (old : EngineView L D C) (f : Aloft) (s : ℕ) → find (λ w. w.s == s) old.tablet.core.aloft ≡ Some f → IsEngine tells seen now leaves faults old → 0 < old.log.room
has_room tells seen now leaves faults old f s flies e = let less = fewer (λ (w : Aloft). w.s == s) old.tablet.core.aloft f flies in let low = e.ready.room in omega arith
