-- What the beginning of a write keeps of an engine.
use Rattle.std.proofs.Common.{◌≡◌, ℕ, suc, ◌+◌, ◌-◌, ◌<◌, ◌≤◌, ◌^◌, List, [], ◌∷◌, ◌++◌, length, map, Option, Some, None, refl, sym, true, false, Bool, cond, ap, ◌∙◌, subst, arith, append_assoc, length-append}
use Rattle.std.specs.Prelude.{◌==◌, Result, Err}
use Rattle.std.specs.List.{All, list_any}
use Rattle.std.proofs.lemmas.List.{map-append}
use Rattle.kt_disk.specs.Disk.{Files}
use Rattle.kt_history.specs.declared.event.Event.TheVariants.{Begin, Large, Stop}
use Rattle.kt_history.specs.declared.command.Command.{Command}
use Rattle.kt_history.specs.declared.command.Command.TheVariants as command
use Rattle.kt_history.specs.declared.operation.RowOp.{RowOp}
use Rattle.kt_history.specs.declared.target.Target.{Target}
use Rattle.kt_history.specs.Machine.{IfWrite, command_at, next_timestamp}
use Rattle.kt_records.specs.declared.entry.Entry.{Entry}
use Rattle.kt_records.specs.declared.entry.Entry.TheVariants.{Replicate, Commit}
use Rattle.kt_records.specs.declared.entry.CommitRow.{CommitRow}
use Rattle.kt_journal.specs.Order.{IsFramed, waiting, newest_first}
use Rattle.kt_journal.specs.Log.{records_of, IsLog}
use Rattle.kt_loglaws.specs.Replay.{last_of}
use Rattle.kt_loglaws.specs.Laws.{with_ops}
use Rattle.kt_loglaws.specs.Side.{SideView}
use Rattle.kt_loglaws.proofs.LogOrder.{same}
use Rattle.kt_history.specs.History.{Past}
use Rattle.kt_histlaws.specs.Pending.{Aloft}
use Rattle.kt_histlaws.specs.Core.{Core}
use Rattle.kt_histlaws.specs.Histories.{hists}
use Rattle.kt_histlaws.specs.Events.{begun}
use Rattle.kt_tablet.specs.Views.{View, place_at}
use Rattle.kt_tablet.specs.declared.tablet.write.BeginNo.{BeginNo}
use Rattle.kt_tablet.specs.declared.tablet.write.BeginNo.TheVariants as no
use Rattle.kt_tablet.specs.Plans.{WriteKeeps, CommandKeeps, PlanKeeps}
use Rattle.kt_tablet.specs.Visits.{MayBegin, HasBegun, Leaves, holder_of}
use Rattle.kt_history.specs.Operations.{DifferentKeys, share_key}
use Rattle.kt_history.proofs.Runs.{of_write}
use Rattle.kt_content.specs.Places.{Super}
use Rattle.kt_content.specs.Rules.{Rules, OpsPass}
use Rattle.kt_content.specs.Opening.{AreWrites}
use Rattle.kt_content.specs.Recovering.{low_after}
use Rattle.kt_content.specs.RunEvents.{Named}
use Rattle.kt_content.specs.Recoverable.{SuperStands}
use Rattle.kt_content.proofs.Keeping.{with_records-append, begin_keeps}
use Rattle.kt_content.proofs.Recovering.{replicate_recovered}
use Rattle.kt_content.proofs.Writes.{writes_have_rows}
use Rattle.kt_engine.specs.Memory.{name_of, by_name, resident}
use Rattle.kt_engine.specs.Logged.{PlanPasses, Waits, UntoldFly, IsDurable, LogStands, KeepsFrom, NamesOnly}
use Rattle.kt_engine.specs.Engines.{EngineView, IsContent, core_from, IsEngine}
use Rattle.kt_engine.proofs.Memory.{named_begun}
use Rattle.kt_engine.proofs.Lines.{KeepsLines, answer_keeps}
use Rattle.kt_engine.proofs.Lists.{all_each, all_more, get_end}
use Rattle.kt_engine.proofs.Places.{place-new, any_session, apart_more}
use Rattle.kt_engine.proofs.Records.{newest-append, order_more, last_of-replicate, below_last, above_log, ops_of-new, waits_on, all_parts, count_parts, framed_parts}
use Rattle.kt_engine.proofs.Fronts.{low_below, last_of-append}
use Rattle.kt_engine.proofs.Waiting.{untold_begun, keys_told, none_holds}
use Rattle.kt_engine.proofs.Runs.{past_begun, acknowledged_more, stop_line, goes_still, err_is}

-- more room
pub with_room : {L D C : Type 0} (tells : Bool) (seen : L → Files) (now : L → ℕ) (leaves : L → ℕ → Files → Type 0) (faults : L → ℕ) (old : EngineView L D C) (room : ℕ) → old.log.room ≤ room → IsEngine tells seen now leaves faults old → IsEngine tells seen now leaves faults (record old { log = record old.log { room = room } })
with_room tells seen now leaves faults old room more e = record {
  logged = record {
    run = e.logged.run;
    all = e.logged.all;
    count = e.logged.count;
    begins = e.logged.begins;
    stands = e.logged.stands;
    keeps = λ rules first is plan. e.logged.keeps rules first (record { closed = is.closed; opens = is.opens; holds = is.holds }) plan;
    names = e.logged.names;
    framed = e.logged.framed;
    durable = e.logged.durable;
    acknowledged = e.logged.acknowledged;
  };
  home = λ journal at. let h = e.home journal at in record { opens = h.opens; others = h.others; later = h.later; known = h.known; rose = h.rose; images = h.images };
  others = e.others;
  lent = e.lent;
  whole = e.whole;
  stops = e.stops;
  ready = record { room = (let low = e.ready.room in omega arith); apart = e.ready.apart; spelled = e.ready.spelled; shelved = e.ready.shelved; named = e.ready.named };
  placed = e.placed;
}

-- the log and a REPLICATE more
pub begun_log : (core : Core) (records : List Entry) (places : List (ℕ × ℕ)) (run : List Entry) (s i ts m place : ℕ) (ops : List RowOp) → core.c < ts → IsFramed (Replicate ts ops)
    → place ≡ suc (length (records ++ run)) → list_any (λ t. t == s) (map (λ p. p.0) places) ≡ false → LogStands core records places run → LogStands (begun core s i ts m ops) records (places ++ (s, place) ∷ []) (run ++ Replicate ts ops ∷ [])
begun_log core records places run s i ts m place ops above framed at rests k =
    let log = records ++ run in
    let more : last_of log < ts = (let low = k.last in omega arith) in
    let joined : log ++ Replicate ts ops ∷ [] ≡ records ++ (run ++ Replicate ts ops ∷ []) = append_assoc records run (Replicate ts ops ∷ []) in
    let up : 0 < ts = omega arith in
    let whole : IsLog (log ++ Replicate ts ops ∷ []) = order_more [] log (Replicate ts ops) k.log framed (above_log [] log ts refl more) in
    let fly : All (Waits (log ++ Replicate ts ops ∷ []) (places ++ (s, place) ∷ [])) (core.aloft ++ record { s = s; i = i; ts = ts; ops = ops; applied = 0 } ∷ []) = all_more (Waits (log ++ Replicate ts ops ∷ []) (places ++ (s, place) ∷ [])) core.aloft (record { s = s; i = i; ts = ts; ops = ops; applied = 0 })
    (all_each (Waits log places) (Waits (log ++ Replicate ts ops ∷ []) (places ++ (s, place) ∷ [])) core.aloft (λ w. waits_on log places w ts ops (s, place) more) k.flying)
    (record {
      up = up;
      waits = ap (waiting ts) (newest-append [] log (Replicate ts ops)) ∙ ap (λ b. cond b (Some (length ops)) (waiting ts (newest_first [] log))) (same ts);
      ops = ops_of-new ts log ops more;
      n = length log;
      place = ap (λ n. place_at s (places ++ (s, n) ∷ [])) at ∙ place-new s places (suc (length log)) rests ∙ refl;
      there = get_end log (Replicate ts ops);
    }) in
    record {
      log = subst (λ (l : List Entry). IsLog l) joined whole;
      since = omega (arith, k.since);
      last = subst (λ (l : List Entry). last_of l ≤ ts) joined (let e = last_of-replicate log ts ops in omega arith);
      flying = subst (λ (l : List Entry). All (Waits l (places ++ (s, place) ∷ [])) (core.aloft ++ record { s = s; i = i; ts = ts; ops = ops; applied = 0 } ∷ [])) joined fly;
      untold = subst (λ (l : List Entry). UntoldFly l (core.aloft ++ record { s = s; i = i; ts = ts; ops = ops; applied = 0 } ∷ [])) joined (untold_begun log core.aloft (record { s = s; i = i; ts = ts; ops = ops; applied = 0 }) ops k.untold);
    }

-- its keys are different ones
last_differs : (all xs : List Entry) (ts : ℕ) (ops : List RowOp) → AreWrites all (xs ++ Replicate ts ops ∷ []) → DifferentKeys ops
last_differs all [] ts ops w = w.0
last_differs all (Replicate t o ∷ xs) ts ops w = last_differs all xs ts ops w.2
last_differs all (Commit t rows ∷ xs) ts ops w = last_differs all xs ts ops w

-- and the run with it
pub begun_run : (rules : Rules) (core : Core) (super : Super) (names : List Target) (notes : List (List CommitRow)) (records : List Entry) (places : List (ℕ × ℕ)) (run : List Entry) (s i ts m : ℕ) (ops : List RowOp) (from : ℕ) (past : Past) → from ≤ core.c → core.c < ts → IsFramed (Replicate ts ops)
    → IfWrite (command_at core.work s i) (λ written. written ≡ ops) → PlanPasses rules core.work → All (λ (w : Aloft). share_key ops w.ops ≡ false) core.aloft → length notes ≡ length core.aloft
    → LogStands core records places run → KeepsFrom rules core super names notes records run from past → KeepsFrom rules (begun core s i ts m ops) super names (notes ++ [] ∷ []) records (run ++ Replicate ts ops ∷ []) from past
begun_run rules core super names notes records places run s i ts m ops from past since above framed is plan apart noted log k =
    let fill = core.work.fill in
    let all = records ++ run in
    let last : last_of run ≤ core.c = (let parts = last_of-append records run in let low = log.last in omega arith) in
    let low : low_after from run < ts = (let le = low_below from core.c run since last in omega arith) in
    let more : last_of all < ts = (let le = log.last in omega arith) in
    let whole : IsLog (all ++ Replicate ts ops ∷ []) = order_more [] all (Replicate ts ops) log.log framed (above_log [] all ts refl more) in
    let keys : DifferentKeys ops = last_differs (all ++ Replicate ts ops ∷ []) all ts ops (writes_have_rows (all ++ Replicate ts ops ∷ []) whole) in
    let passes : OpsPass rules fill ops = subst (OpsPass rules fill) (of_write (command_at core.work s i) (λ written. written ≡ ops) is) (plan s i) in
    let told = keys_told all places core.aloft ops log.log log.flying log.untold apart in
    let w : Aloft = record { s = s; i = i; ts = ts; ops = ops; applied = 0 } in
    let longer : IsLog (records ++ (run ++ Replicate ts ops ∷ [])) = subst (λ (l : List Entry). IsLog l) (append_assoc records run (Replicate ts ops ∷ [])) whole in
    record {
      recovered = replicate_recovered rules fill super records run from past ts ops k.recovered low keys told passes;
      writes = with_records-append fill past run (Replicate ts ops ∷ []) ∙ ap (λ p. with_ops fill p ts ops) k.writes ∙ sym (past_begun core s i ts m ops is);
      numbers = k.numbers;
      stands = subst (λ (ns : List Named). SuperStands rules fill super records (run ++ Replicate ts ops ∷ []) past (record { last = ts; named = ns; stores = λ q. by_name names (hists q core.stores); names = map name_of names; numbers = k.numbers }))
          (sym (named_begun core.aloft notes w noted refl)) (begin_keeps rules fill super records run past (resident core names notes k.numbers) ts ops longer k.stands above keys told passes);
    }

-- a write begins, in the room that was made for it
pub with_begun : {L D C : Type 0} (tells : Bool) (seen : L → Files) (now : L → ℕ) (leaves : L → ℕ → Files → Type 0) (faults : L → ℕ) (old : EngineView L D C) (s i ts m place : ℕ) (ops : List RowOp) (new : View C) → IsEngine tells seen now leaves faults old
    → old.tablet.core.stopped ≡ false → MayBegin old.tablet.core s i ops → holder_of old.tablet.core ops ≡ None → WriteKeeps ops → ts ≡ next_timestamp old.tablet.core.c m → ts < 2 ^ 64 → length old.tablet.core.aloft + 2 ≤ old.log.room
    → place ≡ old.log.known.count + length old.log.out + length old.log.queued + 1 → length old.tablet.notes ≡ length old.tablet.core.aloft
    → IsEngine tells seen now leaves faults (record old { tablet = record old.tablet { core = begun old.tablet.core s i ts m ops; clock = new.clock; notes = old.tablet.notes ++ [] ∷ []; places = old.tablet.places ++ (s, place) ∷ []; pool = new.pool }; log = record old.log { queued = old.log.queued ++ Replicate ts ops ∷ []; room = old.log.room - 1 } })
with_begun tells seen now leaves faults old s i ts m place ops new e goes may free keeps next fits room at noted =
    let core = old.tablet.core in
    let above : core.c < ts = omega arith in
    let framed : IsFramed (Replicate ts ops) = record { keeps = record { ts = fits; count = keeps.count; ops = keeps.each }; short = keeps.short ts } in
    let parts = length-append old.log.out old.log.queued in
    let there : place ≡ suc (length (old.records ++ e.logged.run)) = (let n = e.logged.count in omega arith) in
    let rests : list_any (λ t. t == s) (map (λ p. p.0) old.tablet.places) ≡ false = ap (list_any (λ t. t == s)) e.placed ∙ sym (any_session s core.aloft) ∙ may.at.rests in
    let known = e.logged.stands in
    let low : All (λ (v : Aloft). v.ts < ts) core.aloft = all_each (Waits (old.records ++ e.logged.run) old.tablet.places) (λ v. v.ts < ts) core.aloft (λ v h. let b = below_last (old.records ++ e.logged.run) h.n v.ts v.ops h.there in let l = known.last in omega arith) known.flying in
    record {
      logged = record {
        run = e.logged.run ++ Replicate ts ops ∷ [];
        all = λ t. all_parts old.records e.logged.run (records_of (seen old.log.known.disk)) old.log.out old.log.queued (Replicate ts ops) (e.logged.all t);
        count = count_parts old.records e.logged.run old.log.out old.log.queued (Replicate ts ops) old.log.known.count e.logged.count;
        begins = e.logged.begins;
        stands = begun_log core old.records old.tablet.places e.logged.run s i ts m place ops above framed there rests known;
        keeps = λ rules first is plan none. let before : IsContent rules old first = record { closed = is.closed; opens = is.opens; holds = is.holds } in
            begun_run rules (core_from old first) old.super old.tablet.names old.tablet.notes old.records old.tablet.places e.logged.run s i ts m ops core.opened first known.since above framed may.write plan (none_holds ops core.aloft free) noted
            (record { log = known.log; since = known.since; last = known.last; flying = known.flying; untold = known.untold }) (e.logged.keeps rules first before plan none);
        names = λ none. all_more (NamesOnly old.tablet.names) e.logged.run (Replicate ts ops) (e.logged.names none) tt;
        framed = framed_parts old.log.out old.log.queued (Replicate ts ops) e.logged.framed framed;
        durable = λ t. all_more (IsDurable (records_of (seen old.log.known.disk))) core.aloft (record { s = s; i = i; ts = ts; ops = ops; applied = 0 }) (e.logged.durable t) (λ lt. absurd (omega arith));
        acknowledged = λ t. acknowledged_more (records_of (seen old.log.known.disk)) core.trail (Begin s i ts m) (e.logged.acknowledged t) tt;
      };
      home = λ journal at. let h = e.home journal at in record { opens = h.opens; others = h.others; later = h.later; known = h.known; rose = h.rose; images = h.images };
      others = e.others;
      lent = e.lent;
      whole = e.whole;
      stops = stop_line core (begun core s i ts m ops) (Begin s i ts m) e.stops goes (λ is. let no : Begin s i ts m ≡ Stop = is in cc) refl refl;
      ready = record {
        room =
            let a = length-append core.aloft (record { s = s; i = i; ts = ts; ops = ops; applied = 0 } ∷ []) in
            omega arith;
        apart = apart_more core.aloft (record { s = s; i = i; ts = ts; ops = ops; applied = 0 }) e.ready.apart low;
        spelled = e.ready.spelled;
        shelved = e.ready.shelved;
        named = e.ready.named;
      };
      placed = map-append (λ p. p.0) old.tablet.places ((s, place) ∷ []) ∙ ap (λ l. l ++ s ∷ []) e.placed ∙ sym (map-append (λ w. w.s) core.aloft (record { s = s; i = i; ts = ts; ops = ops; applied = 0 } ∷ []));
    }

-- the engine with this log, where only room was made
pub roomed : {L D C : Type 0} (tells : Bool) (seen : L → Files) (now : L → ℕ) (leaves : L → ℕ → Files → Type 0) (faults : L → ℕ) (old : EngineView L D C) (log : SideView L) → log ≡ record old.log { room = log.room } → old.log.room ≤ log.room
    → IsEngine tells seen now leaves faults old → IsEngine tells seen now leaves faults (record old { log = log })
roomed {L} {D} {C} tells seen now leaves faults old log is more e =
    subst (λ (l : SideView L). IsEngine tells seen now leaves faults (record old { log = l })) (sym is) (with_room tells seen now leaves faults old log.room more e)

-- and this tablet, which is as it was
pub roomed_on : {L D C : Type 0} (tells : Bool) (seen : L → Files) (now : L → ℕ) (leaves : L → ℕ → Files → Type 0) (faults : L → ℕ) (old : EngineView L D C) (tablet : View C) (log : SideView L) → tablet ≡ old.tablet → log ≡ record old.log { room = log.room } → old.log.room ≤ log.room
    → IsEngine tells seen now leaves faults old → IsEngine tells seen now leaves faults (record old { tablet = tablet; log = log })
roomed_on {L} {D} {C} tells seen now leaves faults old tablet log same is more e =
    subst (λ (t : View C). IsEngine tells seen now leaves faults (record old { tablet = t; log = log })) (sym same) (roomed tells seen now leaves faults old log is more e)

-- a write of the plan keeps its rules
write_kept : (i : ℕ) (ops : List RowOp) (o : Option Command) → IfWrite o (λ written. written ≡ ops) → ((command : Command) → o ≡ Some command → (i + 1 < 2 ^ 32) × CommandKeeps command) → WriteKeeps ops
write_kept i ops None is keeps = absurd is
write_kept i ops (Some (command.Write w)) is keeps = subst WriteKeeps is (keeps (command.Write w) refl).1
write_kept i ops (Some (command.Scan scan)) is keeps = absurd is
write_kept i ops (Some (command.Mark t)) is keeps = absurd is
write_kept i ops (Some (command.Chore chore)) is keeps = absurd is

pub plan_kept : (core : Core) (s i : ℕ) (ops : List RowOp) → PlanKeeps core.work → MayBegin core s i ops → WriteKeeps ops
plan_kept core s i ops keeps may = write_kept i ops (command_at core.work s i) may.write (keeps s i)

pub may_on : {C : Type 0} (old tablet : View C) (s i : ℕ) (ops : List RowOp) → tablet ≡ old → MayBegin old.core s i ops → MayBegin tablet.core s i ops
may_on {C} old tablet s i ops same may = subst (λ (t : View C). MayBegin t.core s i ops) (sym same) may

-- a write that does not begin
pub left_alone : {C T : Type 0} (P : View C → Type 0) (old tablet : View C) (s i : ℕ) (r : Result T BeginNo) (why : BeginNo)
    → r ≡ Err why → (old.core.stopped ≡ true → r ≡ Err no.Stopped) → tablet ≡ record old { core = tablet.core } → Leaves old tablet s i why → KeepsLines P old → P tablet
left_alone {C} P old tablet s i r no.Stopped was stops beside h is = subst P (sym h) is.0
left_alone {C} P old tablet s i r (no.Large n) was stops beside h is =
    answer_keeps P old tablet s i (Large s i n) is (goes_still old.core.stopped r no.Stopped stops (λ k. let other : no.Large n ≡ no.Stopped = err_is (no.Large n) no.Stopped r was k in cc)) tt (λ e. let other : Large s i n ≡ Stop = e in cc)
    (beside ∙ ap (λ (k : Core). record old { core = k }) h)
left_alone {C} P old tablet s i r (no.Wait ts) was stops beside h is = subst P (sym h) is.0
left_alone {C} P old tablet s i r (no.Room n left) was stops beside h is = subst P (sym h) is.0
left_alone {C} P old tablet s i r no.Memory was stops beside h is = subst P (sym h) is.0

-- a write that has begun, with a copy of its operations in the tablet and one in the log
pub has_begun : {L D C : Type 0} (tells : Bool) (seen : L → Files) (now : L → ℕ) (leaves : L → ℕ → Files → Type 0) (faults : L → ℕ) (old : EngineView L D C) (tablet : View C) (log : SideView L) (s i ts place : ℕ) (ops held logged : List RowOp)
    → held ≡ ops → logged ≡ ops → tablet ≡ record old.tablet { core = tablet.core; clock = tablet.clock; notes = tablet.notes; places = tablet.places; pool = tablet.pool } → tablet.notes ≡ old.tablet.notes ++ [] ∷ [] → tablet.places ≡ old.tablet.places ++ (s, place) ∷ []
    → HasBegun old.tablet.core tablet.core s i held ts → log ≡ record old.log { queued = old.log.queued ++ Replicate ts logged ∷ []; room = old.log.room - 1 }
    → old.tablet.core.stopped ≡ false → MayBegin old.tablet.core s i ops → holder_of old.tablet.core ops ≡ None → WriteKeeps ops → ts < 2 ^ 64 → length old.tablet.core.aloft + 2 ≤ old.log.room → place ≡ old.log.known.count + length old.log.out + length old.log.queued + 1
    → length old.tablet.notes ≡ length old.tablet.core.aloft → IsEngine tells seen now leaves faults old → IsEngine tells seen now leaves faults (record old { tablet = tablet; log = log })
has_begun {L} {D} {C} tells seen now leaves faults old tablet log s i ts place ops held logged same_held same_logged beside is_notes is_places begins is_log goes may free keeps fits room at noted e =
    let is_core : tablet.core ≡ begun old.tablet.core s i ts begins.m ops = begins.core ∙ ap (λ (o : List RowOp). begun old.tablet.core s i ts begins.m o) same_held in
    let is_tablet : tablet ≡ record old.tablet { core = begun old.tablet.core s i ts begins.m ops; clock = tablet.clock; notes = old.tablet.notes ++ [] ∷ []; places = old.tablet.places ++ (s, place) ∷ []; pool = tablet.pool } =
    beside ∙ ap (λ (k : Core). record old.tablet { core = k; clock = tablet.clock; notes = tablet.notes; places = tablet.places; pool = tablet.pool }) is_core
    ∙ ap (λ (ns : List (List CommitRow)). record old.tablet { core = begun old.tablet.core s i ts begins.m ops; clock = tablet.clock; notes = ns; places = tablet.places; pool = tablet.pool }) is_notes
    ∙ ap (λ (ps : List (ℕ × ℕ)). record old.tablet { core = begun old.tablet.core s i ts begins.m ops; clock = tablet.clock; notes = old.tablet.notes ++ [] ∷ []; places = ps; pool = tablet.pool }) is_places in
    let is_log' : log ≡ record old.log { queued = old.log.queued ++ Replicate ts ops ∷ []; room = old.log.room - 1 } = is_log ∙ ap (λ (o : List RowOp). record old.log { queued = old.log.queued ++ Replicate ts o ∷ []; room = old.log.room - 1 }) same_logged in
    subst (λ (t : View C). IsEngine tells seen now leaves faults (record old { tablet = t; log = log })) (sym is_tablet)
    (subst (λ (l : SideView L). IsEngine tells seen now leaves faults (record old { tablet = record old.tablet { core = begun old.tablet.core s i ts begins.m ops; clock = tablet.clock; notes = old.tablet.notes ++ [] ∷ []; places = old.tablet.places ++ (s, place) ∷ []; pool = tablet.pool }; log = l })) (sym is_log')
    (with_begun tells seen now leaves faults old s i ts begins.m place ops tablet e goes may free keeps begins.time fits room at noted))
