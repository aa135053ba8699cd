-- The life of a write keeps the store of an engine.
use Rattle.std.proofs.Common.{◌≡◌, ℕ, suc, ◌+◌, ◌-◌, ◌<◌, ◌^◌, Bool, false, List, [], ◌∷◌, ◌++◌, length, map, Option, None, Some, refl, sym, ap, ◌∙◌, subst, arith, inl, length-append}
use Rattle.std.specs.Prelude.{◌==◌, not, IfOk, OnErr, Result, Ok, Err}
use Rattle.std.specs.List.{list_any, find, filter}
use Rattle.kt_disk.specs.Disk.{Files}
use Rattle.kt_history.specs.declared.change.Change.{Change}
use Rattle.kt_history.specs.declared.change.Outcome.{Outcome}
use Rattle.kt_history.specs.declared.operation.RowOp.{RowOp}
use Rattle.kt_history.specs.History.{Past}
use Rattle.kt_history.specs.Machine.{next_timestamp}
use Rattle.kt_history.specs.Operations.{effect}
use Rattle.kt_history.specs.declared.event.Event.TheVariants as event
use Rattle.kt_records.specs.declared.entry.Entry.{Entry}
use Rattle.kt_records.specs.declared.entry.Entry.TheVariants.{Replicate, Commit}
use Rattle.kt_records.specs.declared.entry.CommitRow.{CommitRow}
use Rattle.kt_journal.specs.Order.{IsFramed}
use Rattle.kt_journal.specs.Log.{records_of}
use Rattle.kt_histlaws.specs.Core.{Core, Stands, live}
use Rattle.kt_histlaws.specs.Events.{advance, begun, ended, IsOver}
use Rattle.kt_histlaws.specs.Histories.{on_nth}
use Rattle.kt_histlaws.specs.Pending.{Aloft}
use Rattle.kt_content.specs.Flushes.{before}
use Rattle.kt_content.specs.RunEvents.{IsBelow}
use Rattle.kt_stores.specs.Shelf.{place_of}
use Rattle.kt_tablet.specs.Plans.{WriteKeeps}
use Rattle.kt_tablet.specs.Rows.{AreRecorded}
use Rattle.kt_tablet.specs.Views.{View}
use Rattle.kt_loglaws.specs.Side.{SideView}
use Rattle.kt_tablet.specs.declared.tablet.Stopped.{Stopped}
use Rattle.kt_tablet.specs.Visits.{MayBegin, HasBegun, holder_of, HasApplied, HasNoted, IsRunOutcome, MayEnd, HasEnded, IsWritten, HasHandedOut}
use Rattle.kt_engine.specs.Logged.{Waits}
use Rattle.kt_engine.specs.Engines.{EngineView, IsFound, IsEngine, core_from}
use Rattle.kt_engine.specs.Near.{first_number}
use Rattle.kt_engine.specs.Over.{AreLeft, over_at}
use Rattle.kt_engine.specs.Stored.{IsStored, over, core_at, names_at, numbers_of}
use Rattle.kt_histlaws.proofs.Applied.{applies}
use Rattle.kt_engine.proofs.Applied.{noted_here, keys_under, pushed_is}
use Rattle.kt_engine.proofs.Begun.{begun_log}
use Rattle.kt_engine.proofs.Commits.{recorded_count, commit_names}
use Rattle.kt_engine.proofs.Ended.{own_framed, own_commit, each_below, rows_below, ended_log, at_its_place}
use Rattle.kt_engine.proofs.Near.{near_replicate, near_commit}
use Rattle.kt_engine.proofs.Lists.{all_at, all_found, found_passes}
use Rattle.kt_engine.proofs.Marks.{still_mark}
use Rattle.kt_engine.proofs.Places.{advanced_all, any_session, is_session, others_apart, over_found}
use Rattle.kt_engine.proofs.Records.{all_parts, count_parts}
use Rattle.kt_engine.proofs.Stored.{to_plain, of_plain, plain, none_publishes, job_more, begun_since, applied_since, ended_since}
use Rattle.kt_engine.proofs.JobBegins.{drop_first}
use Rattle.kt_engine.proofs.Jobs.{low_shelved}
use Rattle.kt_engine.proofs.LaterRows.{row_alone, row_there, plain_change, named_low}
use Rattle.kt_engine.proofs.Outside.{IsChanged, outside_begun, outside_ended, outside_applied}
use Rattle.kt_engine.proofs.Rising.{below_more}
use Rattle.kt_engine.proofs.Waiting.{none_holds, untold_advanced}

module _ {L D C : Type 0} (log_tells : Bool) (log_seen : L → Files) (log_now : L → ℕ) (log_leaves : L → ℕ → Files → Type 0) (log_faults : L → ℕ) (tells : Bool) (seen : D → Files) (faults : D → ℕ) (old : EngineView L D C)
    (e : IsEngine log_tells log_seen log_now log_leaves log_faults old) (is : IsStored log_tells log_seen tells seen faults old) where
  -- a write begins, as in with_begun
  pub begun_stored : (s i ts m place : ℕ) (ops : List RowOp) (new : View C) → old.upkeep.publishing ≡ None → MayBegin old.tablet.core s i ops → holder_of old.tablet.core ops ≡ None → WriteKeeps ops → ts ≡ next_timestamp old.tablet.core.c m → ts < 2 ^ 64
      → place ≡ old.log.known.count + length old.log.out + length old.log.queued + 1 → length old.tablet.notes ≡ length old.tablet.core.aloft
      → IsStored log_tells log_seen tells seen faults (record old { tablet = record old.tablet { core = begun old.tablet.core s i ts m ops; clock = new.clock; notes = old.tablet.notes ++ [] ∷ []; places = old.tablet.places ++ (s, place) ∷ []; pool = new.pool }; log = record old.log { queued = old.log.queued ++ Replicate ts ops ∷ []; room = old.log.room - 1 } })
  begun_stored s i ts m place ops new none may free keeps next fits at noted =
      let core = old.tablet.core in
      let above : core.c < ts = omega arith in
      let framed : IsFramed (Replicate ts ops) = record { keeps = record { ts = fits; count = keeps.count; ops = keeps.each }; short = keeps.short ts } in
      let parts = length-append old.log.out old.log.queued in
      let there : place ≡ suc (length (old.records ++ is.run)) = (let n = is.count in omega arith) in
      let rests : list_any (λ t. t == s) (map (λ p. p.0) old.tablet.places) ≡ false = ap (list_any (λ t. t == s)) e.placed ∙ sym (any_session s core.aloft) ∙ may.at.rests in
      record {
        run = is.run ++ Replicate ts ops ∷ [];
        all = λ t. all_parts old.records is.run (records_of (log_seen old.log.known.disk)) old.log.out old.log.queued (Replicate ts ops) (is.all t);
        count = count_parts old.records is.run old.log.out old.log.queued (Replicate ts ops) old.log.known.count is.count;
        stands = begun_log core old.records old.tablet.places is.run s i ts m place ops above framed there rests is.stands;
        keeps = λ rules first h plan t super one.
            begun_since rules (core_at old one.meta (core_from old first)) super (names_at old one.meta) old.tablet.notes old.records old.tablet.places is.run old.log.known.count s i ts m ops above framed may.write plan (none_holds ops core.aloft free) noted
            (record { log = is.stands.log; since = is.stands.since; last = is.stands.last; flying = is.stands.flying; untold = is.stands.untold })
            (is.keeps rules first (record { closed = h.closed; opens = h.opens; holds = h.holds }) plan t super one);
        below = below_more (numbers_of old) old.records is.run (Replicate ts ops) is.below tt;
        names_below = is.names_below;
        near = near_replicate old.found old.tablet.names old.first_rowset old.store.next_rowset old.upkeep.begun is.run ts ops is.near;
        files_near = is.files_near;
        room = is.room;
        rests = inl none;
        jobs = λ n job has. job_more old.records is.run (Replicate ts ops) job (is.jobs n job has);
        outside = λ n job has at. outside_begun old.tablet old.store.meta old.store.lent old.upkeep old.records is.run job (is.outside n job has at) s i ts m place ops new above;
        holds = is.holds;
        files = is.files;
        columns = is.columns;
        mark = still_mark old.tablet.mark core.trail (event.Begin s i ts m) core.a is.mark;
        marked = λ meta one. still_mark old.tablet.mark core.trail (event.Begin s i ts m) meta.a (is.marked meta one);
        clock = λ meta one. (let low = is.clock meta one in omega arith);
        low = λ meta one. is.low meta one;
        later = is.later;
        home = is.home;
      }

  -- it ends, as in with_ended
  pub ended_stored : (s i : ℕ) (f : Aloft) (outcomes : List Outcome) (rows : List CommitRow) (tablet : View C) → find (λ w. w.s == s) old.tablet.core.aloft ≡ Some f → IsOver s old.tablet.core.aloft → length outcomes ≡ length f.ops
      → AreRecorded old.tablet.names outcomes rows → HasHandedOut old.tablet tablet s rows
      → IsStored log_tells log_seen tells seen faults (record old { tablet = record old.tablet { core = ended old.tablet.core s i f.ts; notes = tablet.notes; places = filter (λ p. not (p.0 == s)) old.tablet.places }; log = record old.log { queued = old.log.queued ++ Commit f.ts rows ∷ []; room = old.log.room - 1 } })
  ended_stored s i f outcomes rows tablet flies is_over each are handed =
      let core = old.tablet.core in
      let none = none_publishes old (λ w. w.s == s) f flies is.rests in
      let k = is.stands in
      let framed = own_framed core old.records old.tablet.places is.run s f flies k in
      let commit = own_commit old.tablet.names e.ready.spelled f outcomes rows are each framed in
      let count : length rows ≡ length f.ops = recorded_count old.tablet.names outcomes rows are ∙ each in
      let apart = others_apart s core.aloft f flies e.ready.apart in
      let own : f.s ≡ s = is_session f.s s (found_passes (λ w. w.s == s) core.aloft f flies) in
      let at = at_its_place old.tablet tablet (old.records ++ is.run) s f rows k.flying e.ready.apart flies handed in
      let stands = ended_log core old.records old.tablet.places is.run s i f rows flies count commit apart k in
      record {
        run = is.run ++ Commit f.ts rows ∷ [];
        all = λ t. all_parts old.records is.run (records_of (log_seen old.log.known.disk)) old.log.out old.log.queued (Commit f.ts rows) (is.all t);
        count = count_parts old.records is.run old.log.out old.log.queued (Commit f.ts rows) old.log.known.count is.count;
        stands = stands;
        keeps = λ rules first h plan t super one.
            of_plain rules (ended (core_from old first) s i f.ts) super old.tablet.names tablet.notes old.records (is.run ++ Commit f.ts rows ∷ []) old.log.known.count old.tablet.frozen (over_at one.meta.number (over old)) (plain old none one.meta)
            (ended_since rules (core_from old first) super old.tablet.names old.tablet.notes tablet.notes old.records old.tablet.places is.run old.log.known.count s i handed.j f outcomes rows stands.log
            (record { log = k.log; since = k.since; last = k.last; flying = k.flying; untold = k.untold }) e.ready.apart at own (over_found s core.aloft f flies is_over) handed.rows_are handed.notes are
            (to_plain rules (core_from old first) super old.tablet.names old.tablet.notes old.records is.run old.log.known.count old.tablet.frozen (over_at one.meta.number (over old)) (plain old none one.meta)
            (is.keeps rules first (record { closed = h.closed; opens = h.opens; holds = h.holds }) plan t super one)));
        below = below_more (numbers_of old) old.records is.run (Commit f.ts rows) is.below (rows_below (numbers_of old) old.tablet.names outcomes rows (each_below (numbers_of old) old.tablet.names is.names_below) are, tt);
        names_below = is.names_below;
        near = near_commit old.found old.tablet.names old.first_rowset old.store.next_rowset old.upkeep.begun is.run f.ts rows (commit_names old.tablet.names f.ts outcomes rows are) is.near;
        files_near = is.files_near;
        room = is.room;
        rests = inl none;
        jobs = λ n job has. job_more old.records is.run (Commit f.ts rows) job (is.jobs n job has);
        outside = λ n job has at. outside_ended old.tablet old.store.meta old.store.lent old.upkeep old.records is.run job (is.outside n job has at) s i f.ts handed.j rows tablet.notes (filter (λ p. not (p.0 == s)) old.tablet.places) handed.rows_are handed.notes;
        holds = is.holds;
        files = is.files;
        columns = is.columns;
        mark = still_mark old.tablet.mark core.trail (event.End s i f.ts) core.a is.mark;
        marked = λ meta one. still_mark old.tablet.mark core.trail (event.End s i f.ts) meta.a (is.marked meta one);
        clock = λ meta one. is.clock meta one;
        low = λ meta one. is.low meta one;
        later = is.later;
        home = is.home;
      }

  -- a row is applied, as in with_applied
  pub applied_stored : (s at : ℕ) (outcome : Outcome) (new : View C) → (h : HasApplied old.tablet.core new.core s at outcome) → HasNoted old.tablet new s at outcome → ((first : Past) → IsFound old first → IsRunOutcome (core_from old first) s at outcome)
      → ((first : Past) → IsFound old first → Stands (core_from old first)) → length old.tablet.names ≡ length old.tablet.core.stores → length old.tablet.notes ≡ length old.tablet.core.aloft
      → IsStored log_tells log_seen tells seen faults (record old { tablet = record old.tablet { core = record old.tablet.core { aloft = on_nth h.j advance old.tablet.core.aloft; stores = new.core.stores }; notes = new.notes; pool = new.pool } })
  applied_stored s at outcome new h note run_outcome stands stored noted =
      let core = old.tablet.core in
      let log = old.records ++ is.run in
      let known = is.stands in
      let here = noted_here old.tablet new log s at outcome known.flying e.ready.apart h note in
      let none = none_publishes old (λ w. w.s == s) h.flight h.flies is.rests in
      record {
        run = is.run;
        all = is.all;
        count = is.count;
        stands = record {
          log = known.log;
          since = known.since;
          last = known.last;
          flying = advanced_all (Waits log old.tablet.places) h.j core.aloft (λ w h. record { up = h.up; waits = h.waits; ops = h.ops; n = h.n; place = h.place; there = h.there }) known.flying;
          untold = untold_advanced log h.j core.aloft known.untold;
        };
        keeps = λ rules first found plan t super one.
            of_plain rules (record (core_from old first) { aloft = on_nth h.j advance core.aloft; stores = new.core.stores }) super old.tablet.names new.notes old.records is.run old.log.known.count old.tablet.frozen (over_at one.meta.number (over old)) (plain old none one.meta)
            (applied_since rules (core_from old first) super old.tablet.names old.tablet.notes new.notes old.records old.tablet.places is.run old.log.known.count (core_from (record old { tablet = new }) first) s at outcome (stands first found.opens)
            (record { log = known.log; since = known.since; last = known.last; flying = known.flying; untold = known.untold }) e.ready.apart stored noted h.j h.flight h.op h.flies h.next h.row
            (λ under. ap (λ (c : Core). record c { first = first }) (h.stores under)) (record { name = here.name; there = here.there; is = here.is }) (run_outcome first found.opens)
            (to_plain rules (core_from old first) super old.tablet.names old.tablet.notes old.records is.run old.log.known.count old.tablet.frozen (over_at one.meta.number (over old)) (plain old none one.meta)
            (is.keeps rules first (record { closed = found.closed; opens = found.opens; holds = found.holds }) plan t super one)));
        below = is.below;
        names_below = is.names_below;
        near = is.near;
        files_near = is.files_near;
        room = is.room;
        rests = inl none;
        jobs = is.jobs;
        outside = λ n job has out.
            outside_applied old.tablet old.store.meta old.store.lent old.upkeep old.records is.run job (is.outside n job has out) h.j (place_of h.op.key core.stores) h.flight.ts h.op its_change here.name outcome new.core.stores new.notes new.pool
            h.many changed here.is here.there (λ was.
            let low = low_shelved (suc old.tablet.frozen) (2 ^ 64) job.first_rowset old.tablet.names e.ready.shelved (subst (AreLeft job.first_rowset) (sym (drop_first old.tablet.frozen old.tablet.names)) was.left) in
            let below = named_low job.first_rowset (numbers_of old) old.tablet.names low is.names_below in (
              all_at (IsBelow (before job.first_rowset (first_number old.tablet.names))) old.tablet.names (place_of h.op.key core.stores) here.name here.there below,
              all_found (λ (w : Aloft). job.bound < w.ts) (λ w. w.s == s) core.aloft h.flight h.flies was.flies,
            ));
        holds = is.holds;
        files = is.files;
        columns = is.columns;
        mark = is.mark;
        marked = is.marked;
        clock = is.clock;
        low = is.low;
        later = is.later;
        home = is.home;
      }
    where
      its_change : Option Change
      its_change = (effect old.tablet.core.work.fill h.op.kind h.op.cells (live old.tablet.core.stores h.op.key h.flight.ts)).0

      -- what it changes, for each past that opening found
      changed : (first : Past) → IsFound old first → IsChanged old.tablet.core.work.fill old.tablet.core.stores new.core.stores (place_of h.op.key old.tablet.core.stores) h.flight.ts h.op its_change
      changed first found =
          let st = stands first found in
          let under = keys_under (core_from old first) st h.j h.flight.ts h.op h.next in
          let there = (noted_here old.tablet new (old.records ++ is.run) s at outcome is.stands.flying e.ready.apart h note).there in
          let above = (applies (core_from old first) st h.j h.flight.ts h.op h.next).above in
          let alone = row_alone h.op.key h.flight.ts old.tablet.names _ old.tablet.core.stores stored there under ((st.stores.same h.op.key).one_row h.flight.ts (omega arith)) in
          record {
            inside = alone.0;
            alone = alone.1;
            gives = refl;
            stores_are = pushed_is (core_from old first) st h.j h.flight.ts h.op h.next (core_from (record old { tablet = new }) first) (λ low. ap (λ (c : Core). record c { first = first }) (h.stores low));
            under = under;
            fit = λ k c behind is_change.
                let row = row_there h.op.key h.flight.ts k old.tablet.names _ old.tablet.core.stores behind stored there under in
                (plain_change old.tablet.core.work.fill h.op.kind h.op.cells (live old.tablet.core.stores h.op.key h.flight.ts) c row.0 is_change, row.1);
          }

  -- ---- the same, of what the tablet and the log tell of it

  as_told : (tablet : View C) (log : SideView L) (was : View C) (side : SideView L) → tablet ≡ was → log ≡ side → IsStored log_tells log_seen tells seen faults (record old { tablet = was; log = side }) → IsStored log_tells log_seen tells seen faults (record old { tablet = tablet; log = log })
  as_told tablet log was side is_tablet is_log h = subst (λ (t : View C). IsStored log_tells log_seen tells seen faults (record old { tablet = t; log = log })) (sym is_tablet)
      (subst (λ (l : SideView L). IsStored log_tells log_seen tells seen faults (record old { tablet = was; log = l })) (sym is_log) h)

  pub has_begun_stored : (tablet : View C) (log : SideView L) (s i ts place : ℕ) (ops held logged : List RowOp) → old.upkeep.publishing ≡ None → held ≡ ops → logged ≡ ops
      → tablet ≡ record old.tablet { core = tablet.core; clock = tablet.clock; notes = tablet.notes; places = tablet.places; pool = tablet.pool } → tablet.notes ≡ old.tablet.notes ++ [] ∷ [] → tablet.places ≡ old.tablet.places ++ (s, place) ∷ []
      → HasBegun old.tablet.core tablet.core s i held ts → log ≡ record old.log { queued = old.log.queued ++ Replicate ts logged ∷ []; room = old.log.room - 1 }
      → MayBegin old.tablet.core s i ops → holder_of old.tablet.core ops ≡ None → WriteKeeps ops → ts < 2 ^ 64 → place ≡ old.log.known.count + length old.log.out + length old.log.queued + 1
      → length old.tablet.notes ≡ length old.tablet.core.aloft → IsStored log_tells log_seen tells seen faults (record old { tablet = tablet; log = log })
  has_begun_stored tablet log s i ts place ops held logged none same_held same_logged beside is_notes is_places begins is_log may free keeps fits at noted =
      let is_core : tablet.core ≡ begun old.tablet.core s i ts begins.m ops = begins.core ∙ ap (λ (o : List RowOp). begun old.tablet.core s i ts begins.m o) same_held in
      let is_tablet : tablet ≡ record old.tablet { core = begun old.tablet.core s i ts begins.m ops; clock = tablet.clock; notes = old.tablet.notes ++ [] ∷ []; places = old.tablet.places ++ (s, place) ∷ []; pool = tablet.pool } =
      beside ∙ ap (λ (k : Core). record old.tablet { core = k; clock = tablet.clock; notes = tablet.notes; places = tablet.places; pool = tablet.pool }) is_core
      ∙ ap (λ (ns : List (List CommitRow)). record old.tablet { core = begun old.tablet.core s i ts begins.m ops; clock = tablet.clock; notes = ns; places = tablet.places; pool = tablet.pool }) is_notes
      ∙ ap (λ (ps : List (ℕ × ℕ)). record old.tablet { core = begun old.tablet.core s i ts begins.m ops; clock = tablet.clock; notes = old.tablet.notes ++ [] ∷ []; places = ps; pool = tablet.pool }) is_places in
      let is_log' : log ≡ record old.log { queued = old.log.queued ++ Replicate ts ops ∷ []; room = old.log.room - 1 } = is_log ∙ ap (λ (o : List RowOp). record old.log { queued = old.log.queued ++ Replicate ts o ∷ []; room = old.log.room - 1 }) same_logged in
      as_told tablet log _ _ is_tablet is_log' (begun_stored s i ts begins.m place ops tablet none may free keeps begins.time fits at noted)

  pub has_ended_stored : (tablet : View C) (log : SideView L) (s i ts : ℕ) (outcomes : List Outcome) (rows : List CommitRow) → tablet ≡ record old.tablet { core = tablet.core; notes = tablet.notes; places = tablet.places }
      → tablet.places ≡ filter (λ p. not (p.0 == s)) old.tablet.places → HasEnded old.tablet.core tablet.core s i ts → log ≡ record old.log { queued = old.log.queued ++ Commit ts rows ∷ []; room = old.log.room - 1 }
      → MayEnd old.tablet.core s → IsWritten old.tablet.core old.tablet.names s outcomes rows → HasHandedOut old.tablet tablet s rows → IsStored log_tells log_seen tells seen faults (record old { tablet = tablet; log = log })
  has_ended_stored tablet log s i ts outcomes rows beside is_places h is_log may written handed =
      let core = old.tablet.core in
      let f = h.flight in
      let same : written.flight ≡ f = (let other = written.flies in let own = h.flies in cc) in
      let count : length outcomes ≡ length f.ops = written.count ∙ ap (λ (w : Aloft). length w.ops) same in
      let is_core : tablet.core ≡ ended core s i f.ts = h.core ∙ ap (λ t. ended core s i t) h.time in
      let is_tablet : tablet ≡ record old.tablet { core = ended core s i f.ts; notes = tablet.notes; places = filter (λ p. not (p.0 == s)) old.tablet.places } =
      beside ∙ ap (λ (k : Core). record old.tablet { core = k; notes = tablet.notes; places = tablet.places }) is_core ∙ ap (λ (ps : List (ℕ × ℕ)). record old.tablet { core = ended core s i f.ts; notes = tablet.notes; places = ps }) is_places in
      let is_log' : log ≡ record old.log { queued = old.log.queued ++ Commit f.ts rows ∷ []; room = old.log.room - 1 } = is_log ∙ ap (λ t. record old.log { queued = old.log.queued ++ Commit t rows ∷ []; room = old.log.room - 1 }) h.time in
      as_told tablet log _ _ is_tablet is_log' (ended_stored s i f outcomes rows tablet h.flies may.over count written.told handed)

  pub applied_or_not_stored : (tablet : View C) (s at : ℕ) (result : Result Outcome Stopped) → IfOk result (λ outcome. HasApplied old.tablet.core tablet.core s at outcome) → IfOk result (λ outcome. HasNoted old.tablet tablet s at outcome)
      → IfOk result (λ outcome. (first : Past) → IsFound old first → IsRunOutcome (core_from old first) s at outcome) → ((first : Past) → IsFound old first → Stands (core_from old first)) → length old.tablet.names ≡ length old.tablet.core.stores
      → length old.tablet.notes ≡ length old.tablet.core.aloft → tablet ≡ record old.tablet { core = tablet.core; notes = tablet.notes; pool = tablet.pool } → OnErr result (tablet ≡ old.tablet) → IsStored log_tells log_seen tells seen faults (record old { tablet = tablet })
  applied_or_not_stored tablet s at (Ok outcome) applies note run_outcome stands stored noted beside same =
      subst (λ (t : View C). IsStored log_tells log_seen tells seen faults (record old { tablet = t })) (sym (beside ∙ ap (λ (k : Core). record old.tablet { core = k; notes = tablet.notes; pool = tablet.pool }) applies.core)) (applied_stored s at outcome tablet applies note run_outcome stands stored noted)
  applied_or_not_stored tablet s at (Err why) applies note run_outcome stands stored noted beside same = subst (λ (t : View C). IsStored log_tells log_seen tells seen faults (record old { tablet = t })) (sym same) is
