-- What keeps the store of an engine: each event of the tablet and of the log, under each superblock that is published or lent.
use Rattle.std.proofs.Common.{◌≡◌, ℕ, ◌+◌, ◌-◌, ◌<◌, ◌≤◌, Bool, true, false, List, [], ◌∷◌, ◌++◌, length, Option, Some, None, refl, sym, ap, ◌∙◌, subst, arith, append_assoc, length-append, inl, inr}
use Rattle.std.specs.Prelude.{◌==◌, ◌⊎◌, IsTrue, drop, take, slice_get}
use Rattle.std.specs.List.{All, find, remove}
use Rattle.std.proofs.lemmas.List.{append-nil, take-append-le}
use Rattle.kt_disk.specs.Disk.{Files}
use Rattle.kt_history.specs.declared.change.Outcome.{Outcome}
use Rattle.kt_history.specs.declared.event.Event.{Event}
use Rattle.kt_history.specs.declared.event.Event.TheVariants as event
use Rattle.kt_history.specs.declared.operation.RowOp.{RowOp}
use Rattle.kt_history.specs.declared.target.Target.{Target}
use Rattle.kt_history.specs.Machine.{IfWrite, Turn, command_at, start, state_after}
use Rattle.kt_history.specs.Operations.{share_key}
use Rattle.kt_records.specs.declared.entry.Entry.{Entry}
use Rattle.kt_records.specs.declared.entry.Entry.TheVariants.{Replicate, Commit}
use Rattle.kt_records.specs.declared.entry.CommitRow.{CommitRow}
use Rattle.kt_journal.specs.Order.{IsFramed}
use Rattle.kt_journal.specs.Log.{records_of, IsLog}
use Rattle.kt_journal.specs.Open.{JournalView}
use Rattle.kt_loglaws.specs.Replay.{last_of}
use Rattle.kt_loglaws.specs.Fronts.{with_records, ops_of}
use Rattle.kt_loglaws.specs.Side.{SideView}
use Rattle.kt_histlaws.specs.Core.{Core, Stands, live}
use Rattle.kt_histlaws.specs.Events.{advance, IsNextOp, applied, begun, ended, halted}
use Rattle.kt_histlaws.specs.Flights.{AllUnder}
use Rattle.kt_histlaws.specs.Histories.{hists, on_nth}
use Rattle.kt_histlaws.specs.Pending.{Aloft}
use Rattle.kt_super.specs.declared.meta.Meta.{Meta}
use Rattle.kt_content.specs.Places.{Super}
use Rattle.kt_content.specs.Rules.{Rules}
use Rattle.kt_content.proofs.Keeping.{look_keeps as a_look_keeps}
use Rattle.kt_content.proofs.Rules.{pass_join}
use Rattle.kt_storeside.specs.Sides.{StoreView}
use Rattle.kt_tablet.specs.Rows.{AreRecorded}
use Rattle.kt_stores.specs.Shelf.{place_of}
use Rattle.kt_tablet.specs.Views.{View}
use Rattle.kt_tablet.specs.Visits.{IsRunOutcome}
use Rattle.kt_engine.specs.Memory.{resident}
use Rattle.kt_engine.specs.Logged.{PlanPasses, Waits, UntoldFly, LogStands, AreApart, KeepsSince, StoresPass}
use Rattle.kt_engine.specs.Engines.{EngineView, core_from}
use Rattle.kt_content.specs.RunEvents.{RecordsBelow}
use Rattle.kt_content.specs.Flushes.{before}
use Rattle.kt_engine.specs.Over.{Over, over_at, names_over, core_over}
use Rattle.kt_engine.specs.Jobs.{JobView, UpkeepsView, JobOn, job_of, over_by, over_in}
use Rattle.kt_engine.specs.Files.{AreFiled, publisher, job_at, files_over}
use Rattle.kt_engine.specs.Near.{AreNear}
use Rattle.kt_engine.specs.Stored.{IsOneOf, IsStored, AreOutside, over, core_at, names_at, files_at}
use Rattle.kt_engine.proofs.Filed.{none_at}
use Rattle.kt_engine.proofs.Outside.{outside_line}
use Rattle.kt_engine.proofs.Applied.{NotedHere, applied_run, pushed_is}
use Rattle.kt_engine.proofs.Begun.{begun_run}
use Rattle.kt_engine.proofs.Commits.{commit_names}
use Rattle.kt_engine.proofs.Deltas.{deltas_begun, deltas_ended}
use Rattle.kt_engine.proofs.Lists.{all_found}
use Rattle.kt_engine.proofs.Passed.{ops_pass, op_among, op_passes}
use Rattle.kt_engine.proofs.Ended.{ended_run}
use Rattle.kt_engine.proofs.Lines.{IsQuiet, with_line, past_after}
use Rattle.kt_engine.proofs.Marks.{MovesMark, still_mark, moved_mark}
use Rattle.kt_engine.proofs.Runs.{past_line}

-- ---- a log, taken apart where a superblock was made

module _ (core : Core) (records since rest run : List Entry) (parts : run ≡ since ++ rest) where
  pub same_log : records ++ run ≡ (records ++ since) ++ rest
  same_log = ap (λ (l : List Entry). records ++ l) parts ∙ sym (append_assoc records since rest)

  pub parts_stand : (places : List (ℕ × ℕ)) → LogStands core records places run → LogStands core (records ++ since) places rest
  parts_stand places s = record {
    log = subst (λ (l : List Entry). IsLog l) same_log s.log;
    since = s.since;
    last = subst (λ (l : List Entry). last_of l ≤ core.c) same_log s.last;
    flying = subst (λ (l : List Entry). All (Waits l places) core.aloft) same_log s.flying;
    untold = subst (λ (l : List Entry). UntoldFly l core.aloft) same_log s.untold;
  }

  pub parts_more : (e : Entry) → run ++ e ∷ [] ≡ since ++ (rest ++ e ∷ [])
  parts_more e = ap (λ (l : List Entry). l ++ e ∷ []) parts ∙ append_assoc since rest (e ∷ [])

-- ---- each event, under one superblock

-- more records are durable
pub more_durable : {rules : Rules} {core : Core} {super : Super} {names : List Target} {notes : List (List CommitRow)} {records run : List Entry} (n m : ℕ) → n ≤ m → KeepsSince rules core super names notes records run n → KeepsSince rules core super names notes records run m
more_durable n m le k = record { since = k.since; rest = k.rest; parts = k.parts; made = (let d = k.made in omega arith); opened = k.opened; low = k.low; from = k.from; up = k.up; last = k.last; mark = k.mark; clock = k.clock; named = k.named; deltas = k.deltas; passes = k.passes; keeps = k.keeps }

-- a write begins
pub begun_since : (rules : Rules) (core : Core) (super : Super) (names : List Target) (notes : List (List CommitRow)) (records : List Entry) (places : List (ℕ × ℕ)) (run : List Entry) (durable s i ts m : ℕ) (ops : List RowOp)
    → core.c < ts → IsFramed (Replicate ts ops) → IfWrite (command_at core.work s i) (λ written. written ≡ ops) → PlanPasses rules core.work → All (λ (w : Aloft). share_key ops w.ops ≡ false) core.aloft → length notes ≡ length core.aloft
    → LogStands core records places run → KeepsSince rules core super names notes records run durable → KeepsSince rules (begun core s i ts m ops) super names (notes ++ [] ∷ []) records (run ++ Replicate ts ops ∷ []) durable
begun_since rules core super names notes records places run durable s i ts m ops above framed is plan apart noted log k = record {
  since = k.since;
  rest = k.rest ++ Replicate ts ops ∷ [];
  parts = parts_more core records k.since k.rest run k.parts (Replicate ts ops);
  made = k.made;
  opened = k.opened;
  low = k.low;
  from = k.from;
  up = (let u = k.up in omega arith);
  last = k.last;
  mark = k.mark;
  clock = (let u = k.clock in omega arith);
  named = k.named;
  deltas = deltas_begun names records run ts ops k.deltas;
  passes = k.passes;
  keeps = begun_run rules core super names notes (records ++ k.since) places k.rest s i ts m ops k.low (with_records core.work.fill core.first k.since) k.up above framed is plan apart noted
      (parts_stand core records k.since k.rest run k.parts places log) k.keeps;
}

-- a write ends
pub ended_since : (rules : Rules) (core : Core) (super : Super) (names : List Target) (notes later : List (List CommitRow)) (records : List Entry) (places : List (ℕ × ℕ)) (run : List Entry) (durable s i j : ℕ) (f : Aloft) (outcomes : List Outcome) (rows : List CommitRow)
    → IsLog (records ++ (run ++ Commit f.ts rows ∷ [])) → LogStands core records places run → AreApart core.aloft → slice_get core.aloft j ≡ Some f → f.s ≡ s → drop f.applied f.ops ≡ []
    → slice_get notes j ≡ Some rows → later ≡ remove notes j → AreRecorded names outcomes rows
    → KeepsSince rules core super names notes records run durable → KeepsSince rules (ended core s i f.ts) super names later records (run ++ Commit f.ts rows ∷ []) durable
ended_since rules core super names notes later records places run durable s i j f outcomes rows log stands apart at own over here later_is are k =
    let more = parts_more core records k.since k.rest run k.parts (Commit f.ts rows) in
    let longer : IsLog ((records ++ k.since) ++ (k.rest ++ Commit f.ts rows ∷ [])) = subst (λ (l : List Entry). IsLog l) (same_log core records k.since (k.rest ++ Commit f.ts rows ∷ []) (run ++ Commit f.ts rows ∷ []) more) log in
    record {
      since = k.since;
      rest = k.rest ++ Commit f.ts rows ∷ [];
      parts = more;
      made = k.made;
      opened = k.opened;
      low = k.low;
      from = k.from;
      up = k.up;
      last = k.last;
      mark = k.mark;
      clock = k.clock;
      named = k.named;
      deltas = deltas_ended names records run f.ts rows k.named.differ (commit_names names f.ts outcomes rows are) k.deltas;
      passes = k.passes;
      keeps = ended_run rules core super names notes later (records ++ k.since) places k.rest s i j f outcomes rows k.low (with_records core.work.fill core.first k.since) longer
          (parts_stand core records k.since k.rest run k.parts places stands).flying apart at own over here later_is are k.keeps;
    }

-- a row is applied
pub applied_since : (rules : Rules) (core : Core) (super : Super) (names : List Target) (notes later : List (List CommitRow)) (records : List Entry) (places : List (ℕ × ℕ)) (run : List Entry) (durable : ℕ) (new : Core) (s at : ℕ) (outcome : Outcome)
    → Stands core → LogStands core records places run → AreApart core.aloft → length names ≡ length core.stores → length notes ≡ length core.aloft
    → (j : ℕ) (flight : Aloft) (op : RowOp) → find (λ w. w.s == s) core.aloft ≡ Some flight → IsNextOp j core.aloft flight.ts op → slice_get flight.ops at ≡ Some op
    → (AllUnder flight.ts (hists op.key core.stores) → new ≡ applied core j (place_of op.key core.stores) flight.ts op) → NotedHere core names notes later j op outcome → IsRunOutcome core s at outcome
    → KeepsSince rules core super names notes records run durable → KeepsSince rules (record core { aloft = on_nth j advance core.aloft; stores = new.stores }) super names later records run durable
applied_since rules core super names notes later records places run durable new s at outcome st log apart stored noted j flight op flies next row stores n r k = record {
  since = k.since;
  rest = k.rest;
  parts = k.parts;
  made = k.made;
  opened = k.opened;
  low = k.low;
  from = k.from;
  up = k.up;
  last = k.last;
  mark = k.mark;
  clock = k.clock;
  named = k.named;
  deltas = k.deltas;
  passes =
      let wf = all_found (Waits (records ++ run) places) (λ w. w.s == s) core.aloft flight flies log.flying in
      let all = pass_join rules core.work.fill (records ++ k.since) k.rest k.keeps.recovered.content.passes k.keeps.recovered.passes in
      let ops = ops_pass rules core.work.fill ((records ++ k.since) ++ k.rest) flight.ts flight.ops all (ap (ops_of flight.ts) (sym (same_log core records k.since k.rest run k.parts)) ∙ wf.ops) in
      subst (StoresPass rules) (sym (pushed_is core st j flight.ts op next new stores))
      (op_passes rules core.work.fill op flight.ts (place_of op.key core.stores) (live core.stores op.key flight.ts) core.stores (op_among rules core.work.fill flight.ops at op ops row) k.passes);
  keeps = applied_run rules core super names notes later (records ++ k.since) k.rest places new s at outcome k.low (with_records core.work.fill core.first k.since) st (parts_stand core records k.since k.rest run k.parts places log) k.named apart stored noted
      j flight op flies next row stores n r k.keeps;
}

-- a line that is no write's
pub line_since : (rules : Rules) (core : Core) (super : Super) (names : List Target) (notes : List (List CommitRow)) (records run : List Entry) (durable : ℕ) (e : Event) (a c : ℕ) (turns : List Turn) (stopped : Bool) → IsQuiet e → core.a ≤ a → core.c ≤ c
    → KeepsSince rules core super names notes records run durable → KeepsSince rules (record core { trail = core.trail ++ e ∷ []; a = a; c = c; turns = turns; stopped = stopped }) super names notes records run durable
line_since rules core super names notes records run durable e a c turns stopped quiet rise up k = record {
  since = k.since;
  rest = k.rest;
  parts = k.parts;
  made = k.made;
  opened = k.opened;
  low = k.low;
  from = k.from;
  up = (let u = k.up in omega arith);
  last = k.last;
  mark = (let m = k.mark in omega arith);
  clock = (let u = k.clock in omega arith);
  named = k.named;
  deltas = k.deltas;
  passes = k.passes;
  keeps = record {
    recovered = k.keeps.recovered;
    writes = k.keeps.writes ∙ sym (past_line core e ∙ past_after core.work (state_after core.work (start core.work core.first core.opened) core.trail) e quiet);
    numbers = k.keeps.numbers;
    stands = a_look_keeps rules core.work.fill super (records ++ k.since) k.rest (with_records core.work.fill core.first k.since) (resident core names notes k.keeps.numbers) c k.keeps.stands up;
  };
}

-- ---- what a superblock is told of

-- the stores of the tablet, where no job publishes
module _ (rules : Rules) (core : Core) (super : Super) (names : List Target) (notes : List (List CommitRow)) (records run : List Entry) (durable frozen : ℕ) where
  pub to_plain : (o : Option Over) → o ≡ None → KeepsSince rules (core_over o names core) super (names_over o names) notes records run durable → KeepsSince rules core super names notes records run durable
  to_plain None e k = k
  to_plain (Some o) e k = absurd (let f : Some o ≡ None = e in cc)

  pub of_plain : (o : Option Over) → o ≡ None → KeepsSince rules core super names notes records run durable → KeepsSince rules (core_over o names core) super (names_over o names) notes records run durable
  of_plain None e k = k
  of_plain (Some o) e k = absurd (let f : Some o ≡ None = e in cc)

pub plain : {L D C : Type 0} (view : EngineView L D C) → view.upkeep.publishing ≡ None → (m : Meta) → over_at m.number (over view) ≡ None
plain view none m = ap (λ (p : Option ℕ). over_at m.number (over_by p view.upkeep)) none

-- a write flies, so no job publishes
pub none_publishes : {L D C : Type 0} (view : EngineView L D C) (t : Aloft → Bool) (w : Aloft) → find t view.tablet.core.aloft ≡ Some w → (view.upkeep.publishing ≡ None) ⊎ (view.tablet.core.aloft ≡ []) → view.upkeep.publishing ≡ None
none_publishes view t w flies (inl none) = none
none_publishes view t w flies (inr calm) = absurd (let no : None ≡ Some w = sym (ap (find t) calm) ∙ flies in cc)

-- ---- records more

pub job_more : (records run : List Entry) (e : Entry) (job : JobView) → JobOn (records ++ run) job → JobOn (records ++ (run ++ e ∷ [])) job
job_more records run e job on = subst (λ (l : List Entry). JobOn l job) (append_assoc records run (e ∷ [])) (record {
  many = (let n = length-append (records ++ run) (e ∷ []) in let low = on.many in omega arith);
  names = subst (RecordsBelow (before job.first_rowset job.last_mem)) (sym (take-append-le job.many (records ++ run) (e ∷ []) on.many)) on.names;
})

-- ---- the engine's store

module _ {L D C : Type 0} (log_tells : Bool) (log_seen : L → Files) (tells : Bool) (seen : D → Files) (faults : D → ℕ) (view : EngineView L D C) (is : IsStored log_tells log_seen tells seen faults view) where
  abbrev Stored : EngineView L D C → Type 0
  Stored v = IsStored log_tells log_seen tells seen faults v

  -- where no job publishes a superblock is told of the files that memory has
  pub filed_now : view.upkeep.publishing ≡ None → (m : Meta) → IsOneOf view.store m → AreFiled tells (seen view.store.known) m.rowsets view.tablet.files
  filed_now none m one = subst (AreFiled tells (seen view.store.known) m.rowsets) (none_at m.number view.upkeep view.tablet.files none) (is.files m one)

  -- a line
  pub line_stored : (e : Event) (a c : ℕ) (turns : List Turn) (stopped : Bool) (clock : C) → IsQuiet e → view.tablet.core.a ≤ a → MovesMark e view.tablet.core.a a → view.tablet.core.c ≤ c → Stored (record view { tablet = with_line view.tablet e a c turns stopped clock })
  line_stored e a c turns stopped clock quiet rise moves up = record {
    run = is.run;
    all = is.all;
    count = is.count;
    stands = record { log = is.stands.log; since = (let low = is.stands.since in omega arith); last = (let low = is.stands.last in omega arith); flying = is.stands.flying; untold = is.stands.untold };
    keeps = λ rules first h plan t super one.
        line_since rules (core_at view one.meta (core_from view first)) super (names_at view one.meta) view.tablet.notes view.records is.run view.log.known.count e a c turns stopped quiet rise up
        (is.keeps rules first (record { closed = h.closed; opens = h.opens; holds = h.holds }) plan t super one);
    below = is.below;
    names_below = is.names_below;
    near = is.near;
    files_near = is.files_near;
    room = is.room;
    rests = is.rests;
    jobs = is.jobs;
    outside = λ n job has at. outside_line view.tablet view.store.meta view.store.lent view.upkeep view.records is.run job (is.outside n job has at) e a c turns stopped clock rise up;
    holds = is.holds;
    files = is.files;
    columns = is.columns;
    mark = moved_mark view.tablet.mark view.tablet.core.trail e view.tablet.core.a a moves is.mark;
    marked = λ m one. still_mark view.tablet.mark view.tablet.core.trail e m.a (is.marked m one);
    clock = λ m one. (let low = is.clock m one in omega arith);
    low = λ m one. (let low = is.low m one in omega arith);
    later = is.later;
    home = is.home;
  }

  -- a log that has the same records, of which no fewer are durable
  pub log_stored : (log : SideView L) → (IsTrue log_tells → view.records ++ is.run ≡ records_of (log_seen log.known.disk) ++ (log.out ++ log.queued)) → length (view.records ++ is.run) ≡ log.known.count + length (log.out ++ log.queued)
      → view.log.known.count ≤ log.known.count → Stored (record view { log = log })
  log_stored log all count more = record {
    run = is.run;
    all = all;
    count = count;
    stands = is.stands;
    keeps = λ rules first h plan t super one. more_durable view.log.known.count log.known.count more (is.keeps rules first (record { closed = h.closed; opens = h.opens; holds = h.holds }) plan t super one);
    below = is.below;
    names_below = is.names_below;
    near = is.near;
    files_near = is.files_near;
    room = is.room;
    rests = is.rests;
    jobs = is.jobs;
    outside = is.outside;
    holds = is.holds;
    files = is.files;
    columns = is.columns;
    mark = is.mark;
    marked = is.marked;
    clock = is.clock;
    low = is.low;
    later = is.later;
    home = is.home;
  }

  -- it goes out
  pub out_stored : (log : SideView L) (number : ℕ) → view.log.out ≡ [] → log ≡ record view.log { home = None; holder = Some number; out = view.log.queued; queued = [] } → Stored (record view { log = log })
  out_stored log number out e =
      let same : view.log.out ++ view.log.queued ≡ view.log.queued ++ [] = ap (λ (l : List Entry). l ++ view.log.queued) out ∙ sym (append-nil view.log.queued) in
      subst (λ (l : SideView L). Stored (record view { log = l })) (sym e)
      (log_stored (record view.log { home = None; holder = Some number; out = view.log.queued; queued = [] })
      (λ t. is.all t ∙ ap (λ (l : List Entry). records_of (log_seen view.log.known.disk) ++ l) same) (is.count ∙ ap (λ (l : List Entry). view.log.known.count + length l) same) (omega arith))

  -- it comes home
  pub home_stored : (log : SideView L) (journal : JournalView L) → journal.count ≡ view.log.known.count + length view.log.out
      → (IsTrue log_tells → records_of (log_seen journal.disk) ≡ records_of (log_seen view.log.known.disk) ++ view.log.out)
      → log ≡ record view.log { home = Some journal; known = journal; holder = None; out = [] } → Stored (record view { log = log })
  home_stored log journal count reads e =
      let parts = length-append view.log.out view.log.queued in
      subst (λ (l : SideView L). Stored (record view { log = l })) (sym e)
      (log_stored (record view.log { home = Some journal; known = journal; holder = None; out = [] })
      (λ t. is.all t ∙ sym (append_assoc (records_of (log_seen view.log.known.disk)) view.log.out view.log.queued) ∙ ap (λ (l : List Entry). l ++ view.log.queued) (sym (reads t)))
      (let n = is.count in omega arith) (omega arith))

  -- it comes back as it went out, or with a fault: the same records
  pub back_stored : (log : SideView L) (journal : JournalView L) → log ≡ record view.log { home = Some journal; holder = None; out = []; queued = view.log.out ++ view.log.queued } → Stored (record view { log = log })
  back_stored log journal e =
      subst (λ (l : SideView L). Stored (record view { log = l })) (sym e) (log_stored (record view.log { home = Some journal; holder = None; out = []; queued = view.log.out ++ view.log.queued }) is.all is.count (omega arith))

  pub broken_stored : (log : SideView L) (journal : JournalView L) → log ≡ record view.log { home = Some journal; holder = None; whole = false } → Stored (record view { log = log })
  broken_stored log journal e =
      subst (λ (l : SideView L). Stored (record view { log = l })) (sym e) (log_stored (record view.log { home = Some journal; holder = None; whole = false }) is.all is.count (omega arith))

  -- more room, and whichever sessions run
  pub room_stored : (room : ℕ) → Stored (record view { log = record view.log { room = room } })
  room_stored room = log_stored (record view.log { room = room }) is.all is.count (omega arith)

  pub running_stored : (running : List ℕ) → Stored (record view { running = running })
  running_stored running = record {
    run = is.run;
    all = is.all;
    count = is.count;
    stands = is.stands;
    keeps = λ rules first h plan t super one. is.keeps rules first (record { closed = h.closed; opens = h.opens; holds = h.holds }) plan t super one;
    below = is.below;
    names_below = is.names_below;
    near = is.near;
    files_near = is.files_near;
    room = is.room;
    rests = is.rests;
    jobs = is.jobs;
    outside = is.outside;
    holds = is.holds;
    files = is.files;
    columns = is.columns;
    mark = is.mark;
    marked = is.marked;
    clock = is.clock;
    low = is.low;
    later = is.later;
    home = is.home;
  }

  -- passes have something else of maintenance, and each superblock is told of the same stores and files
  pub upkeep_stored : (upkeep : UpkeepsView) → upkeep.begun ≡ view.upkeep.begun → ((m : Meta) → IsOneOf view.store m → over_at m.number (over_in upkeep) ≡ over_at m.number (over view))
      → ((m : Meta) → IsOneOf view.store m → files_over (job_at m.number (publisher upkeep)) view.tablet.files ≡ files_at view m) → (upkeep.publishing ≡ None) ⊎ (view.tablet.core.aloft ≡ [])
      → ((n : ℕ) (job : JobView) → job_of n upkeep ≡ Some job → JobOn (view.records ++ is.run) job) → AreOutside (record view { upkeep = upkeep }) (view.records ++ is.run) → Stored (record view { upkeep = upkeep })
  upkeep_stored upkeep counted same told rests jobs outside = record {
    run = is.run;
    all = is.all;
    count = is.count;
    stands = is.stands;
    keeps = λ rules first h plan t super one.
        subst (λ (o : Option Over). KeepsSince rules (core_over o view.tablet.names (core_from view first)) super (names_over o view.tablet.names) view.tablet.notes view.records is.run view.log.known.count) (sym (same one.meta one.one))
        (is.keeps rules first (record { closed = h.closed; opens = h.opens; holds = h.holds }) plan t super (record { meta = one.meta; one = one.one; held = one.held; hold = one.hold; is = one.is }));
    below = is.below;
    names_below = is.names_below;
    near = subst (λ (n : ℕ). AreNear view.found view.tablet.names view.first_rowset view.store.next_rowset n is.run) (sym counted) is.near;
    files_near = is.files_near;
    room = is.room;
    rests = rests;
    jobs = jobs;
    outside = outside;
    holds = is.holds;
    files = λ m one. subst (AreFiled tells (seen view.store.known) m.rowsets) (sym (told m one)) (is.files m one);
    columns = is.columns;
    mark = is.mark;
    marked = is.marked;
    clock = is.clock;
    low = is.low;
    later = is.later;
    home = is.home;
  }

  -- a device has failed: the tablet stops, or had stopped
  pub halted_stored : (tablet : View C) → (view.tablet.core.stopped ≡ false → tablet ≡ record view.tablet { core = halted view.tablet.core }) → (view.tablet.core.stopped ≡ true → tablet ≡ view.tablet) → Stored (record view { tablet = tablet })
  halted_stored tablet stops once = elim view.tablet.core.stopped as (λ b. view.tablet.core.stopped ≡ b → Stored (record view { tablet = tablet })) [
    | false ↦ λ goes. subst (λ (t : View C). Stored (record view { tablet = t })) (sym (stops goes))
        (line_stored event.Stop view.tablet.core.a view.tablet.core.c view.tablet.core.turns true view.tablet.clock tt (omega arith) (inl refl) (omega arith))
    | true ↦ λ stopped. subst (λ (t : View C). Stored (record view { tablet = t })) (sym (once stopped)) is
  ] refl

  -- the store comes home after a fault
  pub store_broken : (store : StoreView D) (disk : D) → store ≡ record view.store { home = Some disk; holder = None; whole = false } → faults view.store.known ≤ faults disk → Stored (record view { store = store })
  store_broken store disk e more = subst (λ (s : StoreView D). Stored (record view { store = s })) (sym e) (record {
    run = is.run;
    all = is.all;
    count = is.count;
    stands = is.stands;
    keeps = λ rules first h plan t super one. is.keeps rules first (record { closed = h.closed; opens = h.opens; holds = h.holds }) plan t super (record { meta = one.meta; one = one.one; held = one.held; hold = one.hold; is = one.is });
    below = is.below;
    names_below = is.names_below;
    near = is.near;
    files_near = is.files_near;
    room = is.room;
    rests = is.rests;
    jobs = is.jobs;
    outside = is.outside;
    holds = is.holds;
    files = is.files;
    columns = is.columns;
    mark = is.mark;
    marked = is.marked;
    clock = is.clock;
    low = is.low;
    later = is.later;
    home = λ d at. let same : disk ≡ d = cc in subst (λ (x : D). faults view.store.known ≤ faults x) same more;
  })
