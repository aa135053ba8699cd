-- A line that begins and ends no write: the engine stands on.
use Rattle.std.proofs.Common.{◌≡◌, ◌≢◌, ◌≤◌, ℕ, max, Bool, true, false, List, [], ◌∷◌, ◌++◌, Result, Ok, Err, refl, sym, ap, subst, ◌∙◌, arith, inl, inr}
use Rattle.std.specs.Prelude.{IfOk, IfErr, OnErr, OnOk}
use Rattle.kt_disk.specs.Disk.{Files}
use Rattle.kt_history.specs.declared.event.Event.{Event}
use Rattle.kt_history.specs.declared.event.Event.TheVariants as event
use Rattle.kt_history.specs.declared.scan.At.{At}
use Rattle.kt_history.specs.Machine.{Workload, State, Turn, after, state_after, start}
use Rattle.kt_records.specs.declared.entry.Entry.{Entry}
use Rattle.kt_journal.specs.Log.{records_of}
use Rattle.kt_histlaws.specs.Core.{Core}
use Rattle.kt_histlaws.specs.Events.{looked, answered_rows, marked, answered}
use Rattle.kt_content.proofs.Keeping.{look_keeps as a_look_keeps}
use Rattle.kt_tablet.specs.declared.tablet.scan.SnapNo.{SnapNo}
use Rattle.kt_tablet.specs.declared.tablet.scan.SnapNo.TheVariants as no
use Rattle.kt_tablet.specs.declared.tablet.LookNo.{LookNo}
use Rattle.kt_tablet.specs.declared.tablet.LookNo.TheVariants as look
use Rattle.kt_tablet.specs.Views.{View}
use Rattle.kt_tablet.specs.Visits.{HasLooked, HasMarked}
use Rattle.kt_tablet.specs.Reads.{HasRead, LeavesRead}
use Rattle.kt_engine.specs.Logged.{AcknowledgedIn}
use Rattle.kt_engine.specs.Memory.{resident}
use Rattle.kt_engine.specs.Engines.{EngineView, IsLogged, IsEngine, core_from}
use Rattle.kt_engine.proofs.Marks.{MovesMark}
use Rattle.kt_engine.proofs.Runs.{past_line, acknowledged_more, stop_line, goes_still, ok_no, err_is}

-- a line that neither begins nor ends a write
abbrev pub IsQuiet : Event → Type 0
IsQuiet (event.Begin s i ts m) = ⊥
IsQuiet (event.End s i ts) = ⊥
IsQuiet _ = Unit {0}

pub past_after : (work : Workload) (st : State) (e : Event) → IsQuiet e → (after work st e).past ≡ st.past
past_after work st (event.Begin s i ts m) h = absurd h
past_after work st (event.End s i ts) h = absurd h
past_after work st (event.Look s i t m) h = refl
past_after work st (event.Rows s i t) h = refl
past_after work st (event.Ancient s i t a) h = refl
past_after work st (event.Busy s i t f) h = refl
past_after work st (event.Mark s i a) h = refl
past_after work st (event.Chore s i) h = refl
past_after work st (event.Large s i n) h = refl
past_after work st event.Stop h = refl

-- it acknowledges no write
acknowledged_none : (records : List Entry) (e : Event) → IsQuiet e → AcknowledgedIn records (e ∷ [])
acknowledged_none records (event.Begin s i ts m) h = absurd h
acknowledged_none records (event.End s i ts) h = absurd h
acknowledged_none records (event.Look s i t m) h = tt
acknowledged_none records (event.Rows s i t) h = tt
acknowledged_none records (event.Ancient s i t a) h = tt
acknowledged_none records (event.Busy s i t f) h = tt
acknowledged_none records (event.Mark s i a) h = tt
acknowledged_none records (event.Chore s i) h = tt
acknowledged_none records (event.Large s i n) h = tt
acknowledged_none records event.Stop h = tt

-- the tablet after a line
abbrev pub with_line : {C : Type 0} → View C → Event → ℕ → ℕ → List Turn → Bool → C → View C
with_line tablet e a c turns stopped clock = record tablet { core = record tablet.core { trail = tablet.core.trail ++ e ∷ []; a = a; c = c; turns = turns; stopped = stopped }; clock = clock }

-- the log keeps the run
pub line_logged : {L D C : Type 0} (tells : Bool) (seen : L → Files) (view : EngineView L D C) (e : Event) (a c : ℕ) (turns : List Turn) (stopped : Bool) (clock : C) → IsLogged tells seen view → IsQuiet e → view.tablet.core.c ≤ c
    → IsLogged tells seen (record view { tablet = with_line view.tablet e a c turns stopped clock })
line_logged tells seen view e a c turns stopped clock is quiet up = record {
  run = is.run;
  all = is.all;
  count = is.count;
  begins = is.begins;
  stands = record { log = is.stands.log; since = (let low = is.stands.since in omega arith); last = (let low = is.stands.last in omega arith); flying = is.stands.flying; untold = is.stands.untold };
  keeps = λ rules first h plan none.
      let keeps = is.keeps rules first (record { closed = h.closed; opens = h.opens; holds = h.holds }) plan none in
      let core = core_from view first in
      record {
        recovered = keeps.recovered;
        writes = keeps.writes ∙ sym (past_line core e ∙ past_after core.work (state_after core.work (start core.work first core.opened) core.trail) e quiet);
        numbers = keeps.numbers;
        stands = a_look_keeps rules core.work.fill view.super view.records is.run first (resident core view.tablet.names view.tablet.notes keeps.numbers) c keeps.stands up;
      };
  names = is.names;
  framed = is.framed;
  durable = is.durable;
  acknowledged = λ t. acknowledged_more (records_of (seen view.log.known.disk)) view.tablet.core.trail e (is.acknowledged t) (acknowledged_none (records_of (seen view.log.known.disk)) e quiet);
}

-- and the engine stands
pub line_keeps : {L D C : Type 0} (tells : Bool) (seen : L → Files) (now : L → ℕ) (leaves : L → ℕ → Files → Type 0) (faults : L → ℕ) (view : EngineView L D C) (tablet : View C) (e : Event) (a c : ℕ) (turns : List Turn) (clock : C)
    → IsEngine tells seen now leaves faults view → view.tablet.core.stopped ≡ false → IsQuiet e → e ≢ event.Stop → view.tablet.core.c ≤ c → tablet ≡ with_line view.tablet e a c turns view.tablet.core.stopped clock
    → IsEngine tells seen now leaves faults (record view { tablet = tablet })
line_keeps {L} {D} {C} tells seen now leaves faults view tablet e a c turns clock is goes quiet other up new =
    subst (λ (t : View C). IsEngine tells seen now leaves faults (record view { tablet = t })) (sym new) (record {
      logged = line_logged tells seen view e a c turns view.tablet.core.stopped clock is.logged quiet up;
      home = λ journal h.
          let home = is.home journal h in
          record { opens = home.opens; others = home.others; later = home.later; known = home.known; rose = home.rose; images = home.images };
      others = is.others;
      lent = is.lent;
      whole = is.whole;
      stops = stop_line view.tablet.core (with_line view.tablet e a c turns view.tablet.core.stopped clock).core e is.stops goes other refl refl;
      ready = record { room = is.ready.room; apart = is.ready.apart; spelled = is.ready.spelled; shelved = is.ready.shelved; named = is.ready.named };
      placed = is.placed;
    })

-- what a line keeps, whatever that is: so does each event that adds one, or none
abbrev pub KeepsLines : {C : Type 0} → (View C → Type 0) → View C → Type 0
KeepsLines {C} P old = P old × ((e : Event) (a c : ℕ) (turns : List Turn) (clock : C) → old.core.stopped ≡ false → IsQuiet e → e ≢ event.Stop → old.core.a ≤ a → MovesMark e old.core.a a → old.core.c ≤ c → P (with_line old e a c turns old.core.stopped clock))

line_on : {C : Type 0} (P : View C → Type 0) (old tablet : View C) (e : Event) (a c : ℕ) (turns : List Turn) (clock : C)
    → KeepsLines P old → old.core.stopped ≡ false → IsQuiet e → e ≢ event.Stop → old.core.a ≤ a → MovesMark e old.core.a a → old.core.c ≤ c → tablet ≡ with_line old e a c turns old.core.stopped clock → P tablet
line_on P old tablet e a c turns clock is goes quiet other rise moves up new = subst P (sym new) (is.1 e a c turns clock goes quiet other rise moves up)

-- a scan of the present draws its time
pub look_keeps : {C : Type 0} (P : View C → Type 0) (old tablet : View C) (s i : ℕ) (result : Result ℕ LookNo)
    → KeepsLines P old → (old.core.stopped ≡ true → result ≡ Err look.Stopped) → IfOk result (λ t. HasLooked old.core tablet.core s i t) → tablet ≡ record old { core = tablet.core; clock = tablet.clock } → OnErr result (tablet ≡ old)
    → P tablet
look_keeps {C} P old tablet s i (Ok t) is stops has beside same =
    let m = has.m in
    let time = has.time in
    line_on P old tablet (event.Look s i t m) old.core.a t (looked old.core s i t m).turns tablet.clock is (goes_still old.core.stopped (Ok t) look.Stopped stops (ok_no t look.Stopped)) tt (λ e. let no : event.Look s i t m ≡ event.Stop = e in cc) (omega arith) (inl refl) (omega arith)
    (beside ∙ ap (λ (k : Core). record old { core = k; clock = tablet.clock }) has.core)
look_keeps {C} P old tablet s i (Err reason) is stops has beside same = subst P (sym same) is.0

-- the mark rises
pub mark_keeps : {C : Type 0} (P : View C → Type 0) (old tablet : View C) (s i to : ℕ) (result : Result ℕ LookNo)
    → KeepsLines P old → (old.core.stopped ≡ true → result ≡ Err look.Stopped) → IfOk result (λ a. HasMarked old.core tablet.core s i to a) → tablet ≡ record old { core = tablet.core } → OnErr result (tablet ≡ old)
    → P tablet
mark_keeps {C} P old tablet s i to (Ok a) is stops has beside same =
    line_on P old tablet (event.Mark s i a) a old.core.c (marked old.core s i a).turns old.clock is (goes_still old.core.stopped (Ok a) look.Stopped stops (ok_no a look.Stopped)) tt (λ e. let no : event.Mark s i a ≡ event.Stop = e in cc) (let v = has.value in omega arith) (inr (s, i, refl)) (omega arith)
    (beside ∙ ap (λ (k : Core). record old { core = k }) has.core)
mark_keeps {C} P old tablet s i to (Err reason) is stops has beside same = subst P (sym same) is.0

-- a line answers a command
pub answer_keeps : {C : Type 0} (P : View C → Type 0) (old tablet : View C) (s i : ℕ) (e : Event)
    → KeepsLines P old → old.core.stopped ≡ false → IsQuiet e → e ≢ event.Stop → tablet ≡ record old { core = answered old.core s i e }
    → P tablet
answer_keeps P old tablet s i e is goes quiet other new =
    line_on P old tablet e old.core.a old.core.c (answered old.core s i e).turns old.clock is goes quiet other (omega arith) (inl refl) (omega arith) new

-- a maintenance command is answered
pub chore_keeps : {C T : Type 0} (P : View C → Type 0) (old tablet : View C) (s i : ℕ) (result : Result T LookNo)
    → KeepsLines P old → (old.core.stopped ≡ true → result ≡ Err look.Stopped) → OnOk result (tablet ≡ record old { core = answered old.core s i (event.Chore s i) }) → OnErr result (tablet ≡ old)
    → P tablet
chore_keeps {C} P old tablet s i (Ok a) is stops new same =
    answer_keeps P old tablet s i (event.Chore s i) is (goes_still old.core.stopped (Ok a) look.Stopped stops (ok_no a look.Stopped)) tt (λ e. let no : event.Chore s i ≡ event.Stop = e in cc) new
chore_keeps {C} P old tablet s i (Err reason) is stops new same = subst P (sym same) is.0

-- a scan is answered, or refused with its line
pub snapshot_keeps : {C R : Type 0} (P : View C → Type 0) (old tablet : View C) (s i : ℕ) (at : At) (time : R → ℕ) (result : Result R SnapNo)
    → KeepsLines P old → (old.core.stopped ≡ true → result ≡ Err no.Stopped) → IfOk result (λ snap. HasRead old.core tablet.core s i at (time snap)) → tablet ≡ record old { core = tablet.core } → IfErr result (LeavesRead old tablet s i)
    → P tablet
snapshot_keeps {C} P old tablet s i at time (Ok snap) is stops has beside left =
    line_on P old tablet (event.Rows s i (time snap)) old.core.a (max old.core.c (time snap)) (answered_rows old.core s i (time snap)).turns old.clock is (goes_still old.core.stopped (Ok snap) no.Stopped stops (ok_no snap no.Stopped)) tt (λ e. let other : event.Rows s i (time snap) ≡ event.Stop = e in cc) (omega arith) (inl refl) (omega arith)
    (beside ∙ ap (λ (k : Core). record old { core = k }) has.core)
snapshot_keeps {C} P old tablet s i at time (Err (no.Ancient t a)) is stops has beside left =
    answer_keeps P old tablet s i (event.Ancient s i t a) is (goes_still old.core.stopped (Err (no.Ancient t a)) no.Stopped stops (λ h. let e : no.Ancient t a ≡ no.Stopped = err_is (no.Ancient t a) no.Stopped _ refl h in cc)) tt (λ e. let other : event.Ancient s i t a ≡ event.Stop = e in cc) (beside ∙ ap (λ (k : Core). record old { core = k }) left)
snapshot_keeps {C} P old tablet s i at time (Err (no.Busy t f)) is stops has beside left =
    answer_keeps P old tablet s i (event.Busy s i t f) is (goes_still old.core.stopped (Err (no.Busy t f)) no.Stopped stops (λ h. let e : no.Busy t f ≡ no.Stopped = err_is (no.Busy t f) no.Stopped _ refl h in cc)) tt (λ e. let other : event.Busy s i t f ≡ event.Stop = e in cc) (beside ∙ ap (λ (k : Core). record old { core = k }) left)
snapshot_keeps {C} P old tablet s i at time (Err no.Stopped) is stops has beside left = subst P (sym left) is.0
snapshot_keeps {C} P old tablet s i at time (Err (no.NotYet f)) is stops has beside left = subst P (sym left) is.0
snapshot_keeps {C} P old tablet s i at time (Err no.Memory) is stops has beside left = subst P (sym left) is.0
