-- Each event is a visit of its pass.
use Rattle.std.proofs.Common.{◌≡◌, ℕ, suc, List, [], ◌∷◌, ◌++◌, Option, Some, None, refl, true, false, cond, sym, ap, ◌∙◌, subst, inl, inr, Result, Ok, Err, arith}
use Rattle.std.specs.Prelude.{◌==◌, not, IfOk, OnErr}
use Rattle.std.specs.List.{filter}
use Rattle.std.proofs.lemmas.Bool.{ne_eqb, eqb-true}
use Rattle.kt_history.specs.declared.event.Event.{Event}
use Rattle.kt_history.specs.declared.event.Event.TheVariants as event
use Rattle.kt_history.specs.declared.operation.RowOp.{RowOp}
use Rattle.kt_history.specs.declared.change.Outcome.{Outcome}
use Rattle.kt_history.specs.declared.target.Target.{Target}
use Rattle.kt_history.specs.Stores.{Store}
use Rattle.kt_records.specs.declared.entry.Entry.{Entry}
use Rattle.kt_pool.specs.Contents.{Contents}
use Rattle.kt_seatlock.specs.Trails.{Adds}
use Rattle.kt_histlaws.specs.Core.{Core}
use Rattle.kt_histlaws.specs.Events.{begun, ended, halted}
use Rattle.kt_histlaws.specs.Parts.{part}
use Rattle.kt_histlaws.proofs.Parts.{begin_keeps_parts, end_keeps_parts, apply_keeps_parts}
use Rattle.kt_loglaws.specs.Side.{SideView}
use Rattle.kt_tablet.specs.Views.{View, place_at}
use Rattle.kt_tablet.specs.Visits.{HasBegun, HasApplied, HasEnded}
use Rattle.kt_tablet.specs.declared.tablet.Stopped.{Stopped}
use Rattle.kt_journal.specs.Open.{JournalView}
use Rattle.kt_storeside.specs.Sides.{StoreView}
use Rattle.kt_diskrowset.specs.Rowset.{HeldFiles}
use Rattle.kt_engine.specs.Engines.{EngineView}
use Rattle.kt_engine.specs.Sessions.{runs}
use Rattle.kt_engine.specs.Jobs.{UpkeepView, UpkeepsView, HasUpkeep, upkeep_at}
use Rattle.kt_engine.proofs.Sessions.{runs_fewer}
use Rattle.kt_engine.specs.Visits.{session_of, out_of, lent_of, Root, root_of, IsVisit}

-- one line more, of the session or of none
own_line : (n : ℕ) (before after : List Event) (e : Event) → after ≡ before ++ e ∷ [] → session_of e ≡ Some n → Adds session_of n before after
own_line n before after e is of = inr (e, is, inl of)

turned : (n k : ℕ) → (k ≡ n → ⊥) → n ≡ k → ⊥
turned n k ne e = ne (sym e)

-- what opening found stays
pub root_stays : {L D C : Type 0} (n : ℕ) (old new : EngineView L D C) → IsVisit n old new → root_of new ≡ root_of old
root_stays n old new a = ap (λ p. p.root) (a.parts (suc n) (λ e. omega arith))

-- what is said of the opened fields is said of the value
pub visit_of : {L D C : Type 0} (n : ℕ) (v old new : EngineView L D C) → v ≡ old → IsVisit n v new → IsVisit n old new
visit_of n v old new is a = subst (λ o. IsVisit n o new) is a

-- what opening found, beside another tablet or another core
abbrev tablet_root : {L D C : Type 0} → EngineView L D C → View C → Root L D C
tablet_root v tablet = root_of (record v { tablet = tablet })

abbrev core_root : {L D C : Type 0} → EngineView L D C → Core → Root L D C
core_root v core = tablet_root v (record v.tablet { core = core })

-- the tablet alone has changed
core_visit : {L D C : Type 0} (n : ℕ) (v : EngineView L D C) (tablet : View C) → Adds session_of n v.tablet.core.trail tablet.core.trail → ((k : ℕ) → (k ≡ n → ⊥) → part tablet.core k ≡ part v.tablet.core k) → ((k : ℕ) → (k ≡ n → ⊥) → place_at k tablet.places ≡ place_at k v.tablet.places)
    → tablet_root v tablet ≡ root_of v → IsVisit n v (record v { tablet = tablet })
core_visit n v tablet line parts places root = record {
  line = line;
  parts = λ k ne i. record {
    pass = record { session = parts k ne i; place = places k ne i; out = out_of v.log.holder v.log.out k; runs = runs k v.running; upkeep = upkeep_at k v.upkeep.passes };
    lent = lent_of v.log.holder v.log.known k;
    turn = lent_of v.store.holder v.store k;
    root = root i;
  };
}

-- nothing has
no_visit : {L D C : Type 0} (n : ℕ) (v : EngineView L D C) (tablet : View C) → tablet ≡ v.tablet → IsVisit n v (record v { tablet = tablet })
no_visit n v tablet same = core_visit n v tablet (inl (ap (λ t. t.core.trail) same)) (λ k ne. ap (λ t. part t.core k) same) (λ k ne. ap (λ t. place_at k t.places) same) (ap (tablet_root v) same)

-- a line of the session, by what it makes of the core
line_visit : {L D C : Type 0} (n : ℕ) (v : EngineView L D C) (tablet : View C) (e : Event) (core : Core) → tablet.core ≡ core → core.trail ≡ v.tablet.core.trail ++ e ∷ [] → session_of e ≡ Some n → ((k : ℕ) → (k ≡ n → ⊥) → part core k ≡ part v.tablet.core k)
    → ((k : ℕ) → (k ≡ n → ⊥) → place_at k tablet.places ≡ place_at k v.tablet.places) → tablet_root v tablet ≡ core_root v tablet.core → core_root v core ≡ root_of v → IsVisit n v (record v { tablet = tablet })
line_visit n v tablet e core is line of parts places beside root =
    core_visit n v tablet (own_line n v.tablet.core.trail tablet.core.trail e (ap (λ c. c.trail) is ∙ line) of) (λ k ne. ap (λ c. part c k) is ∙ parts k ne) places (beside ∙ ap (core_root v) is ∙ root)

-- a row that is applied
pub apply_visit : {L D C : Type 0} (s at : ℕ) (v : EngineView L D C) (tablet : View C) (r : Result Outcome Stopped) → IfOk r (λ o. HasApplied v.tablet.core tablet.core s at o) → tablet ≡ record v.tablet { core = tablet.core; notes = tablet.notes; pool = tablet.pool } → OnErr r (tablet ≡ v.tablet)
    → IsVisit s v (record v { tablet = tablet })
apply_visit s at v tablet (Ok o) h beside same =
    core_visit s v tablet (inl (ap (λ c. c.trail) h.core)) (λ k ne. ap (λ c. part c k) h.core ∙ apply_keeps_parts v.tablet.core h.j 0 h.flight.ts h.op k (h.own k ne)) (λ k ne. ap (λ t. place_at k t.places) beside) (ap (tablet_root v) beside ∙ ap (core_root v) h.core)
apply_visit s at v tablet (Err e) h beside same = no_visit s v tablet same

-- ---- the log beside it

-- who has the log out, what went out with it, and how it began
abbrev pub lending : {L : Type 0} → SideView L → Option ℕ × List Entry × JournalView L × L
lending log = (log.holder, log.out, log.known, log.first)

beside_visit : {L D C : Type 0} (n : ℕ) (v : EngineView L D C) (tablet : View C) (log : SideView L) → IsVisit n v (record v { tablet = tablet }) → lending log ≡ lending v.log → IsVisit n v (record v { tablet = tablet; log = log })
beside_visit n v tablet log a lent = record {
  line = a.line;
  parts = λ k ne i. let p = a.parts k ne i in record {
    pass = record { session = p.pass.session; place = p.pass.place; out = out_of (lent i).0 (lent i).1 k; runs = p.pass.runs; upkeep = p.pass.upkeep };
    lent = lent_of (lent i).0 (lent i).2 k;
    turn = p.turn;
    root = record p.root { first_log = (lent i).3 };
  };
}

place_more : (places : List (ℕ × ℕ)) (s k place : ℕ) → (k ≡ s → ⊥) → place_at k (places ++ (s, place) ∷ []) ≡ place_at k places
place_more [] s k place ne = ap (λ b. cond b (Some place) None) (ne_eqb s k (turned s k ne))
place_more (p ∷ places) s k place ne = ap (λ o. cond (p.0 == k) (Some p.1) o) (place_more places s k place ne)

place_fewer : (places : List (ℕ × ℕ)) (s k : ℕ) → (k ≡ s → ⊥) → place_at k (filter (λ p. not (p.0 == s)) places) ≡ place_at k places
place_fewer [] s k ne = refl
place_fewer (p ∷ places) s k ne =
    elim (p.0 == s) as (λ b. p.0 == s ≡ b → place_at k (cond (not b) (p ∷ filter (λ q. not (q.0 == s)) places) (filter (λ q. not (q.0 == s)) places)) ≡ cond (p.0 == k) (Some p.1) (place_at k places)) [
      | true ↦ λ is. place_fewer places s k ne ∙ sym (ap (λ b. cond b (Some p.1) (place_at k places)) (ne_eqb p.0 k (λ e. ne (sym e ∙ eqb-true p.0 s is))))
      | false ↦ λ is. ap (λ o. cond (p.0 == k) (Some p.1) o) (place_fewer places s k ne)
    ] refl

-- a write that begins
pub begun_visit : {L D C : Type 0} (s i ts place : ℕ) (ops : List RowOp) (v : EngineView L D C) (tablet : View C) (log : SideView L) → HasBegun v.tablet.core tablet.core s i ops ts
    → tablet ≡ record v.tablet { core = tablet.core; clock = tablet.clock; notes = tablet.notes; places = tablet.places; pool = tablet.pool } → lending log ≡ lending v.log → tablet.places ≡ v.tablet.places ++ (s, place) ∷ [] → IsVisit s v (record v { tablet = tablet; log = log })
begun_visit s i ts place ops v tablet log h beside lent more =
    beside_visit s v tablet log
    (line_visit s v tablet (event.Begin s i ts h.m) (begun v.tablet.core s i ts h.m ops) h.core refl refl (λ k ne. begin_keeps_parts v.tablet.core s i ts h.m ops k (turned s k ne)) (λ k ne. ap (place_at k) more ∙ place_more v.tablet.places s k place ne) (ap (tablet_root v) beside) refl) lent

-- over a tablet that was asked before, and is as it was
pub begun_visit_on : {L D C : Type 0} (s i ts place : ℕ) (ops : List RowOp) (v : EngineView L D C) (mid tablet : View C) (log : SideView L) → mid ≡ v.tablet → HasBegun mid.core tablet.core s i ops ts
    → tablet ≡ record mid { core = tablet.core; clock = tablet.clock; notes = tablet.notes; places = tablet.places; pool = tablet.pool } → lending log ≡ lending v.log → tablet.places ≡ mid.places ++ (s, place) ∷ [] → IsVisit s v (record v { tablet = tablet; log = log })
begun_visit_on {L} {D} {C} s i ts place ops v mid tablet log same h beside lent more =
    begun_visit s i ts place ops v tablet log (subst (λ (m : View C). HasBegun m.core tablet.core s i ops ts) same h) (subst (λ (m : View C). tablet ≡ record m { core = tablet.core; clock = tablet.clock; notes = tablet.notes; places = tablet.places; pool = tablet.pool }) same beside)
    lent (more ∙ ap (λ (m : View C). m.places ++ (s, place) ∷ []) same)

-- a write that ends
pub ended_visit : {L D C : Type 0} (s i ts : ℕ) (v : EngineView L D C) (tablet : View C) (log : SideView L) → HasEnded v.tablet.core tablet.core s i ts
    → tablet ≡ record v.tablet { core = tablet.core; notes = tablet.notes; places = tablet.places } → lending log ≡ lending v.log → tablet.places ≡ filter (λ p. not (p.0 == s)) v.tablet.places → IsVisit s v (record v { tablet = tablet; log = log })
ended_visit s i ts v tablet log h beside lent fewer =
    beside_visit s v tablet log
    (line_visit s v tablet (event.End s i ts) (ended v.tablet.core s i ts) h.core refl refl (λ k ne. end_keeps_parts v.tablet.core s i ts k (turned s k ne)) (λ k ne. ap (place_at k) fewer ∙ place_fewer v.tablet.places s k ne) (ap (tablet_root v) beside) refl) lent

-- ---- the sessions that run

-- a session that is over
pub over_visit : {L D C : Type 0} (n : ℕ) (v : EngineView L D C) (running : List ℕ) → running ≡ filter (λ k. not (k == n)) v.running → IsVisit n v (record v { running = running })
over_visit n v running fewer = record {
  line = inl refl;
  parts = λ k ne i. record {
    pass = record { session = part v.tablet.core k; place = place_at k v.tablet.places; out = out_of v.log.holder v.log.out k; runs = (ap (runs k) fewer ∙ runs_fewer v.running n k ne) i; upkeep = upkeep_at k v.upkeep.passes };
    lent = lent_of v.log.holder v.log.known k;
    turn = lent_of v.store.holder v.store k;
    root = root_of v;
  };
}

-- ---- the log lent and taken home

none_out : (s k : ℕ) (out : List Entry) → (k ≡ s → ⊥) → out_of (Some s) out k ≡ None
none_out s k out ne = ap (λ b. cond b (Some out) None) (ne_eqb s k (turned s k ne))

none_lent : {J : Type 0} (s k : ℕ) (known : J) → (k ≡ s → ⊥) → lent_of (Some s) known k ≡ None
none_lent s k known ne = ap (λ b. cond b (Some known) None) (ne_eqb s k (turned s k ne))

pub not_lent : (holder : Option ℕ) → ((by : ℕ) → holder ≡ Some by → ⊥) → holder ≡ None
not_lent None free = refl
not_lent (Some by) free = absurd (free by refl)

-- the log goes out to this pass
pub out_visit : {L D C : Type 0} (n : ℕ) (v : EngineView L D C) (log : SideView L) → v.log.holder ≡ None → log.holder ≡ Some n → log.first ≡ v.log.first → IsVisit n v (record v { log = log })
out_visit n v log home lent began = record {
  line = inl refl;
  parts = λ k ne.
      let out = ap (λ h. out_of h log.out k) lent ∙ none_out n k log.out ne ∙ sym (ap (λ h. out_of h v.log.out k) home) in
      let known = ap (λ h. lent_of h log.known k) lent ∙ none_lent n k log.known ne ∙ sym (ap (λ h. lent_of h v.log.known k) home) in
      λ i. record { pass = record { session = part v.tablet.core k; place = place_at k v.tablet.places; out = out i; runs = runs k v.running; upkeep = upkeep_at k v.upkeep.passes }; lent = known i; turn = lent_of v.store.holder v.store k; root = record (root_of v) { first_log = began i } };
}

-- ---- a turn of the store

-- Another store, whose superblock has the same columns: of a pass that does not have it before and behind nothing changes
turn_part : {L D C : Type 0} (n : ℕ) (v : EngineView L D C) (tablet : View C) (store : StoreView D) (upkeep : UpkeepsView) → Adds session_of n v.tablet.core.trail tablet.core.trail → ((k : ℕ) → (k ≡ n → ⊥) → part tablet.core k ≡ part v.tablet.core k) → tablet.places ≡ v.tablet.places
    → tablet_root v tablet ≡ root_of v → ((k : ℕ) → (k ≡ n → ⊥) → lent_of store.holder store k ≡ None) → ((k : ℕ) → (k ≡ n → ⊥) → lent_of v.store.holder v.store k ≡ None) → store.meta.schema ≡ v.store.meta.schema → store.first ≡ v.store.first
    → ((k : ℕ) → (k ≡ n → ⊥) → upkeep_at k upkeep.passes ≡ upkeep_at k v.upkeep.passes) → IsVisit n v (record v { tablet = tablet; store = store; upkeep = upkeep })
turn_part n v tablet store upkeep line session places root after before columns began others = record {
  line = line;
  parts = λ k ne i. record {
    pass = record { session = session k ne i; place = place_at k (places i); out = out_of v.log.holder v.log.out k; runs = runs k v.running; upkeep = others k ne i };
    lent = lent_of v.log.holder v.log.known k;
    turn = (after k ne ∙ sym (before k ne)) i;
    root = record (root i) { columns = columns i; first_store = began i };
  };
}

none_of : {J : Type 0} (holder : Option ℕ) (known : J) (k : ℕ) → holder ≡ None → lent_of holder known k ≡ None
none_of holder known k home = ap (λ h. lent_of h known k) home

others_of : {J : Type 0} (n : ℕ) (holder : Option ℕ) (known : J) → holder ≡ Some n → (k : ℕ) → (k ≡ n → ⊥) → lent_of holder known k ≡ None
others_of n holder known out k ne = ap (λ h. lent_of h known k) out ∙ none_lent n k known ne

-- it went out to this pass, or came home from it, and this pass's maintenance may have changed
pub turn_out_visit : {L D C : Type 0} (n : ℕ) (v : EngineView L D C) (store : StoreView D) (upkeep : UpkeepsView) → v.store.holder ≡ None → store.holder ≡ Some n → store.meta.schema ≡ v.store.meta.schema → store.first ≡ v.store.first → ((k : ℕ) → (k ≡ n → ⊥) → upkeep_at k upkeep.passes ≡ upkeep_at k v.upkeep.passes)
    → IsVisit n v (record v { store = store; upkeep = upkeep })
turn_out_visit n v store upkeep home out columns began others =
    turn_part n v v.tablet store upkeep (inl refl) (λ k ne. refl) refl refl (others_of n store.holder store out) (λ k ne. none_of v.store.holder v.store k home) columns began others

pub turn_home_visit : {L D C : Type 0} (n : ℕ) (v : EngineView L D C) (store : StoreView D) (upkeep : UpkeepsView) → v.store.holder ≡ Some n → store.holder ≡ None → store.meta.schema ≡ v.store.meta.schema → store.first ≡ v.store.first → ((k : ℕ) → (k ≡ n → ⊥) → upkeep_at k upkeep.passes ≡ upkeep_at k v.upkeep.passes)
    → IsVisit n v (record v { store = store; upkeep = upkeep })
turn_home_visit n v store upkeep out home columns began others =
    turn_part n v v.tablet store upkeep (inl refl) (λ k ne. refl) refl refl (λ k ne. none_of store.holder store k home) (others_of n v.store.holder v.store out) columns began others

-- it came home from this pass, and the tablet has stopped
pub stop_visit : {L D C : Type 0} (n : ℕ) (v : EngineView L D C) (tablet : View C) (store : StoreView D) → (v.tablet.core.stopped ≡ false → tablet ≡ record v.tablet { core = halted v.tablet.core }) → (v.tablet.core.stopped ≡ true → tablet ≡ v.tablet)
    → v.store.holder ≡ Some n → store.holder ≡ None → store.meta.schema ≡ v.store.meta.schema → store.first ≡ v.store.first → IsVisit n v (record v { tablet = tablet; store = store })
stop_visit n v tablet store stops once out home columns began = elim v.tablet.core.stopped as (λ b. v.tablet.core.stopped ≡ b → IsVisit n v (record v { tablet = tablet; store = store })) [
  | true ↦ λ is. let same = once is in
      turn_part n v tablet store v.upkeep (inl (ap (λ t. t.core.trail) same)) (λ k ne. ap (λ t. part t.core k) same) (ap (λ t. t.places) same) (ap (tablet_root v) same) (λ k ne. none_of store.holder store k home) (others_of n v.store.holder v.store out) columns began (λ k ne. refl)
  | false ↦ λ is. let new = stops is in
      turn_part n v tablet store v.upkeep (inr (event.Stop, ap (λ t. t.core.trail) new, inr refl)) (λ k ne. ap (λ t. part t.core k) new) (ap (λ t. t.places) new) (ap (tablet_root v) new) (λ k ne. none_of store.holder store k home) (others_of n v.store.holder v.store out) columns began (λ k ne. refl)
] refl

-- it goes out while a DeltaMemStore of a rowset is frozen
pub deltas_out_visit : {L D C : Type 0} (n : ℕ) (v : EngineView L D C) (tablet : View C) (names : List Target) (store : StoreView D) (upkeep : UpkeepsView) → tablet ≡ record v.tablet { names = names } → v.store.holder ≡ None → store.holder ≡ Some n → store.meta.schema ≡ v.store.meta.schema → store.first ≡ v.store.first
    → ((k : ℕ) → (k ≡ n → ⊥) → upkeep_at k upkeep.passes ≡ upkeep_at k v.upkeep.passes) → IsVisit n v (record v { tablet = tablet; store = store; upkeep = upkeep })
deltas_out_visit {L} {D} {C} n v tablet names store upkeep frozen home out columns began others =
    subst (λ (t : View C). IsVisit n v (record v { tablet = t; store = store; upkeep = upkeep })) (sym frozen)
    (turn_part n v (record v.tablet { names = names }) store upkeep (inl refl) (λ k ne. refl) refl refl (others_of n store.holder store out) (λ k ne. none_of v.store.holder v.store k home) columns began others)

-- ---- what a pass has of maintenance

pub upkeep_visit : {L D C : Type 0} (n : ℕ) (u : UpkeepView) (v : EngineView L D C) (upkeep : UpkeepsView) → HasUpkeep n u v.upkeep upkeep → IsVisit n v (record v { upkeep = upkeep })
upkeep_visit n u v upkeep has = record {
  line = inl refl;
  parts = λ k ne i. record {
    pass = record { session = part v.tablet.core k; place = place_at k v.tablet.places; out = out_of v.log.holder v.log.out k; runs = runs k v.running; upkeep = has.others k ne i };
    lent = lent_of v.log.holder v.log.known k;
    turn = lent_of v.store.holder v.store k;
    root = root_of v;
  };
}

-- the stores, and what this pass has of maintenance: neither is a part of another pass
pub shelf_visit : {L D C : Type 0} (n : ℕ) (u : UpkeepView) (v : EngineView L D C) (tablet : View C) (upkeep : UpkeepsView) (stores : List Store) (names : List Target) (frozen : ℕ) (pool : Contents) (files : List HeldFiles)
    → tablet ≡ record v.tablet { core = record v.tablet.core { stores = stores }; names = names; frozen = frozen; pool = pool; files = files } → HasUpkeep n u v.upkeep upkeep → IsVisit n v (record v { tablet = tablet; upkeep = upkeep })
shelf_visit n u v tablet upkeep stores names frozen pool files is has = record {
  line = inl (ap (λ t. t.core.trail) is);
  parts = λ k ne.
      let session = ap (λ t. part t.core k) is in
      let place = ap (λ t. place_at k t.places) is in
      let root = ap (tablet_root v) is in
      λ i. record {
        pass = record { session = session i; place = place i; out = out_of v.log.holder v.log.out k; runs = runs k v.running; upkeep = has.others k ne i };
        lent = lent_of v.log.holder v.log.known k;
        turn = lent_of v.store.holder v.store k;
        root = root i;
      };
}
