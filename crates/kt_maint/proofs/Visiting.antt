-- What a visit does, step by step.
use Rattle.std.proofs.Common.{◌≡◌, ℕ, true, false, List, Some, None, inl, inr, refl, sym, ap, subst, ◌∙◌}
use Rattle.std.specs.Prelude.{IsTrue}
use Rattle.kt_history.specs.declared.event.Event.{Event}
use Rattle.kt_history.specs.declared.event.Event.TheVariants as event
use Rattle.kt_seatlock.specs.Trails.{Adds}
use Rattle.kt_histlaws.specs.Events.{halted}
use Rattle.kt_histlaws.specs.Parts.{part}
use Rattle.kt_tablet.specs.Views.{View, place_at}
use Rattle.kt_storeside.specs.declared.side.Lent.{Lent}
use Rattle.kt_storeside.specs.Sides.{StoreView}
use Rattle.kt_engine.specs.Engines.{EngineView}
use Rattle.kt_engine.specs.Sessions.{runs}
use Rattle.kt_engine.specs.Jobs.{UpkeepsView, upkeep_at}
use Rattle.kt_engine.specs.Visits.{session_of, out_of, lent_of, root_of, IsVisit}
use Rattle.kt_maint.specs.Runs.{KeepsAsks, IsQuiet, LentToWrite, HasTurned, HasBroken, AddsStop, StandsAs}

-- the same maintenance of a pass
pub asks_same : (n : ℕ) (old new : UpkeepsView) → new ≡ old → KeepsAsks n old new
asks_same n old new same = record { own = ap (λ (u : UpkeepsView). upkeep_at n u.passes) same ∙ (λ k. record (upkeep_at n old.passes) { job = (upkeep_at n (sym same k).passes).job }); begun = ap (λ (u : UpkeepsView). u.begun) same }

pub asks_then : (n : ℕ) (a b c : UpkeepsView) → KeepsAsks n a b → KeepsAsks n b c → KeepsAsks n a c
asks_then n a b c first second = record {
  own = second.own ∙ (λ k. record (first.own k) { job = (upkeep_at n c.passes).job });
  begun = second.begun ∙ first.begun;
}

-- no pass has the store out before and behind
turn_same : {D : Type 0} (old new : StoreView D) → old.holder ≡ None → new.holder ≡ None → (k : ℕ) → lent_of new.holder new k ≡ lent_of old.holder old k
turn_same old new was is k = ap (λ h. lent_of h new k) is ∙ sym (ap (λ h. lent_of h old k) was)

module _ {L D C : Type 0} (n : ℕ) where
  -- steps of which the first adds no line are one visit
  pub visits_then : (a b c : EngineView L D C) → IsVisit n a b → b.tablet.core.trail ≡ a.tablet.core.trail → IsVisit n b c → IsVisit n a c
  visits_then a b c first same second = record {
    line = subst (λ (t : List Event). Adds session_of n t c.tablet.core.trail) same second.line;
    parts = λ k ne. second.parts k ne ∙ first.parts k ne;
  }

  -- the session stands while the tablet is the same, or has stopped alone
  pub stands_same : (a b : EngineView L D C) → b.tablet ≡ a.tablet → StandsAs n a b
  stands_same a b e = record { line = inl (ap (λ (t : View C). t.core.trail) e); session = ap (λ (t : View C). part t.core n) e; place = ap (λ (t : View C). place_at n t.places) e }

  pub stands_halted : (a b : EngineView L D C) → b.tablet ≡ record a.tablet { core = halted a.tablet.core } → StandsAs n a b
  stands_halted a b e = record { line = inr (ap (λ (t : View C). t.core.trail) e); session = ap (λ (t : View C). part t.core n) e; place = ap (λ (t : View C). place_at n t.places) e }

  -- whether it had stopped before or not
  pub stands_either : (a b : EngineView L D C) → (a.tablet.core.stopped ≡ false → b.tablet ≡ record a.tablet { core = halted a.tablet.core }) → (a.tablet.core.stopped ≡ true → b.tablet ≡ a.tablet) → StandsAs n a b
  stands_either a b core once = elim a.tablet.core.stopped as (λ s. a.tablet.core.stopped ≡ s → StandsAs n a b) [ true ↦ λ e. stands_same a b (once e) | false ↦ λ e. stands_halted a b (core e) ] refl

  -- a step, and one without a line behind it
  pub visits_on : (a b c : EngineView L D C) → IsVisit n a b → c.tablet.core.trail ≡ b.tablet.core.trail → IsVisit n b c → IsVisit n a c
  visits_on a b c first same second = record {
    line = subst (λ (t : List Event). Adds session_of n a.tablet.core.trail t) (sym same) first.line;
    parts = λ k ne. second.parts k ne ∙ first.parts k ne;
  }

  pub stands_behind : (a b c : EngineView L D C) → StandsAs n a b → c.tablet.core.trail ≡ b.tablet.core.trail → StandsAs n b c → StandsAs n a c
  stands_behind a b c first same second = record { line = subst (λ (t : List Event). AddsStop a.tablet.core.trail t) (sym same) first.line; session = second.session ∙ first.session; place = second.place ∙ first.place }

  -- a step without a line, and what comes behind it
  pub stands_then : (a b c : EngineView L D C) → b.tablet.core.trail ≡ a.tablet.core.trail → StandsAs n a b → StandsAs n b c → StandsAs n a c
  stands_then a b c same first second = record { line = subst (λ (t : List Event). AddsStop t c.tablet.core.trail) same second.line; session = second.session ∙ first.session; place = second.place ∙ first.place }

  -- a step without a line, and what comes behind it
  pub visit_then : (a b c : EngineView L D C) → IsQuiet n a b → IsVisit n b c → IsVisit n a c
  visit_then a b c first second = visits_then a b c first.visit (ap (λ (t : View C). t.core.trail) first.tablet) second

  pub quiet_then : (a b c : EngineView L D C) → IsQuiet n a b → IsQuiet n b c → IsQuiet n a c
  quiet_then a b c first second = record {
    visit = visit_then a b c first second.visit;
    tablet = second.tablet ∙ first.tablet;
    log = second.log ∙ first.log;
    asks = asks_then n a.upkeep b.upkeep c.upkeep first.asks second.asks;
  }

  -- the store and this pass's maintenance have changed, and nobody has it out
  side_visit : (b : EngineView L D C) (s : StoreView D) (u : UpkeepsView) → b.store.holder ≡ None → s.holder ≡ None → s.meta.schema ≡ b.store.meta.schema → s.first ≡ b.store.first → ((k : ℕ) → (k ≡ n → ⊥) → upkeep_at k u.passes ≡ upkeep_at k b.upkeep.passes)
      → IsVisit n b (record b { store = s; upkeep = u })
  side_visit b s u was home schema began others = record {
    line = inl refl;
    parts = λ k ne i. record {
      pass = record { session = part b.tablet.core k; place = place_at k b.tablet.places; out = out_of b.log.holder b.log.out k; runs = runs k b.running; upkeep = others k ne i };
      lent = lent_of b.log.holder b.log.known k;
      turn = turn_same b.store s was home k i;
      root = record (root_of b) { columns = schema i; first_store = began i };
    };
  }

  -- and the tablet has stopped
  broken_visit : (b : EngineView L D C) (s : StoreView D) (u : UpkeepsView) → b.store.holder ≡ None → s.holder ≡ None → s.meta.schema ≡ b.store.meta.schema → s.first ≡ b.store.first → ((k : ℕ) → (k ≡ n → ⊥) → upkeep_at k u.passes ≡ upkeep_at k b.upkeep.passes)
      → IsVisit n b (record b { tablet = record b.tablet { core = halted b.tablet.core }; store = s; upkeep = u })
  broken_visit b s u was home schema began others = record {
    line = inr (event.Stop, refl, inr refl);
    parts = λ k ne i. record {
      pass = record { session = part b.tablet.core k; place = place_at k b.tablet.places; out = out_of b.log.holder b.log.out k; runs = runs k b.running; upkeep = others k ne i };
      lent = lent_of b.log.holder b.log.known k;
      turn = turn_same b.store s was home k i;
      root = record (root_of b) { columns = schema i; first_store = began i };
    };
  }

  -- ---- a turn: the store goes out, and comes home

  abbrev pub LentOut : EngineView L D C → Lent D → EngineView L D C → Type 0
  LentOut b lent out = out ≡ record b { store = record b.store { home = None; holder = Some n; lent = lent.meta }; upkeep = out.upkeep }

  module _ (b out new : EngineView L D C) (lent : Lent D) (home : b.store.holder ≡ None) (is : LentOut b lent out) where
    pub turned_visit : HasTurned out new → ((k : ℕ) → (k ≡ n → ⊥) → upkeep_at k new.upkeep.passes ≡ upkeep_at k b.upkeep.passes) → IsVisit n b new
    turned_visit t others =
        let all : new ≡ record b { store = new.store; upkeep = new.upkeep } = t.beside ∙ ap (λ (v : EngineView L D C). record v { store = new.store; upkeep = new.upkeep }) is in
        subst (IsVisit n b) (sym all) (side_visit b new.store new.upkeep home t.home (t.columns ∙ ap (λ (v : EngineView L D C). v.store.meta.schema) is) (t.began ∙ ap (λ (v : EngineView L D C). v.store.first) is) others)

    pub broken_turn : HasBroken out new → ((k : ℕ) → (k ≡ n → ⊥) → upkeep_at k out.upkeep.passes ≡ upkeep_at k b.upkeep.passes) → IsVisit n b new
    broken_turn t others =
        let all : new ≡ record b { tablet = record b.tablet { core = halted b.tablet.core }; store = new.store; upkeep = out.upkeep } =
        t.beside ∙ ap (λ (v : EngineView L D C). record v { tablet = record v.tablet { core = halted v.tablet.core }; store = new.store; upkeep = out.upkeep }) is in
        subst (IsVisit n b) (sym all) (broken_visit b new.store out.upkeep home t.home (t.columns ∙ ap (λ (v : EngineView L D C). v.store.meta.schema) is) (t.began ∙ ap (λ (v : EngineView L D C). v.store.first) is) others)

    pub to_write : lent.device ≡ b.store.known → lent.meta ≡ None → (lent.next_rowset ≡ b.store.next_rowset) × (lent.next_file ≡ b.store.next_file) → IsTrue b.store.whole → LentToWrite n out.store lent
    to_write device none numbers whole = record {
      out = ap (λ (v : EngineView L D C). v.store.holder) is;
      whole = subst (λ (v : EngineView L D C). IsTrue v.store.whole) (sym is) whole;
      device = device ∙ sym (ap (λ (v : EngineView L D C). v.store.known) is);
      meta = (none, ap (λ (v : EngineView L D C). v.store.lent) is ∙ none);
      numbers = (numbers.0 ∙ sym (ap (λ (v : EngineView L D C). v.store.next_rowset) is), numbers.1 ∙ sym (ap (λ (v : EngineView L D C). v.store.next_file) is));
    }

  -- the store came home, or came home broken
  pub came_home : (old new : EngineView L D C) (s : StoreView D) → new ≡ record old { store = s; upkeep = new.upkeep } → s.holder ≡ None → new.store.meta.schema ≡ old.store.meta.schema → s.first ≡ old.store.first → HasTurned old new
  came_home old new s is holder columns began = record {
    beside = is ∙ (λ k. record old { store = sym (ap (λ (v : EngineView L D C). v.store) is) k; upkeep = new.upkeep });
    home = ap (λ (v : EngineView L D C). v.store.holder) is ∙ holder;
    columns = columns;
    began = ap (λ (v : EngineView L D C). v.store.first) is ∙ began;
  }

  pub came_broken : (old new : EngineView L D C) (s : StoreView D) → new ≡ record old { tablet = new.tablet; store = s } → new.tablet ≡ record old.tablet { core = halted old.tablet.core } → s.holder ≡ None → s.meta ≡ old.store.meta → s.first ≡ old.store.first → HasBroken old new
  came_broken old new s is tablet holder meta began = record {
    beside = is ∙ (λ k. record old { tablet = tablet k; store = sym (ap (λ (v : EngineView L D C). v.store) is) k });
    home = ap (λ (v : EngineView L D C). v.store.holder) is ∙ holder;
    columns = ap (λ (v : EngineView L D C). v.store.meta.schema) is ∙ ap (λ m. m.schema) meta;
    began = ap (λ (v : EngineView L D C). v.store.first) is ∙ began;
  }

-- it has stopped then
pub stopped_either : {L D C : Type 0} (a b : EngineView L D C) → (a.tablet.core.stopped ≡ false → b.tablet ≡ record a.tablet { core = halted a.tablet.core }) → (a.tablet.core.stopped ≡ true → b.tablet ≡ a.tablet) → b.tablet.core.stopped ≡ true
stopped_either a b core once = elim a.tablet.core.stopped as (λ s. a.tablet.core.stopped ≡ s → b.tablet.core.stopped ≡ true) [ true ↦ λ e. ap (λ t. t.core.stopped) (once e) ∙ e | false ↦ λ e. ap (λ t. t.core.stopped) (core e) ] refl

-- nothing has changed
pub quiet_same : {L D C : Type 0} (n : ℕ) (a b : EngineView L D C) → b ≡ a → IsVisit n a b → IsQuiet n a b
quiet_same {L} {D} {C} n a b same visit = record {
  visit = visit;
  tablet = ap (λ (v : EngineView L D C). v.tablet) same;
  log = ap (λ (v : EngineView L D C). v.log) same;
  asks = asks_same n a.upkeep b.upkeep (ap (λ (v : EngineView L D C). v.upkeep) same);
}

pub beside_same : {L D C : Type 0} (a b : EngineView L D C) → b ≡ a → b ≡ record a { upkeep = b.upkeep }
beside_same {L} {D} {C} a b same = same ∙ (λ k. record a { upkeep = sym (ap (λ (v : EngineView L D C). v.upkeep) same) k })
