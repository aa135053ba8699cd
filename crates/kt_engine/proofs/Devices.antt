-- The log goes out and comes home, and breaks: the engine stands on.
use Rattle.std.proofs.Common.{◌≡◌, ◌≤◌, ◌+◌, ℕ, suc, Bool, true, false, List, [], ◌∷◌, ◌++◌, length, map, Some, None, refl, sym, ap, subst, ◌∙◌, arith, append_assoc, length-append}
use Rattle.std.specs.Prelude.{◌&&◌, not, IsTrue}
use Rattle.std.specs.List.{All}
use Rattle.std.proofs.lemmas.List.{append-nil}
use Rattle.std.proofs.lemmas.List.Elements.{Contains-append_left}
use Rattle.kt_base.specs.Causes.{Rose}
use Rattle.kt_disk.specs.Disk.{Files}
use Rattle.kt_history.specs.declared.event.Event.{Event}
use Rattle.kt_history.specs.declared.event.Event.TheVariants as event
use Rattle.kt_records.specs.declared.entry.Entry.{Entry}
use Rattle.kt_records.specs.declared.entry.Entry.TheVariants.{Replicate}
use Rattle.kt_journal.specs.Order.{IsFramed}
use Rattle.kt_journal.specs.Log.{records_of, CanOpen, IsOldOrBoth}
use Rattle.kt_journal.specs.Open.{JournalView}
use Rattle.kt_loglaws.specs.Side.{SideView}
use Rattle.kt_histlaws.specs.Pending.{Aloft}
use Rattle.kt_histlaws.specs.Events.{halted}
use Rattle.kt_tablet.specs.Views.{View}
use Rattle.kt_engine.specs.Logged.{IsDurable, AcknowledgedIn}
use Rattle.kt_storeside.specs.Sides.{StoreView}
use Rattle.kt_engine.specs.Engines.{EngineView, IsLogged, IsHome, IsEngine, IsReady, TellsStop, KeepsOthers, are_whole}
use Rattle.kt_engine.proofs.Lines.{with_line, line_logged}

all_behind : {X : Type 0} (P : X → Type 0) (xs ys : List X) → All P (xs ++ ys) → All P ys
all_behind P [] ys h = h
all_behind P (x ∷ xs) ys h = all_behind P xs ys (λ k d lt. h (suc k) d (omega arith))

-- what was acknowledged stays so when more is durable
pub acknowledged_longer : (xs ys : List Entry) (trail : List Event) → AcknowledgedIn xs trail → AcknowledgedIn (xs ++ ys) trail
acknowledged_longer xs ys [] h = tt
acknowledged_longer xs ys (event.End s i ts ∷ trail) h = ((h.0.0, Contains-append_left xs ys (Replicate ts h.0.0) h.0.1), acknowledged_longer xs ys trail h.1)
acknowledged_longer xs ys (_ ∷ trail) h = acknowledged_longer xs ys trail h

-- and what is durable of the flying writes
durable_more : (xs ys : List Entry) (aloft : List Aloft) → All (IsDurable xs) aloft → All (IsDurable (xs ++ ys)) aloft
durable_more xs ys aloft h k d lt up = Contains-append_left xs ys _ (h k d lt up)

-- a tablet that goes on has both devices whole
pub both_whole : (a b : Bool) → false ≡ not (a && b) → IsTrue a × IsTrue b
both_whole true true e = (refl, refl)
both_whole true false e = absurd (cc)
both_whole false b e = absurd (cc)

pub goes_whole : {L D C : Type 0} (view : EngineView L D C) → view.tablet.core.stopped ≡ not (are_whole view) → view.tablet.core.stopped ≡ false → IsTrue view.log.whole × IsTrue view.store.whole
goes_whole view whole goes = both_whole view.log.whole view.store.whole (sym goes ∙ whole)

not_both : (b : Bool) → IsTrue b → b ≡ false → ⊥
not_both true is e = cc
not_both false is e = cc

-- what one call keeps of the other files, and the next, both keep
keeps_on : {L : Type 0} (now : L → ℕ) (leaves : L → ℕ → Files → Type 0) (old between new : L) → KeepsOthers now leaves old between → KeepsOthers now leaves between new → KeepsOthers now leaves old new
keeps_on now leaves old between new first then image left =
    let middle = then image left in
    let begins = first middle.image middle.was_left in
    record { image = begins.image; was_left = begins.was_left; others = λ n none. middle.others n none ∙ begins.others n none }

-- it goes out with all that is queued
pub lends : {L D C : Type 0} (tells : Bool) (seen : L → Files) (now : L → ℕ) (leaves : L → ℕ → Files → Type 0) (faults : L → ℕ) (view : EngineView L D C) (log : SideView L) (journal : JournalView L) (number : ℕ)
    → IsEngine tells seen now leaves faults view → view.tablet.core.stopped ≡ false → view.log.home ≡ Some journal → journal ≡ view.log.known → view.log.out ≡ []
    → log ≡ record view.log { home = None; holder = Some number; out = view.log.queued; queued = [] }
    → IsEngine tells seen now leaves faults (record view { log = log })
lends {L} {D} {C} tells seen now leaves faults view log journal number is goes at known out e =
    let same : view.log.out ++ view.log.queued ≡ view.log.queued ++ [] = ap (λ (l : List Entry). l ++ view.log.queued) out ∙ sym (append-nil view.log.queued) in
    let low : faults view.device ≤ faults view.log.known.disk = subst (λ (j : JournalView L). faults view.device ≤ faults j.disk) known (is.home journal at).later in
    subst (λ (l : SideView L). IsEngine tells seen now leaves faults (record view { log = l })) (sym e) (record {
      logged = record {
        run = is.logged.run;
        all = λ t. is.logged.all t ∙ ap (λ (l : List Entry). records_of (seen view.log.known.disk) ++ l) same;
        count = is.logged.count ∙ ap (λ (l : List Entry). view.log.known.count + length l) same;
        begins = is.logged.begins;
        stands = is.logged.stands;
        keeps = λ rules first h plan. is.logged.keeps rules first (record { closed = h.closed; opens = h.opens; holds = h.holds }) plan;
        names = is.logged.names;
        framed = subst (λ (l : List Entry). All IsFramed l) same is.logged.framed;
        durable = is.logged.durable;
        acknowledged = is.logged.acknowledged;
      };
      home = λ j h. absurd (let none : None ≡ Some j = h in cc);
      others = is.others;
      lent = λ by h. (low, (goes_whole view is.whole goes).0);
      whole = is.whole;
      stops = is.stops;
      ready = record { room = is.ready.room; apart = is.ready.apart; spelled = is.ready.spelled; shelved = is.ready.shelved; named = is.ready.named };
      placed = is.placed;
    })

-- it comes home with what was out durable
pub comes_home : {L D C : Type 0} (tells : Bool) (seen : L → Files) (now : L → ℕ) (leaves : L → ℕ → Files → Type 0) (faults : L → ℕ) (view : EngineView L D C) (log : SideView L) (journal : JournalView L) (number : ℕ)
    → IsEngine tells seen now leaves faults view → view.log.holder ≡ Some number → journal.count ≡ view.log.known.count + length view.log.out
    → (IsTrue tells → records_of (seen journal.disk) ≡ records_of (seen view.log.known.disk) ++ view.log.out) → (IsTrue tells → CanOpen now leaves journal.disk) → (IsTrue tells → KeepsOthers now leaves view.log.known.disk journal.disk) → faults view.log.known.disk ≤ faults journal.disk
    → log ≡ record view.log { home = Some journal; known = journal; holder = None; out = [] }
    → IsEngine tells seen now leaves faults (record view { log = log })
comes_home {L} {D} {C} tells seen now leaves faults view log journal number is held count reads opens others later e =
    let out = is.lent number held in
    let up : faults view.device ≤ faults journal.disk = let low = out.0 in omega arith in
    let kept : IsTrue tells → KeepsOthers now leaves view.device journal.disk = λ t. keeps_on now leaves view.device view.log.known.disk journal.disk (is.others t) (others t) in
    let lengths : view.log.known.count + length (view.log.out ++ view.log.queued) ≡ journal.count + length view.log.queued = omega (arith, length-append view.log.out view.log.queued) in
    subst (λ (l : SideView L). IsEngine tells seen now leaves faults (record view { log = l })) (sym e) (record {
      logged = record {
        run = is.logged.run;
        all = λ t. is.logged.all t ∙ sym (append_assoc (records_of (seen view.log.known.disk)) view.log.out view.log.queued) ∙ ap (λ (l : List Entry). l ++ view.log.queued) (sym (reads t));
        count = is.logged.count ∙ lengths;
        begins = λ t. let at = is.logged.begins t in (at.0 ++ view.log.out, reads t ∙ ap (λ (l : List Entry). l ++ view.log.out) at.1 ∙ append_assoc view.records at.0 view.log.out);
        stands = is.logged.stands;
        keeps = λ rules first h plan. is.logged.keeps rules first (record { closed = h.closed; opens = h.opens; holds = h.holds }) plan;
        names = is.logged.names;
        framed = all_behind IsFramed view.log.out view.log.queued is.logged.framed;
        durable = λ t. subst (λ (l : List Entry). All (IsDurable l) view.tablet.core.aloft) (sym (reads t)) (durable_more (records_of (seen view.log.known.disk)) view.log.out view.tablet.core.aloft (is.logged.durable t));
        acknowledged = λ t. subst (λ (l : List Entry). AcknowledgedIn l view.tablet.core.trail) (sym (reads t)) (acknowledged_longer (records_of (seen view.log.known.disk)) view.log.out view.tablet.core.trail (is.logged.acknowledged t));
      };
      home = λ j h.
          let here : journal ≡ j = let some : Some journal ≡ Some j = h in cc in
          subst (λ (k : JournalView L). IsHome tells seen now leaves faults (record view { log = record view.log { home = Some journal; known = journal; holder = None; out = [] } }) k) here (record {
            opens = opens;
            others = kept;
            later = up;
            known = λ k. (refl, refl);
            rose = λ k. absurd (not_both view.log.whole out.1 k);
            images = λ k. absurd (not_both view.log.whole out.1 k);
          });
      others = kept;
      lent = λ by h. absurd (let none : None ≡ Some by = h in cc);
      whole = is.whole;
      stops = is.stops;
      ready = record { room = is.ready.room; apart = is.ready.apart; spelled = is.ready.spelled; shelved = is.ready.shelved; named = is.ready.named };
      placed = is.placed;
    })

-- it comes home as it went out
pub comes_back : {L D C : Type 0} (tells : Bool) (seen : L → Files) (now : L → ℕ) (leaves : L → ℕ → Files → Type 0) (faults : L → ℕ) (view : EngineView L D C) (log : SideView L) (journal : JournalView L) (number : ℕ)
    → IsEngine tells seen now leaves faults view → view.log.holder ≡ Some number → journal ≡ view.log.known → (IsTrue tells → CanOpen now leaves journal.disk)
    → log ≡ record view.log { home = Some journal; holder = None; out = []; queued = view.log.out ++ view.log.queued }
    → IsEngine tells seen now leaves faults (record view { log = log })
comes_back {L} {D} {C} tells seen now leaves faults view log journal number is held known opens e =
    let out = is.lent number held in
    let up : faults view.device ≤ faults journal.disk = subst (λ (j : JournalView L). faults view.device ≤ faults j.disk) (sym known) out.0 in
    subst (λ (l : SideView L). IsEngine tells seen now leaves faults (record view { log = l })) (sym e) (record {
      logged = record {
        run = is.logged.run;
        all = is.logged.all;
        count = is.logged.count;
        begins = is.logged.begins;
        stands = is.logged.stands;
        keeps = λ rules first h plan. is.logged.keeps rules first (record { closed = h.closed; opens = h.opens; holds = h.holds }) plan;
        names = is.logged.names;
        framed = is.logged.framed;
        durable = is.logged.durable;
        acknowledged = is.logged.acknowledged;
      };
      home = λ j h.
          let here : journal ≡ j = let some : Some journal ≡ Some j = h in cc in
          subst (λ (k : JournalView L). IsHome tells seen now leaves faults (record view { log = record view.log { home = Some journal; holder = None; out = []; queued = view.log.out ++ view.log.queued } }) k) here (record {
            opens = opens;
            others = λ t. subst (λ (j : JournalView L). KeepsOthers now leaves view.device j.disk) (sym known) (is.others t);
            later = up;
            known = λ k. (known, refl);
            rose = λ k. absurd (not_both view.log.whole out.1 k);
            images = λ k. absurd (not_both view.log.whole out.1 k);
          });
      others = is.others;
      lent = λ by h. absurd (let none : None ≡ Some by = h in cc);
      whole = is.whole;
      stops = is.stops;
      ready = record { room = is.ready.room; apart = is.ready.apart; spelled = is.ready.spelled; shelved = is.ready.shelved; named = is.ready.named };
      placed = is.placed;
    })

-- it comes home after a fault: a tablet that went on stops, and one that had stopped has its line already
module _ {L D C : Type 0} (tells : Bool) (seen : L → Files) (now : L → ℕ) (leaves : L → ℕ → Files → Type 0) (faults : L → ℕ) (view : EngineView L D C) (journal : JournalView L) (number : ℕ)
    (is : IsEngine tells seen now leaves faults view) (held : view.log.holder ≡ Some number) (later : faults view.log.known.disk ≤ faults journal.disk) (rose : Rose (faults view.log.known.disk) (faults journal.disk))
    (images : IsTrue tells → (image : Files) → leaves journal.disk (now journal.disk) image → IsOldOrBoth (records_of (seen view.log.known.disk)) view.log.out (image 1)) (opens : IsTrue tells → CanOpen now leaves journal.disk)
    (others : IsTrue tells → KeepsOthers now leaves view.log.known.disk journal.disk) where
  abbrev side : SideView L
  side = record view.log { home = Some journal; holder = None; whole = false }

  low : faults view.device ≤ faults view.log.known.disk
  low = (is.lent number held).0

  at_home : (tablet : View C) (j : JournalView L) → Some journal ≡ Some j → IsHome tells seen now leaves faults (record view { tablet = tablet; log = side }) j
  at_home tablet j h =
      let here : journal ≡ j = cc in
      let first = low in
      let rose' : Rose (faults view.device) (faults journal.disk) = omega arith in
      subst (λ (k : JournalView L). IsHome tells seen now leaves faults (record view { tablet = tablet; log = side }) k) here (record {
        opens = opens;
        others = λ t. keeps_on now leaves view.device view.log.known.disk journal.disk (is.others t) (others t);
        later = omega arith;
        known = λ k. absurd (let a : true ≡ false = sym k in cc);
        rose = λ k. rose';
        images = λ k. images;
      })

  -- the rest of an engine beside a tablet whose log stands so
  beside : (tablet : View C) → tablet.core.stopped ≡ true → TellsStop tablet.core → IsLogged tells seen (record view { tablet = tablet }) → IsReady (record view { tablet = tablet })
      → map (λ p. p.0) tablet.places ≡ map (λ w. w.s) tablet.core.aloft → IsEngine tells seen now leaves faults (record view { tablet = tablet; log = side })
  beside tablet stopped stops logged ready placed = record {
    logged = record {
      run = logged.run;
      all = logged.all;
      count = logged.count;
      begins = logged.begins;
      stands = logged.stands;
      keeps = λ rules first h plan. logged.keeps rules first (record { closed = h.closed; opens = h.opens; holds = h.holds }) plan;
      names = logged.names;
      framed = logged.framed;
      durable = logged.durable;
      acknowledged = logged.acknowledged;
    };
    home = λ j h. at_home tablet j h;
    others = is.others;
    lent = λ by h. absurd (let none : None ≡ Some by = h in cc);
    whole = stopped;
    stops = stops;
    ready = record { room = ready.room; apart = ready.apart; spelled = ready.spelled; shelved = ready.shelved; named = ready.named };
    placed = placed;
  }

  breaks_first : view.tablet.core.stopped ≡ false → IsEngine tells seen now leaves faults (record view { tablet = with_line view.tablet event.Stop view.tablet.core.a view.tablet.core.c view.tablet.core.turns true view.tablet.clock; log = side })
  breaks_first goes =
      let end : View C = with_line view.tablet event.Stop view.tablet.core.a view.tablet.core.c view.tablet.core.turns true view.tablet.clock in
      beside end refl (record { goes = λ k. absurd (let a : true ≡ false = k in cc); stopped = λ k. (view.tablet.core.trail, refl) })
      (line_logged tells seen view event.Stop view.tablet.core.a view.tablet.core.c view.tablet.core.turns true view.tablet.clock is.logged tt (omega arith))
      (record { room = is.ready.room; apart = is.ready.apart; spelled = is.ready.spelled; shelved = is.ready.shelved; named = is.ready.named }) is.placed

  breaks_later : view.tablet.core.stopped ≡ true → IsEngine tells seen now leaves faults (record view { log = side })
  breaks_later stopped = beside view.tablet stopped is.stops is.logged is.ready is.placed

  pub breaks : (tablet : View C) (log : SideView L) → (view.tablet.core.stopped ≡ false → tablet ≡ record view.tablet { core = halted view.tablet.core }) → (view.tablet.core.stopped ≡ true → tablet ≡ view.tablet) → log ≡ side
      → IsEngine tells seen now leaves faults (record view { tablet = tablet; log = log })
  breaks tablet log stops once e =
      subst (λ (l : SideView L). IsEngine tells seen now leaves faults (record view { tablet = tablet; log = l })) (sym e)
      (elim view.tablet.core.stopped as (λ b. view.tablet.core.stopped ≡ b → IsEngine tells seen now leaves faults (record view { tablet = tablet; log = side })) [
        | false ↦ λ goes. subst (λ (t : View C). IsEngine tells seen now leaves faults (record view { tablet = t; log = side })) (sym (stops goes)) (breaks_first goes)
        | true ↦ λ stopped. subst (λ (t : View C). IsEngine tells seen now leaves faults (record view { tablet = t; log = side })) (sym (once stopped)) (breaks_later stopped)
      ] refl)

-- ---- the store goes out, and comes home: the log and the tablet stand as they did

pub store_keeps : {L D C : Type 0} (tells : Bool) (seen : L → Files) (now : L → ℕ) (leaves : L → ℕ → Files → Type 0) (faults : L → ℕ) (view : EngineView L D C) (store : StoreView D) → store.whole ≡ view.store.whole
    → IsEngine tells seen now leaves faults view → IsEngine tells seen now leaves faults (record view { store = store })
store_keeps tells seen now leaves faults view store same is = record {
  logged = record {
    run = is.logged.run;
    all = is.logged.all;
    count = is.logged.count;
    begins = is.logged.begins;
    stands = is.logged.stands;
    keeps = λ rules first h plan. is.logged.keeps rules first (record { closed = h.closed; opens = h.opens; holds = h.holds }) plan;
    names = is.logged.names;
    framed = is.logged.framed;
    durable = is.logged.durable;
    acknowledged = is.logged.acknowledged;
  };
  home = λ journal h. let home = is.home journal h in record { opens = home.opens; others = home.others; later = home.later; known = home.known; rose = home.rose; images = home.images };
  others = is.others;
  lent = is.lent;
  whole = is.whole ∙ ap (λ b. not (view.log.whole && b)) (sym same);
  stops = is.stops;
  ready = record { room = is.ready.room; apart = is.ready.apart; spelled = is.ready.spelled; shelved = is.ready.shelved; named = is.ready.named };
  placed = is.placed;
}

-- its device has failed: the tablet stops, or it had
pub store_breaks : {L D C : Type 0} (tells : Bool) (seen : L → Files) (now : L → ℕ) (leaves : L → ℕ → Files → Type 0) (faults : L → ℕ) (view : EngineView L D C) (tablet : View C) (store : StoreView D) → store.whole ≡ false
    → (view.tablet.core.stopped ≡ false → tablet ≡ record view.tablet { core = halted view.tablet.core }) → (view.tablet.core.stopped ≡ true → tablet ≡ view.tablet) → IsEngine tells seen now leaves faults view
    → IsEngine tells seen now leaves faults (record view { tablet = tablet; store = store })
store_breaks {L} {D} {C} tells seen now leaves faults view tablet store broken stops once is =
    elim view.tablet.core.stopped as (λ b. view.tablet.core.stopped ≡ b → IsEngine tells seen now leaves faults (record view { tablet = tablet; store = store })) [
      | false ↦ λ goes. subst (λ (t : View C). IsEngine tells seen now leaves faults (record view { tablet = t; store = store })) (sym (stops goes))
          (beside end refl (record { goes = λ k. absurd (let a : true ≡ false = k in cc); stopped = λ k. (view.tablet.core.trail, refl) })
          (line_logged tells seen view event.Stop view.tablet.core.a view.tablet.core.c view.tablet.core.turns true view.tablet.clock is.logged tt (omega arith))
          (record { room = is.ready.room; apart = is.ready.apart; spelled = is.ready.spelled; shelved = is.ready.shelved; named = is.ready.named }) is.placed)
      | true ↦ λ stopped. subst (λ (t : View C). IsEngine tells seen now leaves faults (record view { tablet = t; store = store })) (sym (once stopped)) (beside view.tablet stopped is.stops is.logged is.ready is.placed)
    ] refl
  where
    end : View C
    end = with_line view.tablet event.Stop view.tablet.core.a view.tablet.core.c view.tablet.core.turns true view.tablet.clock

    none_whole : (b : Bool) → true ≡ not (b && store.whole)
    none_whole true = ap not (sym broken)
    none_whole false = refl

    beside : (t : View C) → t.core.stopped ≡ true → TellsStop t.core → IsLogged tells seen (record view { tablet = t }) → IsReady (record view { tablet = t }) → map (λ p. p.0) t.places ≡ map (λ w. w.s) t.core.aloft
        → IsEngine tells seen now leaves faults (record view { tablet = t; store = store })
    beside t stopped lines logged ready placed = record {
      logged = record {
        run = logged.run;
        all = logged.all;
        count = logged.count;
        begins = logged.begins;
        stands = logged.stands;
        keeps = λ rules first h plan. logged.keeps rules first (record { closed = h.closed; opens = h.opens; holds = h.holds }) plan;
        names = logged.names;
        framed = logged.framed;
        durable = logged.durable;
        acknowledged = logged.acknowledged;
      };
      home = λ journal h. let home = is.home journal h in record { opens = home.opens; others = home.others; later = home.later; known = home.known; rose = home.rose; images = home.images };
      others = is.others;
      lent = is.lent;
      whole = stopped ∙ none_whole view.log.whole;
      stops = lines;
      ready = record { room = ready.room; apart = ready.apart; spelled = ready.spelled; shelved = ready.shelved; named = ready.named };
      placed = placed;
    }
