-- Visits that leave a session where it stands.
use Rattle.std.proofs.Common.{◌≡◌, ◌⊎◌, inl, inr, ⊎_elim, ℕ, List, [], ◌∷◌, ◌++◌, Option, Some, None, true, false, cond, refl, sym, ap, ◌∙◌, subst, eq-eqb}
use Rattle.std.specs.Prelude.{◌==◌}
use Rattle.kt_history.specs.declared.event.Event.{Event}
use Rattle.kt_history.specs.declared.event.Event.TheVariants as event
use Rattle.kt_records.specs.declared.entry.Entry.{Entry}
use Rattle.kt_journal.specs.Open.{JournalView}
use Rattle.kt_histlaws.specs.Parts.{part}
use Rattle.kt_histlaws.specs.Events.{halted}
use Rattle.kt_tablet.specs.Views.{View}
use Rattle.kt_seatlock.specs.Trails.{Follows}
use Rattle.kt_engine.specs.Engines.{EngineView, TellsStop}
use Rattle.kt_engine.proofs.Visiting.{root_stays}
use Rattle.kt_engine.specs.Visits.{Root, PartView, part_in, session_of, out_of, lent_of, IsVisit}
use Rattle.std.specs.List.{filter}
use Rattle.kt_history.specs.declared.operation.RowOp.{RowOp}
use Rattle.kt_serve.specs.declared.log.LogTurn.{LogTurn}
use Rattle.kt_serve.specs.declared.log.LogTurn.TheVariants as turn
use Rattle.kt_serve.specs.Sessions.{AfterTurn, LentBy, changes, Flies, HasRoot, IsQuiet, HasNoLog, HasLog, IsGoing, IsStill, IsAloft, has_stop}
use Rattle.kt_serve.proofs.Lines.{follows_quiet, quiet_self, quiet_then, quiet_line}
use Rattle.kt_serve.proofs.Stops.{has_stop-end, has_stop-more, stop_seen}
use Rattle.kt_serve.proofs.Begins.{some_is}

-- a line of nobody's
abbrev pub AddsStop : List Event → List Event → Type 0
AddsStop before after = (after ≡ before) ⊎ (after ≡ before ++ event.Stop ∷ [])

known_of : {J : Type 0} (h : Option ℕ) (known journal : J) (n : ℕ) → lent_of h known n ≡ Some journal → known ≡ journal
known_of None known journal n e = absurd (cc)
known_of (Some by) known journal n e = elim (by == n) as (λ b. cond b (Some known) None ≡ Some journal → known ≡ journal) [ true ↦ λ h. cc | false ↦ λ h. absurd (cc) ] e

out_is : (h : Option ℕ) (out records : List Entry) (n : ℕ) → out_of h out n ≡ Some records → out ≡ records
out_is None out records n e = absurd (cc)
out_is (Some by) out records n e = elim (by == n) as (λ b. cond b (Some out) None ≡ Some records → out ≡ records) [ true ↦ λ h. cc | false ↦ λ h. absurd (cc) ] e

-- a tablet that went on is stopped, or one that was stopped is as it was
abbrev pub Halts : {C : Type 0} → View C → View C → Type 0
Halts old new = (new ≡ record old { core = halted old.core }) ⊎ ((has_stop old.core.trail ≡ true) × (new ≡ old))

pub stopped_once : {L D C : Type 0} (x y : EngineView L D C) → TellsStop x.tablet.core → (x.tablet.core.stopped ≡ false → y.tablet ≡ record x.tablet { core = halted x.tablet.core }) → (x.tablet.core.stopped ≡ true → y.tablet ≡ x.tablet) → Halts x.tablet y.tablet
stopped_once x y stops first once = elim x.tablet.core.stopped as (λ b. x.tablet.core.stopped ≡ b → Halts x.tablet y.tablet) [
  | false ↦ λ goes. inl (first goes)
  | true ↦ λ stopped. inr (stop_seen x stops stopped, once stopped)
] refl

module _ {L D C : Type 0} where
  -- a pass that has the log tells how it went out
  pub went_out : (told : Option (PartView L D C)) (x : EngineView L D C) (n : ℕ) (journal : JournalView L) (records : List Entry) → told ≡ Some (part_in x n) → HasLog told journal records → (x.log.known ≡ journal) × (x.log.out ≡ records)
  went_out told x n journal records is h =
      let here : part_in x n ≡ h.part = some_is (part_in x n) h.part (sym is ∙ h.is) in
      (known_of x.log.holder x.log.known journal n (ap (λ (p : PartView L D C). p.lent) here ∙ h.lent), out_is x.log.holder x.log.out records n (ap (λ (p : PartView L D C). p.pass.out) here ∙ h.out))

  -- where the log does not go out the engine is as it was
  pub lent_same : (Ready : JournalView L → List Entry → Type 0) (x y : EngineView L D C) (by : ℕ) (t : LogTurn L) → LentBy Ready x y by t → changes t ≡ false → y ≡ x
  lent_same Ready x y by turn.Durable lent is = lent
  lent_same Ready x y by (turn.Append batch) lent is = absurd (cc)
  lent_same Ready x y by turn.Wait lent is = lent
  lent_same Ready x y by turn.Stopped lent is = lent.0
  lent_same Ready x y by turn.Memory lent is = lent

  pub still_visit : (told told' : Option (PartView L D C)) (seen seen' : List Event) (x y : EngineView L D C) (m n n' : ℕ) → told ≡ Some (part_in x n) → told' ≡ Some (part_in y n') → n' ≡ n → Follows session_of n seen x.tablet.core.trail → seen' ≡ y.tablet.core.trail
      → IsVisit m x y → part y.tablet.core n ≡ part x.tablet.core n → AddsStop x.tablet.core.trail y.tablet.core.trail → IsStill n told told' seen seen'
  still_visit told told' seen seen' x y m n n' was is same follows sees keeps session line = record {
    session = λ p e.
        let here : part_in x n ≡ p = some_is (part_in x n) p (sym was ∙ e) in (
          part_in y n',
          is,
          ap (part y.tablet.core) same ∙ session ∙ ap (λ (q : PartView L D C). q.pass.session) here,
          root_stays m x y keeps ∙ ap (λ (q : PartView L D C). q.root) here,
        );
    quiet = λ root h.
        quiet_then root n seen x.tablet.core.trail seen' (follows_quiet root n seen x.tablet.core.trail follows)
        (⊎_elim (λ (e : y.tablet.core.trail ≡ x.tablet.core.trail). quiet_self root n x.tablet.core.trail seen' (sees ∙ e))
        (λ (e : y.tablet.core.trail ≡ x.tablet.core.trail ++ event.Stop ∷ []). quiet_line root n x.tablet.core.trail seen' event.Stop (sees ∙ e) (λ k. refl)) line);
  }

  -- the tablet is as it was
  pub still_tablet : (told told' : Option (PartView L D C)) (seen seen' : List Event) (x y : EngineView L D C) (m n n' : ℕ) → told ≡ Some (part_in x n) → told' ≡ Some (part_in y n') → n' ≡ n → Follows session_of n seen x.tablet.core.trail → seen' ≡ y.tablet.core.trail
      → IsVisit m x y → y.tablet ≡ x.tablet → IsStill n told told' seen seen'
  still_tablet told told' seen seen' x y m n n' was is same follows sees keeps e =
      still_visit told told' seen seen' x y m n n' was is same follows sees keeps (ap (λ (t : View C). part t.core n) e) (inl (ap (λ (t : View C). t.core.trail) e))

  -- it has stopped
  pub still_stopped : (told told' : Option (PartView L D C)) (seen seen' : List Event) (x y : EngineView L D C) (m n n' : ℕ) → told ≡ Some (part_in x n) → told' ≡ Some (part_in y n') → n' ≡ n → Follows session_of n seen x.tablet.core.trail → seen' ≡ y.tablet.core.trail
      → IsVisit m x y → Halts x.tablet y.tablet → IsStill n told told' seen seen'
  still_stopped told told' seen seen' x y m n n' was is same follows sees keeps (inl e) =
      still_visit told told' seen seen' x y m n n' was is same follows sees keeps (ap (λ (t : View C). part t.core n) e) (inr (ap (λ (t : View C). t.core.trail) e))
  still_stopped told told' seen seen' x y m n n' was is same follows sees keeps (inr e) =
      still_visit told told' seen seen' x y m n n' was is same follows sees keeps (ap (λ (t : View C). part t.core n) e.1) (inl (ap (λ (t : View C). t.core.trail) e.1))

  -- an engine that was not changed
  pub still_same : (told told' : Option (PartView L D C)) (seen seen' : List Event) (x : EngineView L D C) (n n' : ℕ) → told ≡ Some (part_in x n) → told' ≡ Some (part_in x n') → n' ≡ n → Follows session_of n seen x.tablet.core.trail → seen' ≡ x.tablet.core.trail
      → IsStill n told told' seen seen'
  still_same told told' seen seen' x n n' was is same follows sees = still_tablet told told' seen seen' x x n n n' was is same follows sees (record { line = inl refl; parts = λ k ne. refl }) refl

  -- the log is at home
  pub no_log : (told' : Option (PartView L D C)) (y : EngineView L D C) (n' : ℕ) → told' ≡ Some (part_in y n') → y.log.holder ≡ None → HasNoLog told'
  no_log told' y n' is home = record { part = part_in y n'; is = is; home = ap (λ h. out_of h y.log.out n') home }

  -- or stays with the pass that has it
  pub no_log_same : (told told' : Option (PartView L D C)) (x y : EngineView L D C) (n n' : ℕ) → told ≡ Some (part_in x n) → told' ≡ Some (part_in y n') → n' ≡ n → y ≡ x → HasNoLog told → HasNoLog told'
  no_log_same told told' x y n n' was is same e h = record {
    part = part_in y n';
    is = is;
    home = (λ t. out_of (e t).log.holder (e t).log.out (same t)) ∙ (ap (λ (p : PartView L D C). p.pass.out) (some_is (part_in x n) h.part (sym was ∙ h.is)) ∙ h.home);
  }

  -- it goes out to this pass
  pub has_log : (told' : Option (PartView L D C)) (x y : EngineView L D C) (n' by : ℕ) (journal : JournalView L) (records : List Entry) → told' ≡ Some (part_in y n') → n' ≡ by → y.log.holder ≡ Some by → y.log.known ≡ journal → y.log.out ≡ records → HasLog told' journal records
  has_log told' x y n' by journal records is me holds known out = record {
    part = part_in y n';
    is = is;
    lent = ap (λ h. lent_of h y.log.known n') holds ∙ ap (λ b. cond b (Some y.log.known) None) (eq-eqb by n' (sym me)) ∙ ap Some known;
    out = ap (λ h. out_of h y.log.out n') holds ∙ ap (λ b. cond b (Some y.log.out) None) (eq-eqb by n' (sym me)) ∙ ap Some out;
  }

  -- what no visit was made to
  pub still_self : (s : ℕ) (a : Option (PartView L D C)) (xs : List Event) → IsStill s a a xs xs
  still_self s a xs = record { session = λ p e. (p, e, refl, refl); quiet = λ root h first found k. refl }

  -- what stands still twice
  pub still_then : (s : ℕ) (a b c : Option (PartView L D C)) (xs ys zs : List Event) → IsStill s a b xs ys → IsStill s b c ys zs → IsStill s a c xs zs
  still_then s a b c xs ys zs f g = record {
    session = λ p e.
        let one = f.session p e in let two = g.session one.0 one.1 in
        (two.0, two.1, two.2 ∙ one.2, two.3 ∙ one.3);
    quiet = λ root h.
        let one = f.session h.part h.is in
        quiet_then root s xs ys zs (f.quiet root h) (g.quiet root (record { part = one.0; is = one.1; root_is = one.3 ∙ h.root_is }));
  }

  pub still_aloft : (s i ts n : ℕ) (ops : _) (a b : Option (PartView L D C)) (xs ys : List Event) → IsStill s a b xs ys → IsAloft a s i ts ops n → IsAloft b s i ts ops n
  still_aloft s i ts n ops a b xs ys f h = let one = f.session h.part h.is in record {
    part = one.0;
    is = one.1;
    flight = ap (λ p. p.flight) one.2 ∙ h.flight;
    turn = ap (λ p. p.turn) one.2 ∙ h.turn;
  }

  pub still_root : (root : Root L D C) (s : ℕ) (a b : Option (PartView L D C)) (xs ys : List Event) → IsStill s a b xs ys → HasRoot root a → HasRoot root b
  still_root root s a b xs ys f h = let one = f.session h.part h.is in record { part = one.0; is = one.1; root_is = one.3 ∙ h.root_is }

pub stop_later : (n : ℕ) (seen trail seen' : List Event) → Follows session_of n seen trail → seen' ≡ trail → has_stop seen ≡ true → has_stop seen' ≡ true
stop_later n seen trail seen' follows sees h = ap has_stop (sees ∙ follows.1) ∙ has_stop-more seen follows.0 h

pub stop_added : {C : Type 0} (old new : View C) (seen : List Event) → seen ≡ new.core.trail → Halts old new → has_stop seen ≡ true
stop_added {C} old new seen sees (inl e) = ap has_stop (sees ∙ ap (λ (t : View C). t.core.trail) e) ∙ has_stop-end old.core.trail
stop_added {C} old new seen sees (inr e) = ap has_stop (sees ∙ ap (λ (t : View C). t.core.trail) e.1) ∙ e.0

-- what a visit leaves that asks for the log
module _ {L D C : Type 0} (Ready : JournalView L → List Entry → Type 0) where
  pub after_turn : (told told' : Option (PartView L D C)) (seen' : List Event) (x y : EngineView L D C) (n n' by : ℕ) (r : LogTurn L) → told ≡ Some (part_in x n) → told' ≡ Some (part_in y n') → n' ≡ n → by ≡ n → seen' ≡ y.tablet.core.trail
      → TellsStop x.tablet.core → HasNoLog told → LentBy Ready x y by r → AfterTurn Ready told' seen' r
  after_turn told told' seen' x y n n' by turn.Durable was is same me sees stops home lent = no_log_same told told' x y n n' was is same lent home
  after_turn told told' seen' x y n n' by (turn.Append batch) was is same me sees stops home lent =
      (has_log told' x y n' by batch.journal batch.records is (same ∙ sym me) lent.0 lent.1 lent.2, lent.3)
  after_turn told told' seen' x y n n' by turn.Wait was is same me sees stops home lent = no_log_same told told' x y n n' was is same lent home
  after_turn told told' seen' x y n n' by turn.Stopped was is same me sees stops home lent =
      (no_log_same told told' x y n n' was is same lent.0 home, ap has_stop (sees ∙ ap (λ v. v.tablet.core.trail) lent.0) ∙ stop_seen x stops lent.1)
  after_turn told told' seen' x y n n' by turn.Memory was is same me sees stops home lent = no_log_same told told' x y n n' was is same lent home

pub aloft_flies : {L D C : Type 0} (told : Option (PartView L D C)) (x : EngineView L D C) (s by i ts n : ℕ) (ops : List RowOp) → told ≡ Some (part_in x s) → by ≡ s → IsAloft told s i ts ops n → Flies x by
aloft_flies {L} {D} {C} told x s by i ts n ops is me a = (
  record { s = s; i = i; ts = ts; ops = ops; applied = n },
  [],
  ap (λ k. filter (λ v. v.s == k) x.tablet.core.aloft) me ∙ sym (ap (λ (p : PartView L D C). p.pass.session.flight) (some_is a.part (part_in x s) (sym a.is ∙ is))) ∙ a.flight,
)

-- a pass's number stays
module _ {L D C : Type 0} where
  pub still_after : (s t : ℕ) (a b c : Option (PartView L D C)) (xs ys zs : List Event) → t ≡ s → IsStill s a b xs ys → IsStill t b c ys zs → IsStill s a c xs zs
  still_after s t a b c xs ys zs e f g = still_then s a b c xs ys zs f (subst (λ k. IsStill k b c ys zs) e g)

  pub still_rests : (s : ℕ) (a b c : Option (PartView L D C)) (xs ys zs : List Event) → c ≡ b → zs ≡ ys → IsStill s a b xs ys → IsStill s a c xs zs
  still_rests s a b c xs ys zs e t f = subst (λ (q : Option (PartView L D C)). IsStill s a q xs zs) (sym e) (subst (λ (l : List Event). IsStill s a b xs l) (sym t) f)

  pub no_log_rests : (b c : Option (PartView L D C)) → c ≡ b → HasNoLog b → HasNoLog c
  no_log_rests b c e h = subst (λ (q : Option (PartView L D C)). HasNoLog q) (sym e) h

  pub aloft_after : (s t i ts n : ℕ) (ops : List RowOp) (a b : Option (PartView L D C)) (xs ys : List Event) → t ≡ s → IsStill s a b xs ys → IsAloft a s i ts ops n → IsAloft b t i ts ops n
  aloft_after s t i ts n ops a b xs ys e f h = subst (λ k. IsAloft b k i ts ops n) (sym e) (still_aloft s i ts n ops a b xs ys f h)

module _ {L D C : Type 0} where
  pub still_going : (s : ℕ) (a b : Option (PartView L D C)) (xs ys : List Event) → IsStill s a b xs ys → IsGoing s a b xs ys
  still_going s a b xs ys f = record { root = λ root h. still_root root s a b xs ys f h; quiet = f.quiet }

  pub going_after : (s t : ℕ) (a b c : Option (PartView L D C)) (xs ys zs : List Event) → t ≡ s → IsGoing s a b xs ys → IsGoing t b c ys zs → IsGoing s a c xs zs
  going_after s t a b c xs ys zs e f g = record {
    root = λ root h. g.root root (f.root root h);
    quiet = λ root h. quiet_then root s xs ys zs (f.quiet root h) (subst (λ k. IsQuiet root k ys zs) e (g.quiet root (f.root root h)));
  }

  -- nothing but lines of others has come
  pub going_others : (s : ℕ) (a b : Option (PartView L D C)) (xs ys : List Event) → b ≡ a → Follows session_of s xs ys → IsGoing s a b xs ys
  going_others s a b xs ys e follows = record {
    root = λ root h. subst (λ (q : Option (PartView L D C)). HasRoot root q) (sym e) h;
    quiet = λ root h. follows_quiet root s xs ys follows;
  }

  pub going_self : (s : ℕ) (a : Option (PartView L D C)) (xs : List Event) → IsGoing s a a xs xs
  going_self s a xs = record { root = λ root h. h; quiet = λ root h first found k. refl }
