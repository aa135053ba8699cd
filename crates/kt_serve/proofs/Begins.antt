-- What a visit leaves that may begin a write.
use Rattle.std.proofs.Common.{◌≡◌, ◌≢◌, ℕ, ◌+◌, List, [], ◌∷◌, ◌++◌, Option, Some, None, refl, sym, ap, ◌∙◌, subst, Result, Ok, Err}
use Rattle.std.specs.Prelude.{◌==◌, IfOk, IfErr, OnErr}
use Rattle.std.specs.List.{filter}
use Rattle.kt_history.specs.declared.command.Command.TheVariants as command
use Rattle.kt_history.specs.declared.event.Event.{Event}
use Rattle.kt_history.specs.declared.event.Event.TheVariants as event
use Rattle.kt_history.specs.declared.operation.Write.{Write}
use Rattle.kt_history.specs.declared.operation.RowOp.{RowOp}
use Rattle.kt_history.specs.declared.reply.Reply.{Reply}
use Rattle.kt_history.specs.declared.reply.Reply.TheVariants as reply
use Rattle.kt_history.specs.Replies.{answers, reply_of}
use Rattle.kt_records.specs.declared.entry.Entry.TheVariants.{Replicate}
use Rattle.kt_history.specs.History.{Past}
use Rattle.kt_history.specs.Machine.{nth, set_nth, command_at, IfWrite}
use Rattle.kt_histlaws.specs.Core.{Core, run_past}
use Rattle.kt_histlaws.specs.Events.{begun, answered}
use Rattle.kt_tablet.specs.Visits.{MayBegin, HasBegun, Leaves, IsRefused}
use Rattle.kt_tablet.specs.declared.tablet.write.BeginNo.{BeginNo}
use Rattle.kt_tablet.specs.declared.tablet.write.BeginNo.TheVariants as no
use Rattle.kt_seatlock.specs.Trails.{Follows}
use Rattle.kt_engine.specs.Engines.{EngineView, IsFound, TellsStop, core_from}
use Rattle.kt_engine.proofs.Visiting.{root_stays}
use Rattle.kt_engine.specs.Visits.{Root, root_of, PartView, part_in, session_of, out_of, IsVisit}
use Rattle.kt_serve.specs.Sessions.{Found, HasRoot, SameRoot, OnRoot, IsFree, IsAloft, HasNoLog, IsCommand, IsWrite, IsQuiet, AnswersOne, has_stop, AfterBegin}
use Rattle.kt_serve.proofs.Stops.{stop_seen}
use Rattle.kt_serve.proofs.Lines.{follows_quiet, quiet_self, quiet_then, quiet_line, answers_line, then_answers, is_mine}
use Rattle.kt_serve.proofs.Flights.{none_flies, one_more, nth_set}

pub some_is : {A : Type 0} (x y : A) → Some x ≡ Some y → x ≡ y
some_is x y e = cc

-- ---- what is alike in every part

module _ {L D C : Type 0} where
  -- the root that a part tells is the engine's
  pub root_at : (root : Root L D C) (told : Option (PartView L D C)) (x : EngineView L D C) (n : ℕ) → HasRoot root told → told ≡ Some (part_in x n) → root_of x ≡ root
  root_at root told x n h is = ap (λ (p : PartView L D C). p.root) (some_is (part_in x n) h.part (sym is ∙ h.is)) ∙ h.root_is

  pub has_root : (told : Option (PartView L D C)) (x : EngineView L D C) (n : ℕ) → told ≡ Some (part_in x n) → HasRoot (root_of x) told
  has_root told x n is = record { part = part_in x n; is = is; root_is = refl }

  -- a visit keeps it
  pub same_root : (old new : Option (PartView L D C)) (x y : EngineView L D C) (m n n' : ℕ) → old ≡ Some (part_in x n) → new ≡ Some (part_in y n') → IsVisit m x y → SameRoot old new
  same_root old new x y m n n' was is keeps root h = record { part = part_in y n'; is = is; root_is = root_stays m x y keeps ∙ root_at root old x n h was }

  pub content_of : (x : EngineView L D C) (first : Past) → Found (root_of x) first → IsFound x first
  content_of x first f = f.opens

  -- ---- the session's own

  part_at : (told : Option (PartView L D C)) (p : PartView L D C) (x : EngineView L D C) (n : ℕ) → told ≡ Some p → told ≡ Some (part_in x n) → p ≡ part_in x n
  part_at told p x n a b = some_is p (part_in x n) (sym a ∙ b)

  pub free_calm : (told : Option (PartView L D C)) (i : ℕ) (x : EngineView L D C) (n : ℕ) → IsFree told i → told ≡ Some (part_in x n) → filter (λ w. w.s == n) x.tablet.core.aloft ≡ []
  free_calm told i x n f is = sym (ap (λ (p : PartView L D C). p.pass.session.flight) (part_at told f.part x n f.is is)) ∙ f.calm

  pub free_turn : (told : Option (PartView L D C)) (i : ℕ) (x : EngineView L D C) (n : ℕ) → IsFree told i → told ≡ Some (part_in x n) → nth x.tablet.core.turns n ≡ Some (record { next = i; look = None })
  free_turn told i x n f is = sym (ap (λ (p : PartView L D C). p.pass.session.turn) (part_at told f.part x n f.is is)) ∙ f.turn

  pub free_home : (told : Option (PartView L D C)) (i : ℕ) (x : EngineView L D C) (n : ℕ) → IsFree told i → told ≡ Some (part_in x n) → out_of x.log.holder x.log.out n ≡ None
  free_home told i x n f is = sym (ap (λ (p : PartView L D C). p.pass.out) (part_at told f.part x n f.is is)) ∙ f.home

  -- a write may begin
  pub may_begin : (told : Option (PartView L D C)) (x : EngineView L D C) (n by i : ℕ) (w : Write) → told ≡ Some (part_in x n) → by ≡ n → IsFree told i → IsCommand told n i (command.Write w) → IsWrite i w.ops
      → MayBegin x.tablet.core by i w.ops
  may_begin told x n by i w is me f its ok = record {
    at = record {
      next = ap (nth x.tablet.core.turns) me ∙ free_turn told i x n f is;
      rests = none_flies by x.tablet.core.aloft (ap (λ k. filter (λ v. v.s == k) x.tablet.core.aloft) me ∙ free_calm told i x n f is);
    };
    write = subst (λ c. IfWrite c (λ written. written ≡ w.ops)) (sym (its (root_of x) (has_root told x n is)) ∙ ap (λ k. command_at x.tablet.core.work k i) (sym me)) refl;
  }

  -- what stays of a free session
  stays_free : (told told' : Option (PartView L D C)) (x y : EngineView L D C) (n i : ℕ) → told ≡ Some (part_in x n) → told' ≡ Some (part_in y n) → IsFree told i
      → y.tablet.core ≡ x.tablet.core → y.log.holder ≡ x.log.holder → y.log.out ≡ x.log.out → IsFree told' i
  stays_free told told' x y n i was is f core holds out = record {
    part = part_in y n;
    is = is;
    calm = ap (λ (c : Core). filter (λ w. w.s == n) c.aloft) core ∙ free_calm told i x n f was;
    turn = ap (λ (c : Core). nth c.turns n) core ∙ free_turn told i x n f was;
    home = (λ t. out_of (holds t) (out t) n) ∙ free_home told i x n f was;
  }

  -- a free session stays so, and its lines are those of others
  stays : (told told' : Option (PartView L D C)) (seen seen' : List Event) (x y : EngineView L D C) (n i : ℕ) → told ≡ Some (part_in x n) → told' ≡ Some (part_in y n) → IsFree told i → Follows session_of n seen x.tablet.core.trail → seen' ≡ y.tablet.core.trail
      → y.tablet.core ≡ x.tablet.core → y.log.holder ≡ x.log.holder → y.log.out ≡ x.log.out → IsFree told' i × OnRoot told (λ root. IsQuiet root n seen seen')
  stays told told' seen seen' x y n i was is f follows sees core holds out = (
    stays_free told told' x y n i was is f core holds out,
    λ root h. quiet_then root n seen x.tablet.core.trail seen' (follows_quiet root n seen x.tablet.core.trail follows) (quiet_self root n x.tablet.core.trail seen' (sees ∙ ap (λ (c : Core). c.trail) core)),
  )

  -- the write flies
  begun_aloft : (told told' : Option (PartView L D C)) (seen seen' : List Event) (x y : EngineView L D C) (n i ts : ℕ) (ops : List RowOp) → told ≡ Some (part_in x n) → told' ≡ Some (part_in y n) → IsFree told i → Follows session_of n seen x.tablet.core.trail → seen' ≡ y.tablet.core.trail
      → HasBegun x.tablet.core y.tablet.core n i ops ts → y.log.holder ≡ x.log.holder → y.log.out ≡ x.log.out → IsAloft told' n i ts ops 0 × HasNoLog told' × OnRoot told (λ root. IsQuiet root n seen seen')
  begun_aloft told told' seen seen' x y n i ts ops was is f follows sees h holds out = (
    record {
      part = part_in y n;
      is = is;
      flight = ap (λ (c : Core). filter (λ w. w.s == n) c.aloft) h.core ∙ one_more n x.tablet.core.aloft _ refl (free_calm told i x n f was);
      turn = ap (λ (c : Core). nth c.turns n) h.core ∙ free_turn told i x n f was;
    },
    record { part = part_in y n; is = is; home = (λ t. out_of (holds t) (out t) n) ∙ free_home told i x n f was },
    λ root r. quiet_then root n seen x.tablet.core.trail seen' (follows_quiet root n seen x.tablet.core.trail follows)
        (quiet_line root n x.tablet.core.trail seen' (event.Begin n i ts h.m) (sees ∙ ap (λ (c : Core). c.trail) h.core) (λ k. refl)),
  )

  -- a line of its own answers the command
  pub line_answers : (told told' : Option (PartView L D C)) (seen seen' : List Event) (x y : EngineView L D C) (n i : ℕ) (e : Event) (r : Reply) → told ≡ Some (part_in x n) → told' ≡ Some (part_in y n) → Follows session_of n seen x.tablet.core.trail → seen' ≡ y.tablet.core.trail
      → filter (λ w. w.s == n) y.tablet.core.aloft ≡ [] → nth x.tablet.core.turns n ≢ None → out_of y.log.holder y.log.out n ≡ None
      → y.tablet.core.turns ≡ set_nth x.tablet.core.turns n (record { next = i + 1; look = None }) → y.tablet.core.trail ≡ x.tablet.core.trail ++ e ∷ []
      → ((k : ℕ) → answers n k e ≡ (k == i)) → ((first : Past) → IsFound x first → reply_of x.tablet.core.work (run_past (core_from x first)) e ≡ Some r)
      → IsFree told' (i + 1) × OnRoot told (λ root. AnswersOne root n i r seen seen')
  line_answers told told' seen seen' x y n i e r was is follows sees calm some home turns line mine replies = (
    record {
      part = part_in y n;
      is = is;
      calm = calm;
      turn = ap (λ l. nth l n) turns ∙ nth_set x.tablet.core.turns n _ some;
      home = home;
    },
    λ root h. subst (λ (ro : Root L D C). AnswersOne ro n i r seen seen') (root_at root told x n h was)
        (then_answers (root_of x) n i r seen x.tablet.core.trail seen' (follows_quiet (root_of x) n seen x.tablet.core.trail follows)
        (answers_line (root_of x) n i r x.tablet.core.trail seen' e (sees ∙ line) mine (λ first found. replies first (content_of x first found)))),
  )

  -- the same of a session of which no write flies
  pub free_answers : (told told' : Option (PartView L D C)) (seen seen' : List Event) (x y : EngineView L D C) (n i : ℕ) (e : Event) (r : Reply) (core : Core) → told ≡ Some (part_in x n) → told' ≡ Some (part_in y n) → IsFree told i → Follows session_of n seen x.tablet.core.trail → seen' ≡ y.tablet.core.trail
      → y.tablet.core ≡ core → core.aloft ≡ x.tablet.core.aloft → core.turns ≡ set_nth x.tablet.core.turns n (record { next = i + 1; look = None }) → core.trail ≡ x.tablet.core.trail ++ e ∷ []
      → y.log.holder ≡ x.log.holder → y.log.out ≡ x.log.out → ((k : ℕ) → answers n k e ≡ (k == i)) → ((first : Past) → IsFound x first → reply_of x.tablet.core.work (run_past (core_from x first)) e ≡ Some r)
      → IsFree told' (i + 1) × OnRoot told (λ root. AnswersOne root n i r seen seen')
  free_answers told told' seen seen' x y n i e r core was is f follows sees is_core aloft turns line holds out mine replies =
      line_answers told told' seen seen' x y n i e r was is follows sees (ap (λ (c : Core). filter (λ w. w.s == n) c.aloft) is_core ∙ ap (filter (λ w. w.s == n)) aloft ∙ free_calm told i x n f was)
      (λ none. let both : Some (record { next = i; look = None }) ≡ None = sym (free_turn told i x n f was) ∙ none in cc)
      ((λ t. out_of (holds t) (out t) n) ∙ free_home told i x n f was) (ap (λ (c : Core). c.turns) is_core ∙ turns) (ap (λ (c : Core). c.trail) is_core ∙ line) mine replies

  pub begun_after : (told told' : Option (PartView L D C)) (seen seen' : List Event) (x y : EngineView L D C) (n n' by i : ℕ) (ops : List RowOp) (r : Result ℕ BeginNo)
      → told ≡ Some (part_in x n) → told' ≡ Some (part_in y n') → n' ≡ n → by ≡ n → IsFree told i → Follows session_of n seen x.tablet.core.trail → seen' ≡ y.tablet.core.trail
      → TellsStop x.tablet.core
      → IfOk r (λ ts. HasBegun x.tablet.core y.tablet.core by i ops ts)
      → IfOk r (λ ts. y.log ≡ record x.log { queued = x.log.queued ++ Replicate ts ops ∷ []; room = y.log.room })
      → IfErr r (Leaves x.tablet y.tablet by i) → IfErr r (IsRefused x.tablet ops) → OnErr r (y.log ≡ record x.log { room = y.log.room })
      → AfterBegin told told' seen seen' n i ops r
  begun_after told told' seen seen' x y n n' by i ops (Ok ts) was is same me f follows sees stops begun queued left refused waits =
      begun_aloft told told' seen seen' x y n i ts ops was (is ∙ ap (λ k. Some (part_in y k)) same) f follows sees (subst (λ k. HasBegun x.tablet.core y.tablet.core k i ops ts) me begun) (ap (λ l. l.holder) queued) (ap (λ l. l.out) queued)
  begun_after told told' seen seen' x y n n' by i ops (Err no.Stopped) was is same me f follows sees stops begun queued left refused waits =
      let s = stays told told' seen seen' x y n i was (is ∙ ap (λ k. Some (part_in y k)) same) f follows sees (ap (λ t. t.core) left) (ap (λ l. l.holder) waits) (ap (λ l. l.out) waits) in
      (s.0, s.1, ap has_stop (sees ∙ ap (λ t. t.core.trail) left) ∙ stop_seen x stops refused)
  begun_after told told' seen seen' x y n n' by i ops (Err (no.Large m)) was is same me f follows sees stops begun queued left refused waits =
      free_answers told told' seen seen' x y n i (event.Large n i m) (reply.Large m) (answered x.tablet.core n i (event.Large n i m)) was (is ∙ ap (λ k. Some (part_in y k)) same) f follows sees (left ∙ ap (λ k. answered x.tablet.core k i (event.Large k i m)) me) refl refl refl (ap (λ l. l.holder) waits) (ap (λ l. l.out) waits)
      (λ k. is_mine n k i) (λ first content. refl)
  begun_after told told' seen seen' x y n n' by i ops (Err (no.Wait ts)) was is same me f follows sees stops begun queued left refused waits =
      stays told told' seen seen' x y n i was (is ∙ ap (λ k. Some (part_in y k)) same) f follows sees (ap (λ t. t.core) left) (ap (λ l. l.holder) waits) (ap (λ l. l.out) waits)
  begun_after told told' seen seen' x y n n' by i ops (Err (no.Room m b)) was is same me f follows sees stops begun queued left refused waits =
      stays told told' seen seen' x y n i was (is ∙ ap (λ k. Some (part_in y k)) same) f follows sees (ap (λ t. t.core) left) (ap (λ l. l.holder) waits) (ap (λ l. l.out) waits)
  begun_after told told' seen seen' x y n n' by i ops (Err no.Memory) was is same me f follows sees stops begun queued left refused waits =
      stays told told' seen seen' x y n i was (is ∙ ap (λ k. Some (part_in y k)) same) f follows sees (ap (λ t. t.core) left) (ap (λ l. l.holder) waits) (ap (λ l. l.out) waits)
