-- The visits of a maintenance command.
use Rattle.std.proofs.Common.{◌≡◌, ℕ, ◌+◌, List, Option, Some, Result, Ok, Err, refl, sym, ap, ◌∙◌, subst}
use Rattle.std.specs.Prelude.{◌==◌, IfOk, OnOk, OnErr}
use Rattle.std.specs.List.{filter}
use Rattle.kt_base.specs.declared.chore.Chore.{Chore}
use Rattle.kt_bytes.specs.declared.memory.NoMemory.{NoMemory}
use Rattle.kt_history.specs.declared.command.Command.{Command}
use Rattle.kt_history.specs.declared.command.Command.TheVariants as command
use Rattle.kt_history.specs.declared.event.Event.{Event}
use Rattle.kt_history.specs.declared.event.Event.TheVariants as event
use Rattle.kt_history.specs.declared.reply.Reply.{Reply}
use Rattle.kt_history.specs.declared.reply.Reply.TheVariants as reply
use Rattle.kt_history.specs.Machine.{nth, command_at, IsChore}
use Rattle.kt_histlaws.specs.Events.{answered}
use Rattle.kt_tablet.specs.Visits.{MayAnswerChore}
use Rattle.kt_seatlock.specs.Trails.{Follows}
use Rattle.kt_engine.specs.Calls.{HasNoDevice, HasDone, StandsStill, SeesOthers, IsThrough}
use Rattle.kt_engine.specs.Engines.{EngineView}
use Rattle.kt_engine.specs.Jobs.{UpkeepView, upkeep_at}
use Rattle.kt_engine.specs.Visits.{PartView, part_in, session_of, root_of}
use Rattle.kt_serve.specs.Maintained.{HasDoneWith, KeepsUpkeep}
use Rattle.kt_serve.specs.Answered.{IsOpen, IsAnswered}
use Rattle.kt_serve.specs.Sessions.{IsFree, IsCommand, HasNoLog, OnRoot, AnswersOne, AfterCommand, IsGoing}
use Rattle.kt_serve.proofs.Lines.{follows_quiet, is_mine}
use Rattle.kt_serve.proofs.Flights.{none_flies}
use Rattle.kt_serve.proofs.Stills.{going_after}
use Rattle.kt_serve.proofs.Commands.{after_going}
use Rattle.kt_serve.proofs.Open.{open_before, is_answered}
use Rattle.kt_serve.proofs.Begins.{some_is, has_root, free_calm, free_turn, free_answers}

same_chore : (a b : Chore) → Some (command.Chore a) ≡ Some (command.Chore b) → a ≡ b
same_chore a b e = cc

module _ {L D C : Type 0} where
  pub may_answer : (told : Option (PartView L D C)) (x : EngineView L D C) (n by i : ℕ) (chore : Chore) → told ≡ Some (part_in x n) → by ≡ n → IsFree told i → IsCommand told n i (command.Chore chore) → MayAnswerChore x.tablet.core by i
  may_answer told x n by i chore is me f its = record {
    at = record {
      next = ap (nth x.tablet.core.turns) me ∙ free_turn told i x n f is;
      rests = none_flies by x.tablet.core.aloft (ap (λ k. filter (λ v. v.s == k) x.tablet.core.aloft) me ∙ free_calm told i x n f is);
    };
    chore = subst IsChore (sym (its (root_of x) (has_root told x n is)) ∙ ap (λ k. command_at x.tablet.core.work k i) (sym me)) tt;
  }

  -- what the pass has done with is the command's
  pub is_through : (told : Option (PartView L D C)) (x : EngineView L D C) (n by i : ℕ) (chore other : Chore) → told ≡ Some (part_in x n) → by ≡ n → IsCommand told n i (command.Chore chore) → HasDoneWith chore told
      → command_at x.tablet.core.work by i ≡ Some (command.Chore other) → IsThrough other (upkeep_at by x.upkeep.passes)
  is_through told x n by i chore other is me its done at =
      let same : chore ≡ other = same_chore chore other (sym (its (root_of x) (has_root told x n is)) ∙ ap (λ k. command_at x.tablet.core.work k i) (sym me) ∙ at) in
      let here : part_in x n ≡ done.part = some_is (part_in x n) done.part (sym is ∙ done.is) in
      subst (λ k. IsThrough other (upkeep_at k x.upkeep.passes)) (sym me)
      (subst (λ c. IsThrough c (upkeep_at n x.upkeep.passes)) same (subst (λ (p : PartView L D C). IsThrough chore p.pass.upkeep) (sym here) done.through))

  pub after_chore : (told told' : Option (PartView L D C)) (seen seen' : List Event) (x y : EngineView L D C) (n n' by i : ℕ) → told ≡ Some (part_in x n) → told' ≡ Some (part_in y n') → n' ≡ n → by ≡ n → IsFree told i → Follows session_of n seen x.tablet.core.trail → seen' ≡ y.tablet.core.trail
      → y ≡ record x { tablet = record x.tablet { core = answered x.tablet.core by i (event.Chore by i) } } → IsFree told' (i + 1) × OnRoot told (λ root. AnswersOne root n i reply.Done seen seen')
  after_chore told told' seen seen' x y n n' by i was is same me f follows sees e =
      free_answers told told' seen seen' x y n i (event.Chore n i) reply.Done (answered x.tablet.core n i (event.Chore n i)) was (is ∙ ap (λ k. Some (part_in y k)) same) f follows sees
      (ap (λ v. v.tablet.core) e ∙ ap (λ k. answered x.tablet.core k i (event.Chore k i)) me) refl refl refl
      (ap (λ v. v.log.holder) e) (ap (λ v. v.log.out) e) (λ k. is_mine n k i) (λ first content. refl)

  -- ---- what maintenance leaves

  pub device_log : (told : Option (PartView L D C)) → HasNoDevice told → HasNoLog told
  device_log told d = record { part = d.part; is = d.is; home = d.log }

  pub still_goes : (n : ℕ) (a b : Option (PartView L D C)) (xs ys : List Event) → StandsStill a b → SeesOthers n xs ys → IsGoing n a b xs ys
  still_goes n a b xs ys s others = record {
    root = λ root h. record { part = s.part; is = s.is; root_is = s.root ∙ ap (λ (p : PartView L D C). p.root) (some_is s.was h.part (sym s.was_is ∙ h.is)) ∙ h.root_is };
    quiet = λ root h. follows_quiet root n xs ys others;
  }

  pub still_free : (a b : Option (PartView L D C)) (i : ℕ) → StandsStill a b → HasNoDevice b → IsFree a i → IsFree b i
  still_free a b i s d f =
      let here : s.was ≡ f.part = some_is s.was f.part (sym s.was_is ∙ f.is) in
      record {
        part = s.part;
        is = s.is;
        calm = ap (λ p. p.flight) (s.session ∙ ap (λ (p : PartView L D C). p.pass.session) here) ∙ f.calm;
        turn = ap (λ p. p.turn) (s.session ∙ ap (λ (p : PartView L D C). p.pass.session) here) ∙ f.turn;
        home = ap (λ (p : PartView L D C). p.pass.out) (some_is s.part d.part (sym s.is ∙ d.is)) ∙ d.log;
      }

  pub done_with : (chore : Chore) (a b : Option (PartView L D C)) → HasDone chore a b → HasDoneWith chore b
  done_with chore a b h = record { part = h.part; is = h.is; through = h.through }

  -- ---- and then its answer

  done_still : (chore : Chore) (a b c : Option (PartView L D C)) → HasDone chore a b → KeepsUpkeep b c → HasDone chore a c
  done_still chore a b c h keeps =
      let q = keeps h.part h.is in
      let same : q.0.pass.upkeep ≡ h.part.pass.upkeep = q.2 in
      record {
        was = h.was;
        was_is = h.was_is;
        part = q.0;
        is = q.1;
        rounds = ap (λ (u : UpkeepView). u.rounds) same ∙ h.rounds;
        through = record { round = ap (λ (u : UpkeepView). u.round) same ∙ h.through.round; todo = ap (λ (u : UpkeepView). u.todo) same ∙ h.through.todo };
      }

  pub done_chore : (chore : Chore) (a b c : Option (PartView L D C)) (r : Result Reply NoMemory) → HasDone chore a b → KeepsUpkeep b c → IfOk r (λ q. (q ≡ reply.Stopped → ⊥) → HasDone chore a c)
  done_chore chore a b c (Ok q) h k = λ ne. done_still chore a b c h k
  done_chore chore a b c (Err lost) h k = tt

  -- the command has one chore
  pub done_command : (given : Command) (mine chore : Chore) (a b : Option (PartView L D C)) (r : Result Reply NoMemory) → given ≡ command.Chore mine → IfOk r (λ q. (q ≡ reply.Stopped → ⊥) → HasDone mine a b) → given ≡ command.Chore chore
      → IfOk r (λ q. (q ≡ reply.Stopped → ⊥) → HasDone chore a b)
  done_command given mine chore a b r is done asked = subst (λ k. IfOk r (λ q. (q ≡ reply.Stopped → ⊥) → HasDone k a b)) (same_chore mine chore (ap Some (sym is ∙ asked))) done

  -- it was open before, where it is open behind
  pub open_chore : (s t i : ℕ) (a b : Option (PartView L D C)) (xs ys : List Event) (r : Result Reply NoMemory) → t ≡ s → IsGoing s a b xs ys → OnOk r (OnRoot b (λ root. IsOpen root t i ys))
      → IfOk r (λ q. (q ≡ reply.Stopped → ⊥) → OnRoot a (λ root. IsOpen root s i xs))
  open_chore s t i a b xs ys (Ok q) e going free = λ ne. open_before s t i a b xs ys e going free
  open_chore s t i a b xs ys (Err lost) e going free = tt

  pub reply_chore : (s t i : ℕ) (a b c : Option (PartView L D C)) (xs ys zs : List Event) (r : Result Reply NoMemory) → t ≡ s → IsGoing s a b xs ys → IfOk r (λ q. AfterCommand b c ys zs t i q) → IfOk r (λ q. AfterCommand a c xs zs s i q)
  reply_chore s t i a b c xs ys zs (Ok q) e going after = after_going s t i q a b c xs ys zs e going after
  reply_chore s t i a b c xs ys zs (Err lost) e going after = tt

  pub lost_chore : (s t : ℕ) (a b c : Option (PartView L D C)) (xs ys zs : List Event) (r : Result Reply NoMemory) → t ≡ s → IsGoing s a b xs ys → OnErr r (IsGoing t b c ys zs) → OnErr r (IsGoing s a c xs zs)
  lost_chore s t a b c xs ys zs (Ok q) e going after = tt
  lost_chore s t a b c xs ys zs (Err lost) e going after = going_after s t a b c xs ys zs e going after

  pub answered_chore : (told told' : Option (PartView L D C)) (xs ys : List Event) (s i : ℕ) (r : Result Reply NoMemory) → IfOk r (λ q. AfterCommand told told' xs ys s i q) → IfOk r (λ q. (q ≡ reply.Stopped → ⊥) → OnRoot told (λ root. IsOpen root s i xs))
      → IfOk r (λ q. (q ≡ reply.Stopped → ⊥) → OnRoot told (λ root. IsAnswered root s i q ys))
  answered_chore told told' xs ys s i (Ok q) after free = λ ne. is_answered told told' xs ys s i q ne after (free ne)
  answered_chore told told' xs ys s i (Err lost) after free = tt
