-- How the visits of a command follow one another.
use Rattle.std.proofs.Common.{◌≡◌, ℕ, List, Option, Some, refl, sym, ap, ◌∙◌, subst}
use Rattle.kt_history.specs.declared.command.Command.{Command}
use Rattle.kt_history.specs.declared.event.Event.{Event}
use Rattle.kt_history.specs.declared.operation.RowOp.{RowOp}
use Rattle.kt_history.specs.declared.reply.Reply.{Reply}
use Rattle.kt_history.specs.declared.reply.Reply.TheVariants as reply
use Rattle.kt_history.specs.Machine.{command_at}
use Rattle.kt_engine.specs.Visits.{Root, PartView}
use Rattle.kt_serve.specs.Sessions.{HasRoot, SameRoot, OnRoot, IsFree, IsAloft, HasNoLog, IsCommand, IsQuiet, IsGoing, AnswersOne, AfterCommand}
use Rattle.kt_serve.proofs.Lines.{quiet_then, then_answers}
use Rattle.kt_serve.proofs.Begins.{some_is}
use Rattle.kt_serve.proofs.Stills.{going_after}

module _ {L D C : Type 0} where
  -- the command is still the plan's
  pub command_after : (s t i : ℕ) (command : Command) (p : PartView L D C) (a b : Option (PartView L D C)) → a ≡ Some p → t ≡ s → SameRoot a b → IsCommand a s i command → IsCommand b t i command
  command_after s t i command p a b is e same its root h =
      let old : HasRoot p.root a = record { part = p; is = is; root_is = refl } in
      let new = same p.root old in
      let both : root ≡ p.root = sym h.root_is ∙ ap (λ (q : PartView L D C). q.root) (some_is h.part new.part (sym h.is ∙ new.is)) ∙ new.root_is in
      subst (λ (r : Root L D C). command_at r.work t i ≡ Some command) (sym both) (subst (λ k. command_at p.root.work k i ≡ Some command) (sym e) (its p.root old))

  pub free_log : (a : Option (PartView L D C)) (i : ℕ) → IsFree a i → HasNoLog a
  free_log a i f = record { part = f.part; is = f.is; home = f.home }

  pub free_rests : (b c : Option (PartView L D C)) (i : ℕ) → c ≡ b → IsFree b i → IsFree c i
  free_rests b c i e f = subst (λ (q : Option (PartView L D C)). IsFree q i) (sym e) f

  pub going_rests : (s : ℕ) (a b c : Option (PartView L D C)) (xs ys zs : List Event) → c ≡ b → zs ≡ ys → IsGoing s a b xs ys → IsGoing s a c xs zs
  going_rests s a b c xs ys zs e t f = subst (λ (q : Option (PartView L D C)). IsGoing s a q xs zs) (sym e) (subst (λ (l : List Event). IsGoing s a b xs l) (sym t) f)

  -- one visit more
  pub going_on : (s t : ℕ) (a b c : Option (PartView L D C)) (xs ys zs : List Event) → t ≡ s → IsGoing s a b xs ys → SameRoot b c → OnRoot b (λ root. IsQuiet root t ys zs) → IsGoing s a c xs zs
  going_on s t a b c xs ys zs e f root quiet = going_after s t a b c xs ys zs e f (record { root = root; quiet = quiet })

  pub aloft_of : (s t i ts n : ℕ) (ops : List RowOp) (b : Option (PartView L D C)) → t ≡ s → IsAloft b t i ts ops n → IsAloft b s i ts ops n
  aloft_of s t i ts n ops b e h = subst (λ k. IsAloft b k i ts ops n) e h

  -- and then the answer
  pub going_answers : (s t i : ℕ) (r : Reply) (a b : Option (PartView L D C)) (xs ys zs : List Event) → t ≡ s → IsGoing s a b xs ys → OnRoot b (λ root. AnswersOne root t i r ys zs) → OnRoot a (λ root. AnswersOne root s i r xs zs)
  going_answers s t i r a b xs ys zs e f answers root h = then_answers root s i r xs ys zs (f.quiet root h) (subst (λ k. AnswersOne root k i r ys zs) e (answers root (f.root root h)))

  -- visits that answer nothing, and then the command
  pub after_going : (s t i : ℕ) (r : Reply) (a b c : Option (PartView L D C)) (xs ys zs : List Event) → t ≡ s → IsGoing s a b xs ys → AfterCommand b c ys zs t i r → AfterCommand a c xs zs s i r
  after_going s t i reply.Stopped a b c xs ys zs e f h = (h.0, λ root old. quiet_then root s xs ys zs (f.quiet root old) (subst (λ k. IsQuiet root k ys zs) e (h.1 root (f.root root old))))
  after_going s t i (reply.At ts outcomes) a b c xs ys zs e f h = (h.0, going_answers s t i _ a b xs ys zs e f h.1)
  after_going s t i (reply.Rows u rows) a b c xs ys zs e f h = (h.0, going_answers s t i _ a b xs ys zs e f h.1)
  after_going s t i (reply.Ancient u m) a b c xs ys zs e f h = (h.0, going_answers s t i _ a b xs ys zs e f h.1)
  after_going s t i (reply.Busy u g) a b c xs ys zs e f h = (h.0, going_answers s t i _ a b xs ys zs e f h.1)
  after_going s t i (reply.Ahm m) a b c xs ys zs e f h = (h.0, going_answers s t i _ a b xs ys zs e f h.1)
  after_going s t i reply.Done a b c xs ys zs e f h = (h.0, going_answers s t i _ a b xs ys zs e f h.1)
  after_going s t i (reply.Large n) a b c xs ys zs e f h = (h.0, going_answers s t i _ a b xs ys zs e f h.1)
