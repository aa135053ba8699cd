-- The visit that raises the mark.
use Rattle.std.proofs.Common.{◌≡◌, ◌<◌, ◌^◌, ℕ, ◌+◌, List, Option, Some, refl, sym, ap, ◌∙◌, subst}
use Rattle.std.specs.Prelude.{◌==◌}
use Rattle.std.specs.List.{filter}
use Rattle.kt_history.specs.declared.command.Command.TheVariants as command
use Rattle.kt_history.specs.declared.event.Event.{Event}
use Rattle.kt_history.specs.declared.event.Event.TheVariants as event
use Rattle.kt_history.specs.declared.reply.Reply.TheVariants as reply
use Rattle.kt_history.specs.Machine.{nth, command_at, IfMark}
use Rattle.kt_histlaws.specs.Events.{marked}
use Rattle.kt_tablet.specs.Visits.{MayMark, HasMarked}
use Rattle.kt_seatlock.specs.Trails.{Follows}
use Rattle.kt_engine.specs.Engines.{EngineView}
use Rattle.kt_engine.specs.Visits.{PartView, part_in, session_of, root_of}
use Rattle.kt_serve.specs.Sessions.{IsFree, IsCommand, OnRoot, AnswersOne}
use Rattle.kt_serve.proofs.Lines.{is_mine}
use Rattle.kt_serve.proofs.Flights.{none_flies}
use Rattle.kt_serve.proofs.Begins.{has_root, free_calm, free_turn, free_answers}

module _ {L D C : Type 0} where
  pub may_mark : (told : Option (PartView L D C)) (x : EngineView L D C) (n by i to : ℕ) → told ≡ Some (part_in x n) → by ≡ n → IsFree told i → IsCommand told n i (command.Mark to) → i + 1 < 2 ^ 32 → MayMark x.tablet.core by i to
  may_mark told x n by i to is me f its few = record {
    at = record {
      next = ap (nth x.tablet.core.turns) me ∙ free_turn told i x n f is;
      rests = none_flies by x.tablet.core.aloft (ap (λ k. filter (λ v. v.s == k) x.tablet.core.aloft) me ∙ free_calm told i x n f is);
    };
    command = subst (λ c. IfMark c (λ t. t ≡ to)) (sym (its (root_of x) (has_root told x n is)) ∙ ap (λ k. command_at x.tablet.core.work k i) (sym me)) refl;
  }

  pub after_mark : (told told' : Option (PartView L D C)) (seen seen' : List Event) (x y : EngineView L D C) (n n' by i to a : ℕ) → told ≡ Some (part_in x n) → told' ≡ Some (part_in y n') → n' ≡ n → by ≡ n → IsFree told i → Follows session_of n seen x.tablet.core.trail → seen' ≡ y.tablet.core.trail
      → HasMarked x.tablet.core y.tablet.core by i to a → y.log ≡ x.log → IsFree told' (i + 1) × OnRoot told (λ root. AnswersOne root n i (reply.Ahm a) seen seen')
  after_mark told told' seen seen' x y n n' by i to a was is same me f follows sees h log =
      free_answers told told' seen seen' x y n i (event.Mark n i a) (reply.Ahm a) (marked x.tablet.core n i a) was (is ∙ ap (λ k. Some (part_in y k)) same) f follows sees (h.core ∙ ap (λ k. marked x.tablet.core k i a) me) refl refl refl
      (ap (λ l. l.holder) log) (ap (λ l. l.out) log) (λ k. is_mine n k i) (λ first content. refl)
