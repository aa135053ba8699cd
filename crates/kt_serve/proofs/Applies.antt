-- Visits that apply rows of a write.
use Rattle.std.proofs.Common.{◌≡◌, ◌<◌, ◌^◌, inl, ℕ, ◌+◌, List, [], Option, Some, None, refl, sym, ap, ◌∙◌, subst, length}
use Rattle.std.specs.Prelude.{◌==◌}
use Rattle.std.specs.List.{filter}
use Rattle.kt_history.specs.declared.event.Event.{Event}
use Rattle.kt_history.specs.declared.command.Command.TheVariants as command
use Rattle.kt_history.specs.declared.operation.RowOp.{RowOp}
use Rattle.kt_history.specs.declared.operation.Write.{Write}
use Rattle.kt_history.specs.declared.change.Outcome.{Outcome}
use Rattle.kt_history.specs.Machine.{nth}
use Rattle.kt_histlaws.specs.Core.{Core}
use Rattle.kt_tablet.specs.Visits.{MayApply, HasApplied}
use Rattle.kt_seatlock.specs.Trails.{Follows}
use Rattle.kt_engine.specs.Engines.{EngineView}
use Rattle.kt_engine.specs.Visits.{PartView, part_in, session_of, out_of, IsVisit, StepsAreOne}
use Rattle.kt_serve.specs.Sessions.{OwnFlight, Applies, IsAloft, IsCommand, IsFlying, IsGoing, IsNext, IsStill, HasNoLog}
use Rattle.kt_serve.proofs.Lines.{follows_quiet, quiet_self, quiet_then}
use Rattle.kt_serve.proofs.Flights.{found_flight, advanced}
use Rattle.kt_serve.proofs.Begins.{some_is, same_root}
use Rattle.kt_serve.proofs.Stills.{still_aloft, still_going}
use Rattle.kt_serve.proofs.Commands.{command_after}

pub may_apply : {L D C : Type 0} (x : EngineView L D C) (s i ts at : ℕ) (ops : List RowOp) → OwnFlight x s i ts ops at → at < length ops → MayApply x.tablet.core s at
may_apply x s i ts at ops own less = record { flight = record { s = s; i = i; ts = ts; ops = ops; applied = at }; flies = found_flight s x.tablet.core.aloft _ [] own; next = refl; more = less }

-- the next row is applied
pub applies_one : {L D C : Type 0} (x y : EngineView L D C) (s at : ℕ) (o : Outcome) → HasApplied x.tablet.core y.tablet.core s at o → IsVisit s x y → y.log ≡ x.log → Applies x y s at (at + 1)
applies_one x y s at o h keeps log = record {
  visit = keeps;
  flight = λ i ts ops own. ap (λ (c : Core). filter (λ v. v.s == s) c.aloft) h.core ∙ advanced s h.j h.flight.ts h.op x.tablet.core.aloft (record { s = s; i = i; ts = ts; ops = ops; applied = at }) h.own h.next own;
  turns = ap (λ (c : Core). c.turns) h.core;
  trail = ap (λ (c : Core). c.trail) h.core;
  log = log;
}

-- none is
pub applies_none : {L D C : Type 0} (x : EngineView L D C) (s at : ℕ) → Applies x x s at at
applies_none x s at = record { visit = record { line = inl refl; parts = λ k ne. refl }; flight = λ i ts ops own. own; turns = refl; trail = refl; log = refl }

-- some, and then more
pub applies_then : {L D C : Type 0} (a b c : EngineView L D C) (s at k to : ℕ) → StepsAreOne L D C → Applies a b s at k → Applies b c s k to → Applies a c s at to
applies_then a b c s at k to law f g = record {
  visit = law s a b c f.visit f.trail g.visit;
  flight = λ i ts ops own. g.flight i ts ops (f.flight i ts ops own);
  turns = g.turns ∙ f.turns;
  trail = g.trail ∙ f.trail;
  log = g.log ∙ f.log;
}

module _ {L D C : Type 0} where
  -- the part tells the flight
  pub own_flight : (told : Option (PartView L D C)) (x : EngineView L D C) (s i ts n : ℕ) (ops : List RowOp) → told ≡ Some (part_in x s) → IsAloft told s i ts ops n → OwnFlight x s i ts ops n
  own_flight told x s i ts n ops is a = sym (ap (λ (p : PartView L D C). p.pass.session.flight) (some_is a.part (part_in x s) (sym a.is ∙ is))) ∙ a.flight

  pub own_turn : (told : Option (PartView L D C)) (x : EngineView L D C) (s i ts n : ℕ) (ops : List RowOp) → told ≡ Some (part_in x s) → IsAloft told s i ts ops n → nth x.tablet.core.turns s ≡ Some (record { next = i; look = None })
  own_turn told x s i ts n ops is a = sym (ap (λ (p : PartView L D C). p.pass.session.turn) (some_is a.part (part_in x s) (sym a.is ∙ is))) ∙ a.turn

  pub own_home : (told : Option (PartView L D C)) (x : EngineView L D C) (s : ℕ) → told ≡ Some (part_in x s) → HasNoLog told → out_of x.log.holder x.log.out s ≡ None
  own_home told x s is h = sym (ap (λ (p : PartView L D C). p.pass.out) (some_is h.part (part_in x s) (sym h.is ∙ is))) ∙ h.home

  pub own_next : (told : Option (PartView L D C)) (x : EngineView L D C) (s i at : ℕ) (w : Write) → told ≡ Some (part_in x s) → IsFlying told s i w at → IsNext x s i
  own_next told x s i at w is f = own_turn told x s i f.ts at w.ops is f.aloft

  -- some rows more are applied
  pub went_on : (told told' : Option (PartView L D C)) (seen seen' : List Event) (x y : EngineView L D C) (n n' at to : ℕ) → told ≡ Some (part_in x n) → told' ≡ Some (part_in y n') → n' ≡ n → Follows session_of n seen x.tablet.core.trail → seen' ≡ y.tablet.core.trail
      → Applies x y n at to → IsGoing n told told' seen seen'
  went_on told told' seen seen' x y n n' at to was is same follows sees a = record {
    root = same_root told told' x y n n n' was is a.visit;
    quiet = λ root h. quiet_then root n seen x.tablet.core.trail seen' (follows_quiet root n seen x.tablet.core.trail follows) (quiet_self root n x.tablet.core.trail seen' (sees ∙ a.trail));
  }

  -- the write flies on
  pub flies_on : (told told' : Option (PartView L D C)) (x y : EngineView L D C) (n n' at to : ℕ) (w : Write) → told ≡ Some (part_in x n) → told' ≡ Some (part_in y n') → n' ≡ n → Applies x y n at to → (i : ℕ) → IsFlying told n i w at → IsFlying told' n i w to
  flies_on told told' x y n n' at to w was is same a i f = record {
    ts = f.ts;
    aloft = record {
      part = part_in y n;
      is = is ∙ ap (λ k. Some (part_in y k)) same;
      flight = a.flight i f.ts w.ops (own_flight told x n i f.ts at w.ops was f.aloft);
      turn = ap (λ l. nth l n) a.turns ∙ own_turn told x n i f.ts at w.ops was f.aloft;
    };
    command_is = command_after n n i (command.Write w) (part_in x n) told told' was refl (same_root told told' x y n n n' was is a.visit) f.command_is;
    few = f.few;
  }

-- a pass's number stays
pub flying_as : {L D C : Type 0} (s t i at : ℕ) (w : Write) (b : Option (PartView L D C)) → t ≡ s → IsFlying b s i w at → IsFlying b t i w at
flying_as s t i at w b e f = subst (λ k. IsFlying b k i w at) (sym e) f

-- it flies as it did behind visits that left the session where it stood
pub flying_still : {L D C : Type 0} (s i at : ℕ) (w : Write) (a b : Option (PartView L D C)) (xs ys : List Event) → IsStill s a b xs ys → IsFlying a s i w at → IsFlying b s i w at
flying_still s i at w a b xs ys still f = record {
  ts = f.ts;
  aloft = still_aloft s i f.ts at w.ops a b xs ys still f.aloft;
  command_is = command_after s s i (command.Write w) f.aloft.part a b f.aloft.is refl (still_going s a b xs ys still).root f.command_is;
  few = f.few;
}

-- and behind a visit that brought it on
pub flying_after : {L D C : Type 0} (s t i at to : ℕ) (w : Write) (b c : Option (PartView L D C)) → t ≡ s → (IsFlying b t i w at → IsFlying c t i w to) → IsFlying b s i w at → IsFlying c s i w to
flying_after s t i at to w b c e more f = flying_as t s i to w c (sym e) (more (flying_as s t i at w b e f))

-- it has begun, and none of its rows is applied
pub flies_first : {L D C : Type 0} (s t i ts : ℕ) (w : Write) (p : PartView L D C) (a b : Option (PartView L D C)) (xs ys : List Event) → a ≡ Some p → t ≡ s → IsGoing s a b xs ys → IsAloft b s i ts w.ops 0 → IsCommand a s i (command.Write w) → i + 1 < 2 ^ 32 → IsFlying b t i w 0
flies_first s t i ts w p a b xs ys is e going aloft its few = flying_as s t i 0 w b e (record { ts = ts; aloft = aloft; command_is = command_after s s i (command.Write w) p a b is refl going.root its; few = few })
