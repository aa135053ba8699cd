use Rattle.std.proofs.Common.{◌≡◌, Some, refl, sym, ap, ◌∙◌, subst, Bool, true, false}
use Rattle.std.specs.Option.{option_copied}
use Rattle.kt_history.specs.Machine.{IsNext, nth}
use Rattle.kt_judge.specs.Decided.{Decided}
use Rattle.kt_judge.specs.Turns.{turn_of}
use Rattle.kt_judge.specs.Machine.{state_of}
use Rattle.kt_judge.proofs.Steps.{next_tells, no_turn, decided_true, decided_false}
use Rattle.kt_judge.proofs.machine.Machine.is_next.Goals as goal

pub returns-then-is : goal.returns-then-is
returns-then-is c = λ work past.
    let at : nth c.args.self.now.turns.items c.args.s ≡ Some c.in-Some.turn.now = ap (λ xs. nth xs c.args.s) (sym c.deref.ensures.value) ∙ sym c.nth.ensures ∙ ap option_copied c.in-Some.is in
    next_tells work past c.args.self.now c.args.s c.args.i c.args.look c.in-Some.turn.now true c.flies.result at (decided_true (turn_of c.in-Some.turn.now ≡ record { next = c.args.i; look = c.args.look }) c.is.result c.if-is.true c.is.ensures) c.flies.ensures

pub returns-else-is : goal.returns-else-is
returns-else-is c = λ work past.
    let at : nth c.args.self.now.turns.items c.args.s ≡ Some c.in-Some.turn.now = ap (λ xs. nth xs c.args.s) (sym c.deref.ensures.value) ∙ sym c.nth.ensures ∙ ap option_copied c.in-Some.is in
    subst (λ (b : Bool). Decided b (IsNext (state_of work past c.args.self.now) c.args.s c.args.i c.args.look)) (sym c.if-is.false)
    (next_tells work past c.args.self.now c.args.s c.args.i c.args.look c.in-Some.turn.now false _ at (decided_false (turn_of c.in-Some.turn.now ≡ record { next = c.args.i; look = c.args.look }) c.is.result c.if-is.false c.is.ensures) refl)

pub returns-in-None : goal.returns-in-None
returns-in-None c = λ work past.
    no_turn work past c.args.self.now c.args.s c.args.i c.args.look (ap (λ xs. nth xs c.args.s) (sym c.deref.ensures.value) ∙ sym c.nth.ensures ∙ ap option_copied c.in-None.is)
