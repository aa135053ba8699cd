use Rattle.std.proofs.Common.{subst, sym, ap, ◌∙◌}
use Rattle.std.specs.Prelude.{IsSome}
use Rattle.kt_history.specs.Machine.{nth, set_nth}
use Rattle.kt_tablet.proofs.Places.{set_turn}
use Rattle.kt_tablet.proofs.turns.Turns.set.Goals as goal

pub returns : goal.returns
returns c = set_turn c.self.inside.places.items c.args.number (record { next = c.args.next; look = c.args.look }) (subst (λ turns. IsSome (nth turns c.args.number)) (sym c.self.view_is) c.requires)
    ∙ ap (λ turns. set_nth turns c.args.number (record { next = c.args.next; look = c.args.look })) c.self.view_is
