use Rattle.std.proofs.Common.{ap, ◌∙◌}
use Rattle.kt_history.specs.Machine.{nth}
use Rattle.kt_tablet.proofs.Places.{looked}
use Rattle.kt_tablet.proofs.turns.Turns.look.Goals as goal

pub returns : goal.returns
returns c = λ turn is. ap (λ p. p.look) c.index.ensures ∙ looked c.self.inside.places.items c.args.number turn c.index.result.now (ap (λ turns. nth turns c.args.number) c.self.view_is ∙ is)
