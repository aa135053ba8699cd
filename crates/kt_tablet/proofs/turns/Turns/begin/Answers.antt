use Rattle.kt_tablet.proofs.Places.{turns_first}
use Rattle.kt_tablet.proofs.turns.Turns.begin.Goals as goal

pub returns : goal.returns
returns c = turns_first _ c.args.plan.now c.place_all.ensures.places
