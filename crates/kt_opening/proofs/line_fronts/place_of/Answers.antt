use Rattle.std.proofs.Common.{refl}
use Rattle.kt_opening.proofs.LinePlaces.{placed}
use Rattle.kt_opening.proofs.line_fronts.place_of.Goals as goal

pub returns-in-Some-clause-place : goal.returns-in-Some-clause-place
returns-in-Some-clause-place c = (c.place_in.result, refl, placed c.args.text.now c.args.stop.at c.args.stop.due c.in-Some.line c.place_in.result c.in-Some.ensures c.place_in.ensures.place)
