use Rattle.kt_tablet.proofs.Flights.{place_found, place_there}
use Rattle.kt_tablet.proofs.tablet.rows.place_of.Goals as goal

pub unreachable-requires : goal.unreachable-requires
unreachable-requires c = place_there c.args.number c.args.flights.now c.requires c.in-None.ensures

pub returns : goal.returns
returns c = place_found c.args.number c.in-Some.place c.args.flights.now c.requires c.in-Some.ensures
