use Rattle.std.proofs.Common.{◌<◌, length, sym, ap, ◌∙◌, rules}
use Rattle.std.specs.Prelude.{◌==◌}
use Rattle.std.specs.List.{list_any}
use Rattle.kt_tablet.specs.Views.{place_at}
use Rattle.kt_tablet.proofs.Flights.{within, place_flies, place_here, place_shown}
use Rattle.kt_tablet.proofs.tablet.Tablet.place.Goals as goal

pub place_of-requires : goal.place_of-requires
place_of-requires g c =
    let here = ap (λ v. place_at c.args.number v.places) c.self.view_is ∙ c.requires.1 in
    ap (list_any (λ f. f.who == c.args.number)) c.deref.ensures.value ∙ place_flies c.args.number c.self.inside.flights.items c.requires.0 here

pub index-requires : goal.index-requires
index-requires g c =
    let here = ap (λ v. place_at c.args.number v.places) c.self.view_is ∙ c.requires.1 in
    let place = place_shown c.args.number c.place_of.result c.self.inside.flights.items c.deref.result.now c.requires.0 here c.deref.ensures.value c.place_of.ensures in
    let lt : c.place_of.result < length c.self.inside.flights.items = within c.args.number c.self.inside.flights.items c.place_of.result place in
    search rules

pub returns : goal.returns
returns g c =
    let here = ap (λ v. place_at c.args.number v.places) c.self.view_is ∙ c.requires.1 in
    let place = place_shown c.args.number c.place_of.result c.self.inside.flights.items c.deref.result.now c.requires.0 here c.deref.ensures.value c.place_of.ensures in
    sym (ap (λ v. place_at c.args.number v.places) c.self.view_is) ∙ place_here c.args.number c.self.inside.flights.items c.place_of.result c.index.result.now place c.index.ensures
