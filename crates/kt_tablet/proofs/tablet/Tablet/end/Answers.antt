use Rattle.std.proofs.Common.{◌≡◌, ◌<◌, ◌+◌, ◌^◌, length, map, refl, sym, ap, ◌∙◌, rules}
use Rattle.std.specs.Prelude.{◌==◌, not}
use Rattle.std.specs.List.{find, filter}
use Rattle.kt_stores.specs.Shelf.{names_of}
use Rattle.kt_tablet.specs.Views.{rows_of, aloft_of, flier_of, work_of}
use Rattle.kt_tablet.specs.Visits.{MayEnd, flight_of}
use Rattle.kt_tablet.proofs.Flights.{within, provided_at, flight_at, flier_at, same_aloft, removed}
use Rattle.kt_tablet.proofs.Rows.{any_shown, placed_is, is_done, is_written, is_handed}
use Rattle.kt_tablet.proofs.Told.{told_on, told_ended}
use Rattle.kt_tablet.proofs.Written.{written_ended}
use Rattle.kt_tablet.proofs.Visits.{of_old, ends_as, end_sound, has_ended, ended_flights, ended_places, ready_ended, who_flies, flies_so, has_turn}
use Rattle.kt_tablet.proofs.tablet.Tablet.end.Goals as goal

pub place_of-place-requires : goal.place_of-place-requires
place_of-place-requires g c =
    let may = of_old (λ core. MayEnd core c.args.number) _ _ c.self.view_is c.requires c.if-self.false in
    any_shown c.args.number c.self.inside.flights.items c.deref.result.now may.flight may.flies c.deref.ensures.value

pub remove-write-requires : goal.remove-write-requires
remove-write-requires g c =
    let may = of_old (λ core. MayEnd core c.args.number) _ _ c.self.view_is c.requires c.if-self.false in
    let place = placed_is c.args.number c.place_of-place.result c.self.inside.flights.items c.deref.result.now may.flight may.flies c.deref.ensures.value c.place_of-place.ensures in
    let lt : c.place_of-place.result < length c.self.inside.flights.items = within c.args.number c.self.inside.flights.items c.place_of-place.result place in
    search rules

pub take-keys-requires : goal.take-keys-requires
take-keys-requires g c =
    let may = of_old (λ core. MayEnd core c.args.number) _ _ c.self.view_is c.requires c.if-self.false in
    let place = placed_is c.args.number c.place_of-place.result c.self.inside.flights.items c.deref.result.now may.flight may.flies c.deref.ensures.value c.place_of-place.ensures in
    let ends = ends_as _ c.args.number c.remove-write.result may (flight_at c.args.number c.self.inside.flights.items c.place_of-place.result c.remove-write.result place c.remove-write.ensures.value) in
    who_flies c.args.number c.remove-write.result.index c.remove-write.result.ts c.self.inside.flights.items c.self.inside.flight.flying c.self.invariant.1.held (flies_so c.args.number c.remove-write.result.index c.remove-write.result.ts _ (aloft_of c.remove-write.result) ends.flies refl refl)

pub overflow_add-write : goal.overflow_add-write
overflow_add-write g c =
    let may = of_old (λ core. MayEnd core c.args.number) _ _ c.self.view_is c.requires c.if-self.false in
    let place = placed_is c.args.number c.place_of-place.result c.self.inside.flights.items c.deref.result.now may.flight may.flies c.deref.ensures.value c.place_of-place.ensures in
    let few : c.remove-write.result.index + 1 < 2 ^ 32 = (provided_at _ c.self.inside.flights.items c.place_of-place.result c.remove-write.result c.self.invariant.1.provided (within c.args.number c.self.inside.flights.items c.place_of-place.result place) c.remove-write.ensures.value).few in
    search rules

pub set-requires : goal.set-requires
set-requires g c =
    let may = of_old (λ core. MayEnd core c.args.number) _ _ c.self.view_is c.requires c.if-self.false in
    let place = placed_is c.args.number c.place_of-place.result c.self.inside.flights.items c.deref.result.now may.flight may.flies c.deref.ensures.value c.place_of-place.ensures in
    let ends = ends_as _ c.args.number c.remove-write.result may (flight_at c.args.number c.self.inside.flights.items c.place_of-place.result c.remove-write.result place c.remove-write.ensures.value) in
    has_turn _ c.args.number _ ends.turn

pub invariant_of-self : goal.invariant_of-self
invariant_of-self g c =
    let may = of_old (λ core. MayEnd core c.args.number) _ _ c.self.view_is c.requires c.if-self.false in
    let place = placed_is c.args.number c.place_of-place.result c.self.inside.flights.items c.deref.result.now may.flight may.flies c.deref.ensures.value c.place_of-place.ensures in
    let ends = ends_as _ c.args.number c.remove-write.result may (flight_at c.args.number c.self.inside.flights.items c.place_of-place.result c.remove-write.result place c.remove-write.ensures.value) in
    let filtered = c.remove-write.ensures.items ∙ removed c.args.number c.self.inside.flights.items c.place_of-place.result c.self.invariant.1.apart place in
    let lines = c.push_reserved.ensures.items in
    let sound = end_sound g.C.Clock.readings _ c.args.number c.remove-write.result _ _ _ _ _ _ _ c.self.invariant.0 c.if-self.false ends
    lines c.take-keys.ensures.mark c.take-keys.ensures.last (ended_flights c.args.number _ _ filtered) c.set.ensures in (
      sound,
      ready_ended c.args.number c.remove-write.result.index c.remove-write.result.ts _ _ _ _ _ _ _ _ _ _ _ c.self.invariant.1 c.if-self.false ends.over (flies_so c.args.number c.remove-write.result.index c.remove-write.result.ts _ (aloft_of c.remove-write.result) ends.flies refl refl)
          filtered c.take-keys.ensures.flying c.push_reserved.ensures.len c.push_reserved.ensures.capacity,
      told_ended (work_of c.self.inside.schema.value c.self.inside.plan.value c.self.inside.cells c.self.inside.fill) _ _ _ c.push_reserved.new.self.items _ _ _ (told_on g.C.Clock.readings _ _ _ _ _ _ _ _ _ _ _ _ _ _ _ c.self.inside.flights.items c.self.invariant.0 sound refl lines c.self.invariant.2) filtered,
      written_ended (names_of c.self.inside.stores.shelf) _ _ _ c.self.invariant.3 filtered,
    )

pub returns-clause-ended : goal.returns-clause-ended
returns-clause-ended g c =
    let may = of_old (λ core. MayEnd core c.args.number) _ _ c.self.view_is c.requires c.if-self.false in
    let place = placed_is c.args.number c.place_of-place.result c.self.inside.flights.items c.deref.result.now may.flight may.flies c.deref.ensures.value c.place_of-place.ensures in
    let ends = ends_as _ c.args.number c.remove-write.result may (flight_at c.args.number c.self.inside.flights.items c.place_of-place.result c.remove-write.result place c.remove-write.ensures.value) in
    let filtered = c.remove-write.ensures.items ∙ removed c.args.number c.self.inside.flights.items c.place_of-place.result c.self.invariant.1.apart place in
    has_ended _ _ c.args.number c.remove-write.result _ _ _ _ _ c.self.view_is ends
    c.push_reserved.ensures.items c.take-keys.ensures.mark c.take-keys.ensures.last (ended_flights c.args.number _ _ filtered) c.set.ensures

pub returns-clause-told : goal.returns-clause-told
returns-clause-told g c =
    let may = of_old (λ core. MayEnd core c.args.number) _ _ c.self.view_is c.requires c.if-self.false in
    let place = placed_is c.args.number c.place_of-place.result c.self.inside.flights.items c.deref.result.now may.flight may.flies c.deref.ensures.value c.place_of-place.ensures in
    let ends = ends_as _ c.args.number c.remove-write.result may (flight_at c.args.number c.self.inside.flights.items c.place_of-place.result c.remove-write.result place c.remove-write.ensures.value) in
    is_done _ _ c.args.number c.place_of-place.result c.self.inside.flights.items c.remove-write.result _ _ c.self.view_is refl place c.remove-write.ensures.value ends.over c.of.ensures c.of-2.ensures c.self.invariant.2 c.self.invariant.3

pub returns-clause-written : goal.returns-clause-written
returns-clause-written g c =
    let may = of_old (λ core. MayEnd core c.args.number) _ _ c.self.view_is c.requires c.if-self.false in
    let place = placed_is c.args.number c.place_of-place.result c.self.inside.flights.items c.deref.result.now may.flight may.flies c.deref.ensures.value c.place_of-place.ensures in
    is_written _ _ c.self.inside.fill c.args.number c.place_of-place.result c.self.inside.flights.items c.remove-write.result _ _ c.self.view_is refl place c.remove-write.ensures.value may.over c.of.ensures c.of-2.ensures c.self.invariant.1.provided c.self.invariant.3

pub returns-clause-held : goal.returns-clause-held
returns-clause-held g c = λ flight found.
    let may = of_old (λ core. MayEnd core c.args.number) _ _ c.self.view_is c.requires c.if-self.false in
    let place = placed_is c.args.number c.place_of-place.result c.self.inside.flights.items c.deref.result.now may.flight may.flies c.deref.ensures.value c.place_of-place.ensures in
    let here = flight_at c.args.number c.self.inside.flights.items c.place_of-place.result c.remove-write.result place c.remove-write.ensures.value in
    let is : aloft_of c.remove-write.result ≡ flight = same_aloft _ _ (sym here ∙ ap (λ v. flight_of c.args.number v.core.aloft) c.self.view_is ∙ found) in
    let keys = c.take-keys.ensures.keys (flier_of c.remove-write.result)
    (ap (find (λ f. f.who == c.args.number)) c.self.invariant.1.held ∙ flier_at c.args.number c.self.inside.flights.items c.place_of-place.result c.remove-write.result place c.remove-write.ensures.value) in
    (ap (λ w. w.ops) is, keys ∙ ap (λ w. map (λ op. op.key) w.ops) is)

pub returns-clause-handed : goal.returns-clause-handed
returns-clause-handed g c =
    let may = of_old (λ core. MayEnd core c.args.number) _ _ c.self.view_is c.requires c.if-self.false in
    let place = placed_is c.args.number c.place_of-place.result c.self.inside.flights.items c.deref.result.now may.flight may.flies c.deref.ensures.value c.place_of-place.ensures in
    is_handed _ _ _ c.args.number c.place_of-place.result c.self.inside.flights.items c.remove-write.result _ c.self.view_is refl refl place c.remove-write.ensures.value c.of-2.ensures (ap (map rows_of) c.remove-write.ensures.items)

pub returns-clause-forgets : goal.returns-clause-forgets
returns-clause-forgets g c =
    let may = of_old (λ core. MayEnd core c.args.number) _ _ c.self.view_is c.requires c.if-self.false in
    let place = placed_is c.args.number c.place_of-place.result c.self.inside.flights.items c.deref.result.now may.flight may.flies c.deref.ensures.value c.place_of-place.ensures in
    let filtered = c.remove-write.ensures.items ∙ removed c.args.number c.self.inside.flights.items c.place_of-place.result c.self.invariant.1.apart place in
    ended_places (λ n. not (n == c.args.number)) _ c.self.inside.flights.items filtered ∙ ap (λ v. filter (λ p. not (p.0 == c.args.number)) v.places) c.self.view_is
