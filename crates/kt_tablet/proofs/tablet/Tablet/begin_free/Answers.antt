use Rattle.std.proofs.Common.{◌≡◌, ◌≤◌, ◌+◌, ◌++◌, ◌∷◌, [], length, None, refl, ◌∙◌, ap, sym, rules}
use Rattle.std.specs.Vec.{vec_len, vec_capacity}
use Rattle.kt_history.specs.Machine.{next_timestamp}
use Rattle.kt_mvcc.specs.Flying.{holder}
use Rattle.kt_pool.specs.Contents.{with_reserved}
use Rattle.kt_stores.specs.Shelf.{names_of}
use Rattle.kt_tablet.specs.Filling.{told_stores}
use Rattle.kt_history.specs.Operations.{need}
use Rattle.kt_tablet.specs.Views.{work_of}
use Rattle.kt_tablet.specs.Visits.{MayBeginNow, holder_of}
use Rattle.kt_tablet.proofs.Visits.{one_line}
use Rattle.kt_tablet.proofs.Begins.{may_begin, begins_as, begun_as, in_the_way, apart, rests, one_flight, begin_sound, has_begun, ready_begun, way_old, beside_names, one_note, one_place}
use Rattle.kt_tablet.proofs.Keeps.{write_keeps}
use Rattle.kt_tablet.proofs.Told.{told_on, told_begun}
use Rattle.kt_tablet.proofs.Written.{written_begun}
use Rattle.kt_tablet.proofs.tablet.Tablet.begin_free.Goals as goal

pub begin_free-ts-requires-clause-rests : goal.begin_free-ts-requires-clause-rests
begin_free-ts-requires-clause-rests g c =
    let same : c.replace-ops.result.ops ≡ c.args.write.now.ops = ap (λ w. w.ops) c.replace-ops.ensures.value in
    let now : MayBeginNow c.args.self.now.core c.args.number c.args.index c.args.write.now.ops (need c.args.write.now.ops) = record { may = c.requires.may; cells = refl; goes = c.requires.free.goes; fits = c.requires.free.fits } in
    let may = may_begin _ _ c.args.number c.args.index c.replace-ops.result.ops (need c.replace-ops.result.ops) c.self.view_is (begins_as c.args.self.now.core c.args.number c.args.index c.args.write.now.ops c.replace-ops.result.ops same now) in
    rests c.args.number c.self.inside.flights.items c.make_room.new.flight.flying (ap (λ f. f.flying) c.make_room.ensures.flight ∙ c.self.invariant.1.held) may.may.at.rests

pub invariant_of-self-2 : goal.invariant_of-self-2
invariant_of-self-2 g c =
    let same : c.replace-ops.result.ops ≡ c.args.write.now.ops = ap (λ w. w.ops) c.replace-ops.ensures.value in
    let way = way_old _ _ c.replace-ops.result.ops _ c.self.view_is
    (in_the_way c.replace-ops.result.ops c.replace-ops.result.keys c.self.inside.flights.items c.make_room.new.flight.flying (holder c.replace-ops.result.keys c.make_room.new.flight.flying) c.replace-ops.result.keyed (ap (λ f. f.flying) c.make_room.ensures.flight ∙ c.self.invariant.1.held) refl) in
    let free : holder c.replace-ops.result.keys c.make_room.new.flight.flying ≡ None = sym way ∙ ap (holder_of c.args.self.now.core) same ∙ c.requires.free.apart in
    let now : MayBeginNow c.args.self.now.core c.args.number c.args.index c.args.write.now.ops (need c.args.write.now.ops) = record { may = c.requires.may; cells = refl; goes = c.requires.free.goes; fits = c.requires.free.fits } in
    let may = may_begin _ _ c.args.number c.args.index c.replace-ops.result.ops (need c.replace-ops.result.ops) c.self.view_is (begins_as c.args.self.now.core c.args.number c.args.index c.args.write.now.ops c.replace-ops.result.ops same now) in
    let promised : c.reserve.new.self ≡ record c.self.inside.stores { pool = with_reserved c.self.inside.stores.pool (c.self.inside.stores.pool.reserved + need c.replace-ops.result.ops) } = search rules in
    let keeps = write_keeps c.self.invariant.0 c.args.number c.args.index c.replace-ops.result.ops may.may.write in
    let room : vec_len c.push_reserved.new.self + length c.self.inside.flights.items + 2 ≤ vec_capacity c.push_reserved.new.self = search rules in
    let lines = one_line _ _ _ _ c.push_reserved.ensures.items c.make_room.ensures.lines in
    let sound = begin_sound g.C.Clock.readings _ c.now-reading.new.self c.args.number c.args.index c.begin_free-ts.result c.now-reading.result c.replace-ops.result.ops (need c.replace-ops.result.ops) _ _ _ _ _ _ _ _ _ _
    c.self.invariant.0
    (ap (λ v. told_stores c.self.inside.fill v) promised)
    may
    (c.begin_free-ts.ensures.ts.0 ∙ ap (λ f. next_timestamp f.c c.now-reading.result) c.make_room.ensures.flight)
    (apart c.replace-ops.result.ops c.self.inside.flights.items
    (in_the_way c.replace-ops.result.ops c.replace-ops.result.keys c.self.inside.flights.items c.make_room.new.flight.flying None c.replace-ops.result.keyed (ap (λ f. f.flying) c.make_room.ensures.flight ∙ c.self.invariant.1.held) (sym free)))
    c.now-reading.ensures
    lines
    (c.begin_free-ts.ensures.mark ∙ ap (λ f. f.a) c.make_room.ensures.flight)
    c.begin_free-ts.ensures.ts.1
    (one_flight _ _ _ _ c.push_reserved-2.ensures.items c.make_room.ensures.flights) in (
      sound,
      ready_begun _ _ (record { who = c.args.number; index = c.args.index; ts = c.begin_free-ts.result; ops = c.replace-ops.result.ops; applied = 0; place = c.args.place; outcomes = c.replace-ops.result.outcomes; rows = c.replace-ops.result.rows }) _ _ _ _ _ _ _ _ _ _ _ _
          c.self.invariant.1
          (record {
            count = keeps.1.count;
            each = keeps.1.each;
            few = keeps.0;
            noted = c.replace-ops.result.bare;
            room = c.replace-ops.result.room;
          })
          may.may.at.rests c.push_reserved-2.ensures.items c.make_room.ensures.flights
          (c.begin_free-ts.ensures.flying ∙ (λ k. (c.make_room.ensures.flight k).flying ++ record { who = c.args.number; ts = c.begin_free-ts.result; keys = c.replace-ops.result.keyed k } ∷ []))
          may.cells (ap (λ v. v.pool) promised) room,
      told_begun (work_of c.self.inside.schema.value c.self.inside.plan.value c.self.inside.cells c.self.inside.fill) _ _ _ c.push_reserved.new.self.items _ _ _ _
          (told_on g.C.Clock.readings _ _ _ _ _ _ _ _ _ _ _ _ _ _ _ _ c.self.invariant.0 sound refl lines c.self.invariant.2)
          c.push_reserved-2.ensures.items c.make_room.ensures.flights refl c.replace-ops.result.empty.0,
      written_begun (names_of c.self.inside.stores.shelf) _ c.self.inside.flights.items _ _ _ c.self.invariant.3 c.push_reserved-2.ensures.items c.make_room.ensures.flights refl c.replace-ops.result.empty.0 c.replace-ops.result.empty.1 (ap (λ v. names_of v.shelf) promised),
    )

pub returns-clause-begun : goal.returns-clause-begun
returns-clause-begun g c =
    let promised : c.reserve.new.self ≡ record c.self.inside.stores { pool = with_reserved c.self.inside.stores.pool (c.self.inside.stores.pool.reserved + need c.replace-ops.result.ops) } = search rules in
    let same : c.replace-ops.result.ops ≡ c.args.write.now.ops = ap (λ w. w.ops) c.replace-ops.ensures.value in
    begun_as _ _ c.args.number c.args.index c.begin_free-ts.result c.args.write.now.ops c.replace-ops.result.ops same (has_begun _ _ c.args.number c.args.index c.begin_free-ts.result c.now-reading.result c.replace-ops.result.ops _ _ _ _ _ c.self.view_is
    (ap (λ v. told_stores c.self.inside.fill v) promised)
    (c.begin_free-ts.ensures.ts.0 ∙ ap (λ f. next_timestamp f.c c.now-reading.result) c.make_room.ensures.flight)
    (one_line _ _ _ _ c.push_reserved.ensures.items c.make_room.ensures.lines)
    (c.begin_free-ts.ensures.mark ∙ ap (λ f. f.a) c.make_room.ensures.flight)
    c.begin_free-ts.ensures.ts.1
    (one_flight _ _ _ _ c.push_reserved-2.ensures.items c.make_room.ensures.flights))

pub begin_free-ts-requires-clause-free : goal.begin_free-ts-requires-clause-free
begin_free-ts-requires-clause-free g c =
    let same : c.replace-ops.result.ops ≡ c.args.write.now.ops = ap (λ w. w.ops) c.replace-ops.ensures.value in
    let way = way_old _ _ c.replace-ops.result.ops _ c.self.view_is
    (in_the_way c.replace-ops.result.ops c.replace-ops.result.keys c.self.inside.flights.items c.make_room.new.flight.flying (holder c.replace-ops.result.keys c.make_room.new.flight.flying) c.replace-ops.result.keyed (ap (λ f. f.flying) c.make_room.ensures.flight ∙ c.self.invariant.1.held) refl) in
    let free : holder c.replace-ops.result.keys c.make_room.new.flight.flying ≡ None = sym way ∙ ap (holder_of c.args.self.now.core) same ∙ c.requires.free.apart in
    free

pub returns-clause-beside : goal.returns-clause-beside
returns-clause-beside g c =
    let promised : c.reserve.new.self ≡ record c.self.inside.stores { pool = with_reserved c.self.inside.stores.pool (c.self.inside.stores.pool.reserved + need c.replace-ops.result.ops) } = search rules in
    beside_names _ _ _ _ _ _ _ _ _ _ c.self.view_is (ap (λ v. names_of v.shelf) promised) (ap (λ v. v.frozen) promised) (ap (λ v. v.files) promised)

pub returns-clause-noted : goal.returns-clause-noted
returns-clause-noted g c = one_note _ _ c.self.inside.flights.items _ c.push_reserved-2.ensures.items c.make_room.ensures.flights c.replace-ops.result.empty.1 ∙ ap (λ v. v.notes ++ [] ∷ []) c.self.view_is

pub returns-clause-placed : goal.returns-clause-placed
returns-clause-placed g c = one_place _ _ c.self.inside.flights.items _ c.push_reserved-2.ensures.items c.make_room.ensures.flights ∙ ap (λ v. v.places ++ (c.args.number, c.args.place) ∷ []) c.self.view_is
