use Rattle.std.proofs.Common.{◌^◌, ◌<◌, ◌≤◌, ◌+◌, length, refl, ap, rules}
use Rattle.std.specs.Vec.{vec_len, vec_capacity}
use Rattle.kt_tablet.specs.Visits.{MayMark}
use Rattle.kt_tablet.proofs.Visits.{mark_sound, has_marked, raised_is, of_old, one_line, has_turn, ready_line}
use Rattle.kt_tablet.proofs.Keeps.{mark_few}
use Rattle.kt_tablet.proofs.Told.{told_on}
use Rattle.kt_tablet.proofs.tablet.Tablet.mark.Goals as goal

pub set-requires : goal.set-requires
set-requires g c =
    let may = of_old (λ core. MayMark core c.args.number c.args.index c.args.to) _ _ c.self.view_is c.requires c.if-self.false in
    has_turn _ c.args.number _ may.at.next

pub overflow_add-index : goal.overflow_add-index
overflow_add-index g c =
    let may = of_old (λ core. MayMark core c.args.number c.args.index c.args.to) _ _ c.self.view_is c.requires c.if-self.false in
    let few : c.args.index + 1 < 2 ^ 32 = mark_few c.self.invariant.0 c.args.number c.args.index _ may.command in
    search rules

pub invariant_of-self-2 : goal.invariant_of-self-2
invariant_of-self-2 g c =
    let may = of_old (λ core. MayMark core c.args.number c.args.index c.args.to) _ _ c.self.view_is c.requires c.if-self.false in
    let room : vec_len c.push_reserved.new.self + length c.self.inside.flights.items + 1 ≤ vec_capacity c.push_reserved.new.self = search rules in
    let lines = one_line _ _ _ _ c.push_reserved.ensures.items c.reserve.ensures.items in
    let sound = mark_sound g.C.Clock.readings _ c.args.number c.args.index c.args.to c.raise_mark-mark.result _ _ _ _
    c.self.invariant.0 c.if-self.false may
    (raised_is c.self.inside.flight.a c.self.inside.flight.c c.args.to c.raise_mark-mark.result c.self.inside.flight.flying c.self.inside.flights.items c.self.invariant.1.held c.raise_mark-mark.ensures.value)
    lines
    (ap (λ f. f.a) c.raise_mark-mark.ensures.after) (ap (λ f. f.c) c.raise_mark-mark.ensures.after)
    c.set.ensures in (
      sound,
      ready_line _ _ _ _ _ _ _ _ _ _ c.self.invariant.1 (ap (λ f. f.flying) c.raise_mark-mark.ensures.after) room,
      told_on g.C.Clock.readings _ _ _ _ _ _ _ _ _ _ _ _ _ _ _ _ c.self.invariant.0 sound refl lines c.self.invariant.2,
      c.self.invariant.3,
    )

pub returns-clause-marked : goal.returns-clause-marked
returns-clause-marked g c =
    let may = of_old (λ core. MayMark core c.args.number c.args.index c.args.to) _ _ c.self.view_is c.requires c.if-self.false in
    has_marked _ _ c.args.number c.args.index c.args.to c.raise_mark-mark.result _ _ _ _ c.self.view_is
    (raised_is c.self.inside.flight.a c.self.inside.flight.c c.args.to c.raise_mark-mark.result c.self.inside.flight.flying c.self.inside.flights.items c.self.invariant.1.held c.raise_mark-mark.ensures.value)
    (one_line _ _ _ _ c.push_reserved.ensures.items c.reserve.ensures.items)
    (ap (λ f. f.a) c.raise_mark-mark.ensures.after) (ap (λ f. f.c) c.raise_mark-mark.ensures.after)
    c.set.ensures
