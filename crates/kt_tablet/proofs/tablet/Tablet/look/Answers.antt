use Rattle.std.proofs.Common.{◌≤◌, ◌+◌, length, refl, ap, rules}
use Rattle.std.specs.Vec.{vec_len, vec_capacity}
use Rattle.kt_tablet.specs.Visits.{MayLook}
use Rattle.kt_tablet.proofs.Visits.{look_sound, has_looked, of_old, one_line, has_turn, ready_line}
use Rattle.kt_tablet.proofs.Told.{told_on}
use Rattle.kt_tablet.proofs.tablet.Tablet.look.Goals as goal

pub set-requires : goal.set-requires
set-requires g c =
    let may = of_old (λ core. MayLook core c.args.number c.args.index) _ _ c.self.view_is c.requires c.if-self.false in
    has_turn _ c.args.number _ may.at.next

pub invariant_of-self-2 : goal.invariant_of-self-2
invariant_of-self-2 g c =
    let may = of_old (λ core. MayLook core c.args.number c.args.index) _ _ c.self.view_is c.requires c.if-self.false in
    let room : vec_len c.push_reserved.new.self + length c.self.inside.flights.items + 1 ≤ vec_capacity c.push_reserved.new.self = search rules in
    let lines = one_line _ _ _ _ c.push_reserved.ensures.items c.reserve.ensures.items in
    let sound = look_sound g.C.Clock.readings _ c.now-reading.new.self c.args.number c.args.index c.draw-time.result c.now-reading.result _ _ _ _
    c.self.invariant.0 c.if-self.false may c.draw-time.ensures.value c.now-reading.ensures
    lines
    (ap (λ f. f.a) c.draw-time.ensures.after) (ap (λ f. f.c) c.draw-time.ensures.after)
    c.set.ensures in (
      sound,
      ready_line _ _ _ _ _ _ _ _ _ _ c.self.invariant.1 (ap (λ f. f.flying) c.draw-time.ensures.after) room,
      told_on g.C.Clock.readings _ _ _ _ _ _ _ _ _ _ _ _ _ _ _ _ c.self.invariant.0 sound refl lines c.self.invariant.2,
      c.self.invariant.3,
    )

pub returns-clause-looked : goal.returns-clause-looked
returns-clause-looked g c =
    let may = of_old (λ core. MayLook core c.args.number c.args.index) _ _ c.self.view_is c.requires c.if-self.false in
    has_looked _ _ c.args.number c.args.index c.draw-time.result c.now-reading.result _ _ _ _ c.self.view_is c.draw-time.ensures.value
    (one_line _ _ _ _ c.push_reserved.ensures.items c.reserve.ensures.items)
    (ap (λ f. f.a) c.draw-time.ensures.after) (ap (λ f. f.c) c.draw-time.ensures.after)
    c.set.ensures
