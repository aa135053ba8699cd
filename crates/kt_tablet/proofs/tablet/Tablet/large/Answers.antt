use Rattle.std.proofs.Common.{◌^◌, ◌<◌, ◌≤◌, ◌+◌, length, refl, rules}
use Rattle.std.specs.Vec.{vec_len, vec_capacity}
use Rattle.kt_history.specs.declared.event.Event.TheVariants.{Large}
use Rattle.kt_tablet.proofs.Visits.{large_sound, has_answered, is_large, one_line, has_turn, ready_line}
use Rattle.kt_tablet.proofs.Keeps.{write_few}
use Rattle.kt_tablet.proofs.Told.{told_on}
use Rattle.kt_tablet.proofs.tablet.Tablet.large.Goals as goal

pub set-requires : goal.set-requires
set-requires g c =
    let may = is_large _ _ c.args.number c.args.index c.args.needs c.self.view_is c.requires in
    has_turn _ c.args.number _ may.at.next

pub overflow_add-index : goal.overflow_add-index
overflow_add-index g c =
    let may = is_large _ _ c.args.number c.args.index c.args.needs c.self.view_is c.requires in
    let few : c.args.index + 1 < 2 ^ 32 = write_few c.self.invariant.0 c.args.number c.args.index _ may.write in
    search rules

pub invariant_of-self-2 : goal.invariant_of-self-2
invariant_of-self-2 g c =
    let may = is_large _ _ c.args.number c.args.index c.args.needs c.self.view_is c.requires in
    let room : vec_len c.push_reserved.new.self + length c.self.inside.flights.items + 1 ≤ vec_capacity c.push_reserved.new.self = search rules in
    let lines = one_line _ _ _ _ c.push_reserved.ensures.items c.reserve.ensures.items in
    let sound = large_sound g.C.Clock.readings _ c.args.number c.args.index c.args.needs _ _ c.self.invariant.0 may
    lines
    c.set.ensures in (
      sound,
      ready_line _ _ _ _ _ _ _ _ _ _ c.self.invariant.1 refl room,
      told_on g.C.Clock.readings _ _ _ _ _ _ _ _ _ _ _ _ _ _ _ _ c.self.invariant.0 sound refl lines c.self.invariant.2,
      c.self.invariant.3,
    )

pub returns-clause-answered : goal.returns-clause-answered
returns-clause-answered g c =
    let may = is_large _ _ c.args.number c.args.index c.args.needs c.self.view_is c.requires in
    has_answered _ _ c.args.number c.args.index (Large c.args.number c.args.index c.args.needs) _ _ c.self.view_is
    (one_line _ _ _ _ c.push_reserved.ensures.items c.reserve.ensures.items)
    c.set.ensures
