use Rattle.std.proofs.Common.{◌^◌, ◌<◌, ◌≤◌, ◌+◌, length, refl, rules}
use Rattle.std.specs.Vec.{vec_len, vec_capacity}
use Rattle.kt_history.specs.declared.event.Event.TheVariants.{Ancient}
use Rattle.kt_tablet.specs.Reads.{IsAncient}
use Rattle.kt_tablet.proofs.Visits.{has_answered, has_turn, one_line, ready_line}
use Rattle.kt_tablet.proofs.Keeps.{scan_few}
use Rattle.kt_tablet.proofs.Told.{told_on}
use Rattle.kt_tablet.proofs.Scans.{ancient_sound, of_view}
use Rattle.kt_tablet.proofs.tablet.Tablet.ancient.Goals as goal

pub set-requires : goal.set-requires
set-requires g c =
    let is = of_view (λ v. IsAncient v.core c.args.number c.args.index c.args.at c.args.t c.args.a) _ _ c.self.view_is c.requires in
    has_turn _ c.args.number _ is.may.next

pub overflow_add-index : goal.overflow_add-index
overflow_add-index g c =
    let is = of_view (λ v. IsAncient v.core c.args.number c.args.index c.args.at c.args.t c.args.a) _ _ c.self.view_is c.requires in
    let few : c.args.index + 1 < 2 ^ 32 = scan_few c.self.invariant.0 c.args.number c.args.index _ is.may.scan in
    search rules

pub invariant_of-self-2 : goal.invariant_of-self-2
invariant_of-self-2 g c =
    let is = of_view (λ v. IsAncient v.core c.args.number c.args.index c.args.at c.args.t c.args.a) _ _ c.self.view_is c.requires in
    let room : vec_len c.push_reserved.new.self + length c.self.inside.flights.items + 1 ≤ vec_capacity c.push_reserved.new.self = search rules in
    let lines = one_line _ _ _ _ c.push_reserved.ensures.items c.reserve.ensures.items in
    let sound = ancient_sound g.C.Clock.readings _ c.args.number c.args.index c.args.at c.args.t c.args.a _ _ c.self.invariant.0 is lines c.set.ensures in (
      sound,
      ready_line _ _ _ _ _ _ _ _ _ _ c.self.invariant.1 refl room,
      told_on g.C.Clock.readings _ _ _ _ _ _ _ _ _ _ _ _ _ _ _ _ c.self.invariant.0 sound refl lines c.self.invariant.2,
      c.self.invariant.3,
    )

pub returns-clause-answered : goal.returns-clause-answered
returns-clause-answered g c =
    has_answered _ _ c.args.number c.args.index (Ancient c.args.number c.args.index c.args.t c.args.a) _ _ c.self.view_is
    (one_line _ _ _ _ c.push_reserved.ensures.items c.reserve.ensures.items) c.set.ensures
