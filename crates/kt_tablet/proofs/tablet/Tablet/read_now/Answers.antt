use Rattle.std.proofs.Common.{◌^◌, ◌<◌, ◌≤◌, ◌+◌, length, refl, ap, rules}
use Rattle.std.specs.Vec.{vec_len, vec_capacity}
use Rattle.kt_tablet.specs.Reads.{MayReadNow}
use Rattle.kt_tablet.proofs.Visits.{one_line, ready_line}
use Rattle.kt_tablet.proofs.Keeps.{scan_few}
use Rattle.kt_tablet.proofs.Told.{told_on}
use Rattle.kt_tablet.proofs.Scans.{rows_sound, of_view}
use Rattle.kt_tablet.proofs.tablet.Tablet.read_now.Goals as goal

pub overflow_add-index : goal.overflow_add-index
overflow_add-index g c =
    let may = of_view (λ v. MayReadNow v.core c.args.number c.args.index c.args.at c.args.t) _ _ c.self.view_is c.requires in
    let few : c.args.index + 1 < 2 ^ 32 = scan_few c.self.invariant.0 c.args.number c.args.index _ may.may.scan in
    search rules

pub invariant_of-self-2 : goal.invariant_of-self-2
invariant_of-self-2 g c =
    let may = of_view (λ v. MayReadNow v.core c.args.number c.args.index c.args.at c.args.t) _ _ c.self.view_is c.requires in
    let room : vec_len c.push_reserved.new.self + length c.self.inside.flights.items + 1 ≤ vec_capacity c.push_reserved.new.self = search rules in
    let lines = one_line _ _ _ _ c.push_reserved.ensures.items c.reserve.ensures.items in
    let sound = rows_sound g.C.Clock.readings _ c.args.number c.args.index c.args.at c.args.t _ _ _ _ c.self.invariant.0 may lines
    (ap (λ f. f.a) c.raise.ensures) (ap (λ f. f.c) c.raise.ensures) c.set.ensures in (
      sound,
      ready_line _ _ _ _ _ _ _ _ _ _ c.self.invariant.1 (ap (λ f. f.flying) c.raise.ensures) room,
      told_on g.C.Clock.readings _ _ _ _ _ _ _ _ _ _ _ _ _ _ _ _ c.self.invariant.0 sound refl lines c.self.invariant.2,
      c.self.invariant.3,
    )
