use Rattle.std.proofs.Common.{◌^◌, ◌<◌, ◌≤◌, ◌+◌, length, refl, rules}
use Rattle.std.specs.Vec.{vec_len, vec_capacity}
use Rattle.kt_history.specs.declared.event.Event.TheVariants.{Chore}
use Rattle.kt_tablet.specs.Visits.{MayAnswerChore}
use Rattle.kt_tablet.proofs.Visits.{chore_sound, has_answered, of_old, one_line, has_turn, ready_line}
use Rattle.kt_tablet.proofs.Keeps.{chore_few}
use Rattle.kt_tablet.proofs.Told.{told_on}
use Rattle.kt_tablet.proofs.tablet.Tablet.chore_done.Goals as goal

pub set-requires : goal.set-requires
set-requires g c =
    let may = of_old (λ core. MayAnswerChore core c.args.number c.args.index) _ _ c.self.view_is c.requires c.if-self.false in
    has_turn _ c.args.number _ may.at.next

pub overflow_add-index : goal.overflow_add-index
overflow_add-index g c =
    let may = of_old (λ core. MayAnswerChore core c.args.number c.args.index) _ _ c.self.view_is c.requires c.if-self.false in
    let few : c.args.index + 1 < 2 ^ 32 = chore_few c.self.invariant.0 c.args.number c.args.index may.chore in
    search rules

pub invariant_of-self-2 : goal.invariant_of-self-2
invariant_of-self-2 g c =
    let may = of_old (λ core. MayAnswerChore core c.args.number c.args.index) _ _ c.self.view_is c.requires c.if-self.false in
    let room : vec_len c.push_reserved.new.self + length c.self.inside.flights.items + 1 ≤ vec_capacity c.push_reserved.new.self = search rules in
    let lines = one_line _ _ _ _ c.push_reserved.ensures.items c.reserve.ensures.items in
    let sound = chore_sound g.C.Clock.readings _ c.args.number c.args.index _ _ c.self.invariant.0 c.if-self.false may
    lines
    c.set.ensures in (
      sound,
      ready_line _ _ _ _ _ _ _ _ _ _ c.self.invariant.1 refl room,
      told_on g.C.Clock.readings _ _ _ _ _ _ _ _ _ _ _ _ _ _ _ _ c.self.invariant.0 sound refl lines c.self.invariant.2,
      c.self.invariant.3,
    )

pub returns-clause-answered : goal.returns-clause-answered
returns-clause-answered g c =
    let is = has_answered _ _ c.args.number c.args.index (Chore c.args.number c.args.index) _ _ c.self.view_is
    (one_line _ _ _ _ c.push_reserved.ensures.items c.reserve.ensures.items) c.set.ensures in
    λ k. record (c.self.view_is k) { core = is k }
