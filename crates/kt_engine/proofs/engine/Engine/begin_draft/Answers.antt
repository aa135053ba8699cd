use Rattle.std.proofs.Common.{◌≡◌, ◌<◌, ◌≤◌, ◌+◌, ◌^◌, length, ap, ◌∙◌, refl, sym, subst, rules, false, None}
use Rattle.kt_tablet.specs.Visits.{holder_of}
use Rattle.kt_engine.proofs.Begun.{plan_kept, may_on, has_begun}
use Rattle.kt_engine.proofs.Both.{left_both, roomed_both, same_both}
use Rattle.kt_engine.proofs.OfLogged.{replicate_logged}
use Rattle.kt_engine.proofs.Upkeeps.{not_publishing}
use Rattle.kt_engine.proofs.StoredWrites.{has_begun_stored}
use Rattle.kt_engine.proofs.Visiting.{visit_of, lending, begun_visit_on}
use Rattle.kt_engine.proofs.engine.Engine.begin_draft.Goals as goal

pub invariant_of-self : goal.invariant_of-self
invariant_of-self g c =
    let is = c.deref_mut.ensures.value in
    left_both g.L.Disk.tells g.L.Disk.seen g.L.Disk.now g.L.Disk.leaves g.L.Disk.faults g.D.Disk.tells g.D.Disk.seen g.D.Disk.faults _ c.ask.new.self c.args.number c.args.index c.ask.result c.in_err-ask.field-0.0 c.in_err-ask.was (rw is at c.ask.ensures.stopped) (rw is at c.ask.ensures.beside) (rw is at c.in_err-ask.ensures.left) c.self.invariant

pub invariant_of-self-then-is_publishing : goal.invariant_of-self-then-is_publishing
invariant_of-self-then-is_publishing g c =
    same_both g.L.Disk.tells g.L.Disk.seen g.L.Disk.now g.L.Disk.leaves g.L.Disk.faults g.D.Disk.tells g.D.Disk.seen g.D.Disk.faults _ c.ask.new.self (rw c.deref_mut.ensures.value at c.in_ok-ask.ensures.same) c.self.invariant

pub invariant_of-self-in_default : goal.invariant_of-self-in_default
invariant_of-self-in_default g c =
    let room = c.deref_mut-2.ensures.value in
    roomed_both g.L.Disk.tells g.L.Disk.seen g.L.Disk.now g.L.Disk.leaves g.L.Disk.faults g.D.Disk.tells g.D.Disk.seen g.D.Disk.faults _ c.ask.new.self c.make_room.new.log (rw c.deref_mut.ensures.value at c.in_ok-ask.ensures.same) (rw room at c.make_room.ensures.log) (rw room at c.make_room.ensures.more) c.self.invariant

pub invariant_of-self-in_default-begin_free : goal.invariant_of-self-in_default-begin_free
invariant_of-self-in_default-begin_free g c =
    let room = c.deref_mut-2.ensures.value in
    roomed_both g.L.Disk.tells g.L.Disk.seen g.L.Disk.now g.L.Disk.leaves g.L.Disk.faults g.D.Disk.tells g.D.Disk.seen g.D.Disk.faults _ c.begin_free.new.self c.make_room.new.log (c.in_default-begin_free.ensures.same ∙ (c.deref_mut-3.ensures.value ∙ (rw c.deref_mut.ensures.value at c.in_ok-ask.ensures.same))) (rw room at c.make_room.ensures.log) (rw room at c.make_room.ensures.more) c.self.invariant

pub invariant_of-self-2 : goal.invariant_of-self-2
invariant_of-self-2 g c =
    let is = c.deref_mut.ensures.value in
    let room_is = c.deref_mut-2.ensures.value in
    let free_is = c.deref_mut-3.ensures.value in
    let log_is = c.deref_mut-4.ensures.value in
    let same = rw is at c.in_ok-ask.ensures.same in
    let before = roomed_both g.L.Disk.tells g.L.Disk.seen g.L.Disk.now g.L.Disk.leaves g.L.Disk.faults g.D.Disk.tells g.D.Disk.seen g.D.Disk.faults _ c.ask.new.self c.make_room.new.log same (rw room_is at c.make_room.ensures.log) (rw room_is at c.make_room.ensures.more) c.self.invariant in
    let goes : c.self.inside.tablet.value.core.stopped ≡ false = rw is at c.in_ok-ask.ensures.free.goes in
    let may = (rw (← c.self.view_is) at c.requires) goes in
    let free : holder_of c.ask.new.self.core c.args.draft.now.write.ops ≡ None = ap (λ t. holder_of t.core c.args.draft.now.write.ops) same ∙ (rw is at c.in_ok-ask.ensures.free.apart) in
    let none = not_publishing c.self.inside.upkeep.publishing (sym c.is_publishing.ensures ∙ c.if-is_publishing.false) in
    let fits : c.in-Ok-begin_free.ts < 2 ^ 64 = search rules in
    let room : length c.ask.new.self.core.aloft + 2 ≤ c.make_room.new.log.room = rw c.deref-2.ensures at (subst (λ n. n + 2 ≤ c.make_room.new.log.room) c.flying-flying.ensures c.in-Ok.ensures.room) in (
      has_begun _ _ _ _ _ _
          c.begin_free.new.self c.push.new.self c.args.number c.args.index c.in-Ok-begin_free.ts c.next_place-place.result c.args.draft.now.write.ops c.args.draft.now.write.ops c.replace-logged.result refl (c.replace-logged.ensures.value ∙ c.args.draft.now.alike)
          (rw free_is at c.begin_free.ensures.beside) (rw free_is at c.in-Ok-begin_free.ensures.noted) (rw free_is at c.in-Ok-begin_free.ensures.placed) (rw free_is at c.in-Ok-begin_free.ensures.begun) (rw log_is at c.push.ensures.queued) (ap (λ t. t.core.stopped) same ∙ goes) (may_on c.self.inside.tablet.value c.ask.new.self c.args.number c.args.index c.args.draft.now.write.ops same may) free (plan_kept c.self.inside.tablet.value.core c.args.number c.args.index c.args.draft.now.write.ops (rw c.deref.ensures at c.standing.ensures.sound.plan) may) fits room (rw c.deref-3.ensures at c.next_place-place.ensures)
          (ap (λ t. length t.notes) same ∙ (rw c.deref.ensures at c.standing.ensures.noted) ∙ sym (ap (λ t. length t.core.aloft) same)) before.0,
      has_begun_stored g.L.Disk.tells g.L.Disk.seen g.L.Disk.now g.L.Disk.leaves g.L.Disk.faults g.D.Disk.tells g.D.Disk.seen g.D.Disk.faults _ before.0 before.1
          c.begin_free.new.self c.push.new.self c.args.number c.args.index c.in-Ok-begin_free.ts c.next_place-place.result c.args.draft.now.write.ops c.args.draft.now.write.ops c.replace-logged.result none refl (c.replace-logged.ensures.value ∙ c.args.draft.now.alike)
          (rw free_is at c.begin_free.ensures.beside) (rw free_is at c.in-Ok-begin_free.ensures.noted) (rw free_is at c.in-Ok-begin_free.ensures.placed) (rw free_is at c.in-Ok-begin_free.ensures.begun) (rw log_is at c.push.ensures.queued) (may_on c.self.inside.tablet.value c.ask.new.self c.args.number c.args.index c.args.draft.now.write.ops same may) free (plan_kept c.self.inside.tablet.value.core c.args.number c.args.index c.args.draft.now.write.ops (rw c.deref.ensures at c.standing.ensures.sound.plan) may) fits (rw c.deref-3.ensures at c.next_place-place.ensures)
          (ap (λ t. length t.notes) same ∙ (rw c.deref.ensures at c.standing.ensures.noted) ∙ sym (ap (λ t. length t.core.aloft) same)),
    )

pub returns-clause-visit : goal.returns-clause-visit
returns-clause-visit g c =
    let free_is = c.deref_mut-3.ensures.value in
    visit_of _ _ _ _ c.self.view_is
    (begun_visit_on c.args.number c.args.index c.in-Ok-begin_free.ts c.next_place-place.result c.args.draft.now.write.ops _ c.ask.new.self c.begin_free.new.self c.push.new.self (rw c.deref_mut.ensures.value at c.in_ok-ask.ensures.same) (rw free_is at c.in-Ok-begin_free.ensures.begun) (rw free_is at c.begin_free.ensures.beside)
    (ap lending (rw c.deref_mut-4.ensures.value at c.push.ensures.queued) ∙ ap lending (rw c.deref_mut-2.ensures.value at c.make_room.ensures.log))
    (rw free_is at c.in-Ok-begin_free.ensures.placed))

pub push-requires-clause-of_logged : goal.push-requires-clause-of_logged
push-requires-clause-of_logged g c = λ t. replicate_logged _ _ _
