use Rattle.std.proofs.Common.{subst}
use Rattle.std.specs.Prelude.{IfOk}
use Rattle.kt_tablet.specs.Visits.{HasNoted}
use Rattle.kt_engine.proofs.Applied.{applied_or_not}
use Rattle.kt_engine.proofs.StoredWrites.{applied_or_not_stored}
use Rattle.kt_engine.proofs.Visiting.{visit_of, apply_visit}
use Rattle.kt_engine.proofs.engine.Engine.apply_row.Goals as goal

pub invariant_of-self : goal.invariant_of-self
invariant_of-self g c =
    let is = c.deref_mut.ensures.value in (
      applied_or_not _ _ _ _ _ _
          c.apply_row.new.self c.args.number c.args.at c.apply_row.result (rw is at c.apply_row.ensures.applied) (rw is at c.apply_row.ensures.noted) (rw is at c.apply_row.ensures.run)
          (rw c.deref.ensures at c.standing.ensures.sound.stands) (rw c.deref.ensures at c.standing.ensures.named) (rw c.deref.ensures at c.standing.ensures.noted) (rw is at c.apply_row.ensures.beside) (rw is at c.apply_row.ensures.same) (rw is at c.apply_row.ensures.stopped) (rw (← c.self.view_is) at c.requires.durable) c.self.invariant.0,
      applied_or_not_stored g.L.Disk.tells g.L.Disk.seen g.L.Disk.now g.L.Disk.leaves g.L.Disk.faults g.D.Disk.tells g.D.Disk.seen g.D.Disk.faults _ c.self.invariant.0 c.self.invariant.1
          c.apply_row.new.self c.args.number c.args.at c.apply_row.result (rw is at c.apply_row.ensures.applied) (rw is at c.apply_row.ensures.noted) (rw is at c.apply_row.ensures.run)
          (rw c.deref.ensures at c.standing.ensures.sound.stands) (rw c.deref.ensures at c.standing.ensures.named) (rw c.deref.ensures at c.standing.ensures.noted) (rw is at c.apply_row.ensures.beside) (rw is at c.apply_row.ensures.same),
    )

pub returns-clause-visit : goal.returns-clause-visit
returns-clause-visit g c =
    let is = c.deref_mut.ensures.value in
    visit_of _ _ _ _ c.self.view_is (apply_visit c.args.number c.args.at _ c.apply_row.new.self c.apply_row.result (rw is at c.apply_row.ensures.applied) (rw is at c.apply_row.ensures.beside) (rw is at c.apply_row.ensures.same))

pub returns-clause-noted : goal.returns-clause-noted
returns-clause-noted g c =
    let is = c.deref_mut.ensures.value in
    subst (λ v. IfOk c.apply_row.result (λ outcome. HasNoted v.tablet c.apply_row.new.self c.args.number c.args.at outcome)) c.self.view_is (rw is at c.apply_row.ensures.noted)
