use Rattle.std.proofs.Common.{◌≡◌, ◌∙◌, ◌++◌, ◌∷◌, [], length, ap, sym, subst, false}
use Rattle.kt_records.specs.declared.entry.Entry.TheVariants.{Commit}
use Rattle.kt_tablet.specs.Rows.{AreRecorded}
use Rattle.kt_tablet.specs.Visits.{HasHandedOut, HeldBy}
use Rattle.kt_engine.proofs.Runs.{not_true}
use Rattle.kt_engine.proofs.Ended.{has_ended, has_room}
use Rattle.kt_engine.proofs.OfLogged.{commit_logged}
use Rattle.kt_engine.proofs.StoredWrites.{has_ended_stored}
use Rattle.kt_engine.proofs.Visiting.{visit_of, lending, ended_visit}
use Rattle.kt_engine.proofs.engine.Engine.end.Goals as goal

pub push-requires : goal.push-requires
push-requires g c =
    let ended = rw c.deref_mut.ensures.value at c.in_ok-ts.ensures.ended in
    let stopped = rw c.deref_mut.ensures.value at c.in_ok-ts.ensures.stopped in
    let goes : c.self.inside.tablet.value.core.stopped ≡ false = not_true c.self.inside.tablet.value.core.stopped (λ b. stopped b) in
    let may = (rw (← c.self.view_is) at c.requires) goes in
    record {
      room = rw c.deref_mut-2.ensures.value (has_room _ _ _ _ _ _ ended.flight c.args.number ended.flies c.self.invariant.0);
      of_logged = rw c.deref_mut-2.ensures.value (commit_logged g.L.Disk.tells g.L.Disk.seen g.L.Disk.now g.L.Disk.leaves g.L.Disk.faults _ c.args.number c.in_ok-ts.field-0.ts ended.flight c.in_ok-ts.field-0.rows c.self.invariant.0 ended.flies (sym ended.time) may.over);
    }

pub invariant_of-self-2 : goal.invariant_of-self-2
invariant_of-self-2 g c =
    let is = c.deref_mut.ensures.value in
    let stopped = rw is at c.in_ok-ts.ensures.stopped in
    let goes : c.self.inside.tablet.value.core.stopped ≡ false = not_true c.self.inside.tablet.value.core.stopped (λ b. stopped b) in
    let may = (rw (← c.self.view_is) at c.requires) goes in (
      has_ended _ _ _ _ _ _
          c.end.new.self c.push.new.self c.args.number c.in_ok-ts.field-0.index c.in_ok-ts.field-0.ts c.in_ok-ts.field-0.outcomes c.in_ok-ts.field-0.rows
          (rw is at c.end.ensures.beside) (rw is at c.in_ok-ts.ensures.forgets) (rw is at c.in_ok-ts.ensures.ended) (rw c.deref_mut-2.ensures.value at c.push.ensures.queued) goes may (rw is at c.in_ok-ts.ensures.written) (rw is at c.in_ok-ts.ensures.handed) c.self.invariant.0,
      has_ended_stored g.L.Disk.tells g.L.Disk.seen g.L.Disk.now g.L.Disk.leaves g.L.Disk.faults g.D.Disk.tells g.D.Disk.seen g.D.Disk.faults _ c.self.invariant.0 c.self.invariant.1
          c.end.new.self c.push.new.self c.args.number c.in_ok-ts.field-0.index c.in_ok-ts.field-0.ts c.in_ok-ts.field-0.outcomes c.in_ok-ts.field-0.rows
          (rw is at c.end.ensures.beside) (rw is at c.in_ok-ts.ensures.forgets) (rw is at c.in_ok-ts.ensures.ended) (rw c.deref_mut-2.ensures.value at c.push.ensures.queued) may (rw is at c.in_ok-ts.ensures.written) (rw is at c.in_ok-ts.ensures.handed),
    )

pub returns-clause-visit : goal.returns-clause-visit
returns-clause-visit g c =
    let is = c.deref_mut.ensures.value in
    visit_of _ _ _ _ c.self.view_is
    (ended_visit c.args.number c.in_ok-ts.field-0.index c.in_ok-ts.field-0.ts _ c.end.new.self c.push.new.self (rw is at c.in_ok-ts.ensures.ended) (rw is at c.end.ensures.beside)
    (ap lending (rw c.deref_mut-2.ensures.value at c.push.ensures.queued)) (rw is at c.in_ok-ts.ensures.forgets))

pub returns-clause-held : goal.returns-clause-held
returns-clause-held g c = subst (λ v. HeldBy v.tablet.core c.args.number c.in_ok-ts.field-0.ops c.in_ok-ts.field-0.keys) c.self.view_is (rw c.deref_mut.ensures.value at c.in_ok-ts.ensures.held)

pub returns-clause-written : goal.returns-clause-written
returns-clause-written g c =
    let written = c.in_ok-ts.ensures.written in
    written.count ∙ ap length (sym (c.in_ok-ts.ensures.held written.flight written.flies).0)

pub returns-clause-queued : goal.returns-clause-queued
returns-clause-queued g c =
    let is = c.deref_mut.ensures.value in
    let written = rw is at c.in_ok-ts.ensures.written in
    let handed = rw is at c.in_ok-ts.ensures.handed in
    let queued = rw c.deref_mut-2.ensures.value at c.push.ensures.queued in
    let ts = c.in_ok-ts.field-0.ts in
    let rows = c.in_ok-ts.field-0.rows in (
      rows,
      subst (λ v. HasHandedOut v.tablet c.end.new.self c.args.number rows) c.self.view_is handed,
      subst (λ v. AreRecorded v.tablet.names c.in_ok-ts.field-0.outcomes rows) c.self.view_is written.told,
      queued ∙ (λ k. record (c.self.view_is k).log { queued = (c.self.view_is k).log.queued ++ Commit ts rows ∷ []; room = sym (ap (λ l. l.room) queued) k }),
    )
