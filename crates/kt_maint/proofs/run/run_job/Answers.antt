use Rattle.std.proofs.Common.{rules, refl, sym, ap, subst, ◌∙◌}
use Rattle.kt_seatlock.specs.Passes.{number, seen, part}
use Rattle.kt_engine.specs.Calls.{SeesOthers, HasNoDevice, StandsStill}
use Rattle.kt_maint.specs.Calls.{AfterCall, HasAway, SameUpkeep}
use Rattle.kt_maint.specs.declared.tries.Turn.TheVariants as turn
use Rattle.kt_maint.proofs.Between.{call_ended, call_since, has_away, memory_since, told_ran, turn_at}
use Rattle.kt_maint.proofs.Calling.{still_itself, still_then, same_then, nothing_then, sees_itself, sees_then}
use Rattle.kt_maint.proofs.run.run_job.Goals as goal

pub tries-init : goal.tries-init
tries-init g c =
    let itself = still_itself (part c.args.pass.now) c.requires.home in
    (((refl, refl), (refl, refl, refl), c.requires.enters.1), c.requires.home, itself.0, itself.1, sees_itself (number c.args.pass.now) (seen c.args.pass.now))

pub returns-in-Over-Nothing-clause-still : goal.returns-in-Over-Nothing-clause-still
returns-in-Over-Nothing-clause-still g c =
    still_then (part c.args.pass.now) (part c.tries.pass) (part c.try_job.new.pass) c.tries.invariant.2 c.try_job.ensures.still

pub returns-in-Over-Stopped-clause-still : goal.returns-in-Over-Stopped-clause-still
returns-in-Over-Stopped-clause-still g c =
    still_then (part c.args.pass.now) (part c.tries.pass) (part c.try_job.new.pass) c.tries.invariant.2 c.try_job.ensures.still

pub returns-in-Over-Memory-clause-still : goal.returns-in-Over-Memory-clause-still
returns-in-Over-Memory-clause-still g c =
    still_then (part c.args.pass.now) (part c.tries.pass) (part c.try_job.new.pass) c.tries.invariant.2 c.try_job.ensures.still

pub returns-in-Over-Nothing-clause-call : goal.returns-in-Over-Nothing-clause-call
returns-in-Over-Nothing-clause-call g c =
    nothing_then (part c.args.pass.now) (part c.tries.pass) (part c.try_job.new.pass) c.args.want.now c.tries.invariant.3 (turn_at c.args.want.now (part c.tries.pass) (part c.try_job.new.pass) (seen c.try_job.new.pass) c.in-Over-Nothing.field-0 turn.Nothing c.in-Over-Nothing.field-0-is c.in-Over-Nothing.ensures.start)

pub returns-in-Over-Stopped-clause-call : goal.returns-in-Over-Stopped-clause-call
returns-in-Over-Stopped-clause-call g c = turn_at c.args.want.now (part c.tries.pass) (part c.try_job.new.pass) (seen c.try_job.new.pass) c.in-Over-Stopped.field-0 turn.Stopped c.in-Over-Stopped.field-0-is c.in-Over-Stopped.ensures.start

pub returns-in-Over-Memory-clause-call : goal.returns-in-Over-Memory-clause-call
returns-in-Over-Memory-clause-call g c =
    memory_since (part c.args.pass.now) (part c.tries.pass) (part c.try_job.new.pass) c.args.want.now (seen c.try_job.new.pass) c.tries.invariant.3
    (turn_at c.args.want.now (part c.tries.pass) (part c.try_job.new.pass) (seen c.try_job.new.pass) c.in-Over-Memory.field-0 turn.Memory c.in-Over-Memory.field-0-is c.in-Over-Memory.ensures.start)

-- a compaction
pub end_outside-requires-clause-away : goal.end_outside-requires-clause-away
end_outside-requires-clause-away g c =
    subst (λ n. HasAway g.D.Disk.tells g.D.Disk.seen n c.in-Out.out (part c.try_job.new.pass)) (sym c.try_job.ensures.pass.0.1)
    (has_away g.D.Disk.tells g.D.Disk.seen (number c.tries.pass) c.args.want.now c.in-Out.out (part c.tries.pass) (part c.try_job.new.pass) c.in-Out.ensures.start)

pub returns-in-Out-clause-still : goal.returns-in-Out-clause-still
returns-in-Out-clause-still g c =
    still_then (part c.args.pass.now) (part c.tries.pass) (part c.end_outside.new.pass) c.tries.invariant.2 (still_then (part c.tries.pass) (part c.try_job.new.pass) (part c.end_outside.new.pass) c.try_job.ensures.still c.end_outside.ensures.still)

pub returns-in-Out-clause-quiet : goal.returns-in-Out-clause-quiet
returns-in-Out-clause-quiet g c =
    let n = number c.args.pass.now in
    let first = subst (λ k. SeesOthers k (seen c.tries.pass) (seen c.try_job.new.pass)) c.tries.invariant.0.0.1 c.try_job.ensures.quiet in
    let second = subst (λ k. SeesOthers k (seen c.try_job.new.pass) (seen c.end_outside.new.pass)) (c.try_job.ensures.pass.0.1 ∙ c.tries.invariant.0.0.1) c.end_outside.ensures.quiet in
    sees_then n (seen c.args.pass.now) (seen c.tries.pass) (seen c.end_outside.new.pass) c.tries.invariant.4 (sees_then n (seen c.tries.pass) (seen c.try_job.new.pass) (seen c.end_outside.new.pass) first second)

pub returns-in-Out-clause-call : goal.returns-in-Out-clause-call
returns-in-Out-clause-call g c =
    let before = part c.tries.pass in
    let after = part c.end_outside.new.pass in
    subst (AfterCall c.args.want.now (part c.args.pass.now) after (seen c.end_outside.new.pass)) (sym c.answer.ensures)
    (call_since (part c.args.pass.now) before after c.args.want.now (seen c.end_outside.new.pass) c.end_outside.result c.tries.invariant.3
    (call_ended g.D.Disk.tells g.D.Disk.seen (number c.tries.pass) c.args.want.now c.in-Out.out before (part c.try_job.new.pass) after c.in-Out.ensures.start (seen c.end_outside.new.pass) c.end_outside.result c.end_outside.ensures.end))

pub tries-preserved : goal.tries-preserved
tries-preserved g c =
    let here = ap (λ m. m.0.part) c.rest.ensures.2 in
    let sees = ap (λ m. m.0.seen) c.rest.ensures.2 in
    let waits = turn_at c.args.want.now (part c.tries.pass) (part c.try_job.new.pass) (seen c.try_job.new.pass) c.in-Over-Wait.field-0 turn.Wait c.in-Over-Wait.field-0-is c.in-Over-Wait.ensures.start in
    let quiet = subst (λ n. SeesOthers n (seen c.tries.pass) (seen c.try_job.new.pass)) c.tries.invariant.0.0.1 c.try_job.ensures.quiet in (
      search rules,
      subst HasNoDevice (sym here) waits.1,
      subst (StandsStill (part c.args.pass.now)) (sym here) (still_then (part c.args.pass.now) (part c.tries.pass) (part c.try_job.new.pass) c.tries.invariant.2 c.try_job.ensures.still),
      subst (SameUpkeep (part c.args.pass.now)) (sym here) (same_then (part c.args.pass.now) (part c.tries.pass) (part c.try_job.new.pass) c.tries.invariant.3 waits.0),
      subst (SeesOthers (number c.args.pass.now) (seen c.args.pass.now)) (sym sees) (sees_then (number c.args.pass.now) (seen c.args.pass.now) (seen c.tries.pass) (seen c.try_job.new.pass) c.tries.invariant.4 quiet),
    )

-- its points

pub returns-in-Out-clause-points : goal.returns-in-Out-clause-points
returns-in-Out-clause-points g c = λ done. (c.try_job.new.job, told_ran c.end_outside.result _ c.end_outside.ensures.done (sym c.answer.ensures ∙ done))
