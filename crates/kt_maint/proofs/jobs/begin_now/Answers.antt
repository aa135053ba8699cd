use Rattle.std.proofs.Common.{ap, ◌∙◌}
use Rattle.kt_engine.specs.Jobs.{asked, upkeep_at}
use Rattle.kt_maint.proofs.Begun.{has_begun, begun_ready, memory_same, stands_ready}
use Rattle.kt_maint.proofs.Readying.{no_device}
use Rattle.kt_maint.proofs.jobs.begin_now.Goals as goal

pub returns-in-Ok-clause-begun : goal.returns-in-Ok-clause-begun
returns-in-Ok-clause-begun g c =
    let by = c.args.by in
    let w = c.args.want.now in
    let e1 = c.make_ready.new.engine in
    let e2 = c.job_begin.new.self in
    let ready = c.in-Yes.ensures.ready in
    let begun = has_begun by e1 e2 w _ c.in-Ok.ensures.begun in
    record {
      job = begun.job;
      own = begun.own ∙ ap (λ u. asked w begun.job (upkeep_at by u.passes)) ready.3;
      begins = begun.begins;
      ready = begun_ready by e1 e2 w begun ready.0;
      line = c.job_begin.ensures.line ∙ ap (λ t. t.core.trail) ready.1;
    }

pub returns-in-Ok-clause-still : goal.returns-in-Ok-clause-still
returns-in-Ok-clause-still g c =
    let by = c.args.by in
    let w = c.args.want.now in
    let e0 = c.args.engine.now in
    let e1 = c.make_ready.new.engine in
    let e2 = c.job_begin.new.self in
    let ready = c.in-Yes.ensures.ready in
    let begun = has_begun by e1 e2 w _ c.in-Ok.ensures.begun in
    stands_ready by e0 e2 e1 w ready.1 begun.tablet

-- for want of memory nothing was begun

pub returns-in-Memory-clause-over : goal.returns-in-Memory-clause-over
returns-in-Memory-clause-over g c = let ready = c.in-Memory.ensures.ready in memory_same c.args.by c.args.want.now c.args.engine.now c.make_ready.new.engine ready.3 (ap (λ u. upkeep_at c.args.by u.passes) ready.2)

pub returns-in-Err-Memory-clause-over : goal.returns-in-Err-Memory-clause-over
returns-in-Err-Memory-clause-over g c =
    let by = c.args.by in
    let ready = c.in-Yes.ensures.ready in
    let same = c.in-Err-Memory.ensures.same (λ e. cc) in
    memory_same by c.args.want.now c.args.engine.now c.job_begin.new.self (no_device by c.job_begin.new.self (ap (λ v. v.log.holder) same.beside ∙ ready.0.settled.2) (ap (λ v. v.store.holder) same.beside ∙ ready.0.home))
    (same.same by ∙ ap (λ u. upkeep_at by u.passes) ready.3)
