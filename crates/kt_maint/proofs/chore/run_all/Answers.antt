use Rattle.std.proofs.Common.{rules, ◌≡◌, Result, Err, refl, ap, subst, ◌∙◌, arith}
use Rattle.std.proofs.lemmas.Result.{err_from_is_err_and}
use Rattle.kt_seatlock.specs.Passes.{number, seen, part}
use Rattle.kt_engine.specs.Calls.{SeesOthers}
use Rattle.kt_engine.specs.declared.job.MaintNo.{MaintNo}
use Rattle.kt_engine.specs.declared.job.MaintNo.TheVariants as no
use Rattle.kt_maint.specs.declared.run.Ran.{Ran}
use Rattle.kt_maint.proofs.Calling.{still_itself, still_then, sees_itself, sees_then, call_home, call_none, ran_none}
use Rattle.kt_maint.proofs.Rounds.{rounds_begin, rounds_on, rounds_end}
use Rattle.kt_maint.proofs.chore.run_all.Goals as goal

-- why a call ended
why_is : (r : Result Ran MaintNo) (why : MaintNo) → r ≡ Err why → r ≡ Err no.Stopped → why ≡ no.Stopped
why_is r why was e = cc

pub wants-init : goal.wants-init
wants-init g c =
    let itself = still_itself (part c.args.pass.now) c.requires.home in
    (((refl, refl), (refl, refl, refl), c.requires.enters.1), c.requires.home, itself.0, sees_itself (number c.args.pass.now) (seen c.args.pass.now), rounds_begin c.args.wants.now (part c.args.pass.now), λ none. none)

pub returns-in_err-run_job-clause-still : goal.returns-in_err-run_job-clause-still
returns-in_err-run_job-clause-still g c = still_then (part c.args.pass.now) (part c.wants.pass) (part c.run_job.new.pass) c.wants.invariant.2 c.run_job.ensures.still

pub returns-in_err-run_job-clause-quiet : goal.returns-in_err-run_job-clause-quiet
returns-in_err-run_job-clause-quiet g c =
    let quiet = subst (λ n. SeesOthers n (seen c.wants.pass) (seen c.run_job.new.pass)) c.wants.invariant.0.0.1 c.run_job.ensures.quiet in
    sees_then (number c.args.pass.now) (seen c.args.pass.now) (seen c.wants.pass) (seen c.run_job.new.pass) c.wants.invariant.3 quiet

pub returns-in_err-run_job-clause-home : goal.returns-in_err-run_job-clause-home
returns-in_err-run_job-clause-home g c = call_home (part c.wants.pass) (part c.run_job.new.pass) c.want-item.result (seen c.run_job.new.pass) c.run_job.result c.run_job.ensures.call

pub wants-preserved : goal.wants-preserved
wants-preserved g c =
    let quiet = subst (λ n. SeesOthers n (seen c.wants.pass) (seen c.run_job.new.pass)) c.wants.invariant.0.0.1 c.run_job.ensures.quiet in (
      search rules,
      call_home (part c.wants.pass) (part c.run_job.new.pass) c.want-item.result (seen c.run_job.new.pass) c.run_job.result c.run_job.ensures.call,
      still_then (part c.args.pass.now) (part c.wants.pass) (part c.run_job.new.pass) c.wants.invariant.2 c.run_job.ensures.still,
      sees_then (number c.args.pass.now) (seen c.args.pass.now) (seen c.wants.pass) (seen c.run_job.new.pass) c.wants.invariant.3 quiet,
      rounds_on c.args.wants.now (part c.args.pass.now) (part c.wants.pass) (part c.run_job.new.pass) c.wants.want-index c.want-item.result (seen c.run_job.new.pass) _ c.wants-test.true c.want-item.is c.wants.invariant.4 c.in_ok-run_job.ensures.call,
      λ none. ran_none (part c.wants.pass) (part c.run_job.new.pass) c.want-item.result (seen c.run_job.new.pass) _ c.in_ok-run_job.ensures.call,
    )

pub returns-clause-done : goal.returns-clause-done
returns-clause-done g c = rounds_end c.args.wants.now (part c.args.pass.now) (part c.wants.pass) c.wants.want-index (omega arith) c.wants.invariant.4

pub returns-in_err-run_job-clause-none : goal.returns-in_err-run_job-clause-none
returns-in_err-run_job-clause-none g c = λ goes none.
    let p = err_from_is_err_and c.from_residual.result c.from_residual.ensures.1 in
    call_none (part c.wants.pass) (part c.run_job.new.pass) c.want-item.result (seen c.run_job.new.pass) c.run_job.result c.run_job.ensures.call (λ e. goes (p.1 ∙ ap Err (p.2 ∙ why_is c.run_job.result c.in_err-run_job.field-0.0 c.in_err-run_job.was e))) (c.wants.invariant.5 none)

pub returns-clause-none : goal.returns-clause-none
returns-clause-none g c = λ goes none. c.wants.invariant.5 none
