use Rattle.std.proofs.Common.{refl, ap}
use Rattle.kt_maint.proofs.Begun.{done_of, has_ended, is_over, stands_over}
use Rattle.kt_maint.proofs.Visiting.{stands_same}
use Rattle.kt_maint.proofs.ending.close.Goals as goal

pub job_finish-requires : goal.job_finish-requires
job_finish-requires g c = let ends = (done_of c.args.by c.args.engine.now c.args.carried _ c.in-Ok.is c.requires.done).1 in record { may = (ends.job, ends.has, ends.may) }

pub returns-in-Ok-clause-still : goal.returns-in-Ok-clause-still
returns-in-Ok-clause-still g c =
    let a = c.args.engine.now in
    let b = c.job_finish.new.self in
    let ends = (done_of c.args.by a c.args.carried _ c.in-Ok.is c.requires.done).1 in
    stands_over c.args.by a a b ends.job (stands_same c.args.by a a refl) (is_over c.args.by a b ends.job ends.job.output ends.has (c.job_finish.ensures.finished ends.job ends.has))

pub returns-in-Ok-clause-beside : goal.returns-in-Ok-clause-beside
returns-in-Ok-clause-beside g c =
    let a = c.args.engine.now in
    let ends = (done_of c.args.by a c.args.carried _ c.in-Ok.is c.requires.done).1 in
    (is_over c.args.by a c.job_finish.new.self ends.job ends.job.output ends.has (c.job_finish.ensures.finished ends.job ends.has)).beside

pub returns-in-Ok-clause-ended : goal.returns-in-Ok-clause-ended
returns-in-Ok-clause-ended g c = λ w ends.
    let a = c.args.engine.now in
    let b = c.job_finish.new.self in
    has_ended c.args.by a b w ends (is_over c.args.by a b ends.job ends.job.output ends.has (c.job_finish.ensures.finished ends.job ends.has)) c.job_finish.ensures.visit

pub returns-in-Err-Memory-clause-still : goal.returns-in-Err-Memory-clause-still
returns-in-Err-Memory-clause-still g c = stands_same c.args.by c.args.engine.now c.let_go.new.engine (ap (λ v. v.tablet) c.let_go.ensures.beside)

pub returns-in-Err-Stopped-clause-still : goal.returns-in-Err-Stopped-clause-still
returns-in-Err-Stopped-clause-still g c = stands_same c.args.by c.args.engine.now c.args.engine.now refl

pub returns-in-Ok-clause-done : goal.returns-in-Ok-clause-done
returns-in-Ok-clause-done g c =
    let a = c.args.engine.now in
    let b = c.job_finish.new.self in
    let ends = (done_of c.args.by a c.args.carried _ c.in-Ok.is c.requires.done).1 in
    ap (λ u. u.done) (is_over c.args.by a b ends.job ends.job.output ends.has (c.job_finish.ensures.finished ends.job ends.has)).own
