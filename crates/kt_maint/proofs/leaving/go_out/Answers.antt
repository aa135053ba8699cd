use Rattle.std.proofs.Common.{◌≡◌, Err, None, Some, inl, refl, sym, ap, subst, ◌∙◌}
use Rattle.kt_engine.specs.JobSteps.{TakesInputs}
use Rattle.kt_engine.specs.Outside.{job_out}
use Rattle.kt_engine.specs.Returning.{LeavesAs, LeavesOne}
use Rattle.kt_engine.proofs.JobCalls.{as_merge}
use Rattle.kt_maint.specs.Runs.{MayAbandon}
use Rattle.kt_maint.proofs.GoingOut.{went_as, out_at, leaves_as, is_away, read_abandon, went_quiet}
use Rattle.kt_maint.proofs.leaving.go_out.Goals as goal

none_some : {A : Type 0} (x : A) → None ≡ Some x → ⊥
none_some x h = cc

pub unreachable-requires-in-Err-Out : goal.unreachable-requires-in-Err-Out
unreachable-requires-in-Err-Out g c =
    let out = (c.store_out.ensures.out c.in-Err-Out.field-0-0).0 (c.in-Err-Out.is ∙ ap Err c.in-Err-Out.field-0-is) in
    none_some c.in-Err-Out.field-0-0 (sym (ap (λ v. v.store.holder) c.read.ensures.beside ∙ c.requires.calm.home) ∙ out.1)

pub job_leave-requires-clause-free : goal.job_leave-requires-clause-free
job_leave-requires-clause-free g c =
    let by = c.args.by in
    let a = c.args.engine.now in
    let b = c.read.new.engine in
    let d = c.store_out.new.self in
    let input = c.in_ok-input.input in
    let lent = c.in-Ok.lent in
    let e = c.in-Ok.ensures in
    let went = went_as g.D.Disk.tells g.D.Disk.seen g.D.Disk.now g.D.Disk.leaves g.D.Disk.faults by c.requires.begun.0 a b d input lent c.standing.ensures.side c.requires.calm c.requires.begun.1 c.in_ok-input.ensures.read e.lent.1 e.lent.2 e.meta (e.upkeep (inl e.meta)) e.numbers e.whole (e.near refl) (e.near_files refl) in
    (out_at g.D.Disk.tells g.D.Disk.seen g.D.Disk.now g.D.Disk.leaves g.D.Disk.faults by c.requires.begun.0 a b d input lent went).free

pub job_leave-requires-clause-stage : goal.job_leave-requires-clause-stage
job_leave-requires-clause-stage g c =
    let by = c.args.by in
    let a = c.args.engine.now in
    let b = c.read.new.engine in
    let d = c.store_out.new.self in
    let input = c.in_ok-input.input in
    let lent = c.in-Ok.lent in
    let e = c.in-Ok.ensures in
    let went = went_as g.D.Disk.tells g.D.Disk.seen g.D.Disk.now g.D.Disk.leaves g.D.Disk.faults by c.requires.begun.0 a b d input lent c.standing.ensures.side c.requires.calm c.requires.begun.1 c.in_ok-input.ensures.read e.lent.1 e.lent.2 e.meta (e.upkeep (inl e.meta)) e.numbers e.whole (e.near refl) (e.near_files refl) in
    let at = out_at g.D.Disk.tells g.D.Disk.seen g.D.Disk.now g.D.Disk.leaves g.D.Disk.faults by c.requires.begun.0 a b d input lent went in (
      at.job,
      record { has = at.has; at = at.at },
      as_merge (TakesInputs d at.job × LeavesAs d.tablet at.job) (λ rowset. LeavesOne d.tablet at.job) at.job.want at.want (at.takes, leaves_as g.D.Disk.tells g.D.Disk.seen g.D.Disk.now g.D.Disk.leaves g.D.Disk.faults by c.requires.begun.0 a b d input lent went),
    )

pub job_leave-requires-clause-begun : goal.job_leave-requires-clause-begun
job_leave-requires-clause-begun g c =
    let by = c.args.by in
    let a = c.args.engine.now in
    let b = c.read.new.engine in
    let d = c.store_out.new.self in
    let input = c.in_ok-input.input in
    let lent = c.in-Ok.lent in
    let e = c.in-Ok.ensures in
    let went = went_as g.D.Disk.tells g.D.Disk.seen g.D.Disk.now g.D.Disk.leaves g.D.Disk.faults by c.requires.begun.0 a b d input lent c.standing.ensures.side c.requires.calm c.requires.begun.1 c.in_ok-input.ensures.read e.lent.1 e.lent.2 e.meta (e.upkeep (inl e.meta)) e.numbers e.whole (e.near refl) (e.near_files refl) in
    (out_at g.D.Disk.tells g.D.Disk.seen g.D.Disk.now g.D.Disk.leaves g.D.Disk.faults by c.requires.begun.0 a b d input lent went).begun

pub job_leave-requires-clause-unlent : goal.job_leave-requires-clause-unlent
job_leave-requires-clause-unlent g c = ap (λ v. v.store.lent) c.in-Ok.ensures.lent.2 ∙ c.in-Ok.ensures.meta

pub job_leave-requires-clause-calm : goal.job_leave-requires-clause-calm
job_leave-requires-clause-calm g c = ap (λ v. v.tablet.core.aloft) c.in-Ok.ensures.lent.2 ∙ ap (λ v. v.tablet.core.aloft) c.read.ensures.beside ∙ c.requires.calm.calm

pub returns-in-Ok-clause-quiet : goal.returns-in-Ok-clause-quiet
returns-in-Ok-clause-quiet g c =
    let by = c.args.by in
    let a = c.args.engine.now in
    let b = c.read.new.engine in
    let d = c.store_out.new.self in
    let input = c.in_ok-input.input in
    let lent = c.in-Ok.lent in
    let e = c.in-Ok.ensures in
    let went = went_as g.D.Disk.tells g.D.Disk.seen g.D.Disk.now g.D.Disk.leaves g.D.Disk.faults by c.requires.begun.0 a b d input lent c.standing.ensures.side c.requires.calm c.requires.begun.1 c.in_ok-input.ensures.read e.lent.1 e.lent.2 e.meta (e.upkeep (inl e.meta)) e.numbers e.whole (e.near refl) (e.near_files refl) in
    let at = out_at g.D.Disk.tells g.D.Disk.seen g.D.Disk.now g.D.Disk.leaves g.D.Disk.faults by c.requires.begun.0 a b d input lent went in
    went_quiet by a b d c.job_leave.new.self c.read.ensures.quiet c.store_out.ensures.visit e.lent.2 (e.upkeep (inl e.meta)) c.job_leave.ensures.visit (job_out d.tablet.frozen at.job) (c.job_leave.ensures.left at.job at.has)

pub returns-in-Ok-clause-away : goal.returns-in-Ok-clause-away
returns-in-Ok-clause-away g c = λ w begins.
    let by = c.args.by in
    let a = c.args.engine.now in
    let b = c.read.new.engine in
    let d = c.store_out.new.self in
    let input = c.in_ok-input.input in
    let lent = c.in-Ok.lent in
    let e = c.in-Ok.ensures in
    let went = went_as g.D.Disk.tells g.D.Disk.seen g.D.Disk.now g.D.Disk.leaves g.D.Disk.faults by w a b d input lent c.standing.ensures.side c.requires.calm begins c.in_ok-input.ensures.read e.lent.1 e.lent.2 e.meta (e.upkeep (inl e.meta)) e.numbers e.whole (e.near refl) (e.near_files refl) in
    let at = out_at g.D.Disk.tells g.D.Disk.seen g.D.Disk.now g.D.Disk.leaves g.D.Disk.faults by w a b d input lent went in
    let quiet = went_quiet by a b d c.job_leave.new.self c.read.ensures.quiet c.store_out.ensures.visit e.lent.2 (e.upkeep (inl e.meta)) c.job_leave.ensures.visit (job_out d.tablet.frozen at.job) (c.job_leave.ensures.left at.job at.has) in
    is_away g.D.Disk.tells g.D.Disk.seen g.D.Disk.now g.D.Disk.leaves g.D.Disk.faults by w a b d input lent went c.job_leave.new.self c.end_of_turn-most.result c.end_of_turn-most.ensures.few quiet.visit (c.job_leave.ensures.left at.job at.has)

pub returns-in-Err-Memory-clause-memory : goal.returns-in-Err-Memory-clause-memory
returns-in-Err-Memory-clause-memory g c = λ err.
    subst (λ v. MayAbandon v c.args.by) (sym c.in-Err-Memory.ensures.stays) (read_abandon g.D.Disk.tells c.args.by c.args.engine.now c.read.new.engine c.in_ok-input.input c.in_ok-input.ensures.read c.requires.begun.1.at.free)
