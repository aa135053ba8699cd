use Rattle.std.proofs.Common.{◌≡◌, Err, None, Some, inl, refl, sym, ap, subst, ◌∙◌}
use Rattle.kt_engine.specs.Outside.{job_out}
use Rattle.kt_maint.specs.Runs.{MayAbandon}
use Rattle.kt_maint.proofs.DeltaSteps.{may_abandon}
use Rattle.kt_maint.proofs.GoingOut.{went_quiet}
use Rattle.kt_maint.proofs.OneGoes.{OneWent, away_one, may_leave, one_at}
use Rattle.kt_maint.proofs.leaving.go_out_one.Goals as goal

none_some : {A : Type 0} (x : A) → None ≡ Some x → ⊥
none_some x h = cc

pub read_one-requires-clause-begun : goal.read_one-requires-clause-begun
read_one-requires-clause-begun g c = (c.args.want, c.requires.begun)

pub unreachable-requires-in-Err-Out : goal.unreachable-requires-in-Err-Out
unreachable-requires-in-Err-Out g c =
    let out = (c.store_out.ensures.out c.in-Err-Out.field-0-0).0 (c.in-Err-Out.is ∙ ap Err c.in-Err-Out.field-0-is) in
    none_some c.in-Err-Out.field-0-0 (sym (ap (λ v. v.store.holder) c.read_one.ensures.beside ∙ c.requires.calm.home) ∙ out.1)

pub job_leave-requires-clause-free : goal.job_leave-requires-clause-free
job_leave-requires-clause-free g c =
    let e = c.in-Ok.ensures in
    let read = c.in_ok-rowset.ensures.read c.args.want c.requires.begun in
    ap (λ u. u.publishing) (e.upkeep (inl e.meta)) ∙ read.at.free

pub job_leave-requires-clause-stage : goal.job_leave-requires-clause-stage
job_leave-requires-clause-stage g c =
    let e = c.in-Ok.ensures in
    let read = c.in_ok-rowset.ensures.read c.args.want c.requires.begun in
    (read.at.job, one_at c.args.by c.args.want c.read_one.new.engine c.store_out.new.self c.in_ok-rowset.rowset read (e.upkeep (inl e.meta)), may_leave c.args.by c.args.want c.read_one.new.engine c.store_out.new.self c.in_ok-rowset.rowset read (ap (λ v. v.tablet) e.lent.2))

pub job_leave-requires-clause-begun : goal.job_leave-requires-clause-begun
job_leave-requires-clause-begun g c =
    let e = c.in-Ok.ensures in
    let read = c.in_ok-rowset.ensures.read c.args.want c.requires.begun in
    λ none. read.at.begun (sym (ap (λ u. u.begun) (e.upkeep (inl e.meta))) ∙ none)

pub job_leave-requires-clause-unlent : goal.job_leave-requires-clause-unlent
job_leave-requires-clause-unlent g c = ap (λ v. v.store.lent) c.in-Ok.ensures.lent.2 ∙ c.in-Ok.ensures.meta

pub job_leave-requires-clause-calm : goal.job_leave-requires-clause-calm
job_leave-requires-clause-calm g c = ap (λ v. v.tablet.core.aloft) c.in-Ok.ensures.lent.2 ∙ ap (λ v. v.tablet.core.aloft) c.read_one.ensures.beside ∙ c.requires.calm.calm

pub returns-in-Ok-clause-quiet : goal.returns-in-Ok-clause-quiet
returns-in-Ok-clause-quiet g c =
    let e = c.in-Ok.ensures in
    let d = c.store_out.new.self in
    let read = c.in_ok-rowset.ensures.read c.args.want c.requires.begun in
    let at = one_at c.args.by c.args.want c.read_one.new.engine d c.in_ok-rowset.rowset read (e.upkeep (inl e.meta)) in
    went_quiet c.args.by c.args.engine.now c.read_one.new.engine d c.job_leave.new.self c.read_one.ensures.quiet c.store_out.ensures.visit e.lent.2 (e.upkeep (inl e.meta)) c.job_leave.ensures.visit (job_out d.tablet.frozen read.at.job) (c.job_leave.ensures.left read.at.job at.has)

pub returns-in-Ok-clause-away : goal.returns-in-Ok-clause-away
returns-in-Ok-clause-away g c =
    let by = c.args.by in
    let a = c.args.engine.now in
    let b = c.read_one.new.engine in
    let d = c.store_out.new.self in
    let e = c.in-Ok.ensures in
    let read = c.in_ok-rowset.ensures.read c.args.want c.requires.begun in
    let at = one_at by c.args.want b d c.in_ok-rowset.rowset read (e.upkeep (inl e.meta)) in
    let went : OneWent g.D.Disk.tells g.D.Disk.seen g.D.Disk.now g.D.Disk.leaves g.D.Disk.faults by a b d c.in-Ok.lent = record {
      side = c.standing.ensures.side;
      ready = c.requires.calm;
      beside = c.read_one.ensures.beside;
      went = e.lent.2;
      meta = e.meta;
      device = e.lent.1;
      numbers = e.numbers;
      is_whole = e.whole;
      near = e.near refl;
      near_files = e.near_files refl;
    } in
    away_one g.D.Disk.tells g.D.Disk.seen g.D.Disk.now g.D.Disk.leaves g.D.Disk.faults by c.args.want a b d c.in_ok-rowset.rowset c.in-Ok.lent went read c.job_leave.new.self c.end_of_turn-most.result c.end_of_turn-most.ensures.few (c.job_leave.ensures.left read.at.job at.has)

pub returns-in-Err-Memory-clause-memory : goal.returns-in-Err-Memory-clause-memory
returns-in-Err-Memory-clause-memory g c = λ err.
    let read = c.in_ok-rowset.ensures.read c.args.want c.requires.begun in
    subst (λ v. MayAbandon v c.args.by) (sym c.in-Err-Memory.ensures.stays) (may_abandon c.args.by c.args.want c.read_one.new.engine read.at tt)
