use Rattle.kt_seatlock.specs.Passes.{number, part}
use Rattle.kt_maint.proofs.Between.{comes_to, may_work}
use Rattle.kt_maint.proofs.run.end_outside.Goals as goal

pub work_outside-came-requires : goal.work_outside-came-requires
work_outside-came-requires g c = record { may = may_work g.D.Disk.tells g.D.Disk.seen (number c.args.pass.now) c.args.out (part c.args.pass.now) c.requires.away }

pub end_job-ended-requires-clause-comes : goal.end_job-ended-requires-clause-comes
end_job-ended-requires-clause-comes g c =
    comes_to g.D.Disk.tells g.D.Disk.seen g.D.Disk.now g.D.Disk.leaves g.D.Disk.faults (number c.args.pass.now) c.args.out c.work_outside-came.result (part c.args.pass.now) c.requires.away c.work_outside-came.ensures
