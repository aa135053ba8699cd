use Rattle.std.proofs.Common.{subst}
use Rattle.kt_engine.specs.Visits.{part_in}
use Rattle.kt_maint.specs.Outside.{EndsAs}
use Rattle.kt_maint.specs.Reworks.{HasComeBy}
use Rattle.kt_maint.proofs.OneOut.{one_want}
use Rattle.kt_maint.proofs.endings.end_away.Goals as goal

pub end_now-requires-clause-come : goal.end_now-requires-clause-come
end_now-requires-clause-come g c = subst (λ x. HasComeBy g.D.Disk.tells g.D.Disk.seen g.D.Disk.now g.D.Disk.leaves g.D.Disk.faults c.args.by x (part_in c.args.engine.now c.args.by)) c.in-Merge.is c.requires.come

pub end_one-requires-clause-come : goal.end_one-requires-clause-come
end_one-requires-clause-come g c = subst (λ x. HasComeBy g.D.Disk.tells g.D.Disk.seen g.D.Disk.now g.D.Disk.leaves g.D.Disk.faults c.args.by x (part_in c.args.engine.now c.args.by)) c.in-One.is c.requires.come

pub returns-in-One-clause-ends : goal.returns-in-One-clause-ends
returns-in-One-clause-ends g c = λ job has.
    let come = subst (λ x. HasComeBy g.D.Disk.tells g.D.Disk.seen g.D.Disk.now g.D.Disk.leaves g.D.Disk.faults c.args.by x (part_in c.args.engine.now c.args.by)) c.in-One.is c.requires.come in
    subst (λ w. EndsAs c.args.by w c.args.engine.now c.end_one.new.engine c.end_one.result) (one_want g.D.Disk.tells g.D.Disk.seen g.D.Disk.now g.D.Disk.leaves g.D.Disk.faults c.args.by c.in-One.reworked.want c.in-One.reworked.most c.in-One.reworked.lent _ c.args.engine.now come job has) c.end_one.ensures.ends
