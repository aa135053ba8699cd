use Rattle.std.proofs.Common.{◌≡◌, ap, ◌∙◌}
use Rattle.kt_pick.specs.declared.rules.Want.{Want}
use Rattle.kt_engine.specs.Jobs.{job_of, upkeep_at}
use Rattle.kt_maint.specs.DeltaRuns.{MayHandOne}
use Rattle.kt_maint.specs.JobRuns.{MayEnd}
use Rattle.kt_maint.specs.Outside.{KeepsRead}
use Rattle.kt_maint.proofs.Begun.{ends_as_carried, keeps_done, on_both, on_ok}
use Rattle.kt_maint.proofs.Readying.{none_has}
use Rattle.kt_maint.proofs.Visiting.{visits_on, stands_behind}
use Rattle.kt_maint.proofs.endings.end_one_home.Goals as goal

pub close-requires-clause-done : goal.close-requires-clause-done
close-requires-clause-done g c =
    let b = c.hand_one-carried.new.engine in
    on_ok c.hand_one-carried.result ((w : Want) → MayHandOne g.D.Disk.tells g.D.Disk.seen g.D.Disk.now g.D.Disk.leaves c.args.engine.now c.args.by w c.args.rowset → MayEnd b c.args.by w) (λ ends. (c.requires.may.0, ends c.requires.may.0 c.requires.may.1)) c.hand_one-carried.ensures.published

pub returns-clause-visit : goal.returns-clause-visit
returns-clause-visit g c = visits_on c.args.by c.args.engine.now c.hand_one-carried.new.engine c.close.new.engine c.hand_one-carried.ensures.visit c.close.ensures.line c.close.ensures.visit

pub returns-clause-still : goal.returns-clause-still
returns-clause-still g c = stands_behind c.args.by c.args.engine.now c.hand_one-carried.new.engine c.close.new.engine c.hand_one-carried.ensures.still c.close.ensures.line c.close.ensures.still

pub returns-clause-ends : goal.returns-clause-ends
returns-clause-ends g c = λ w may.
    let e = c.hand_one-carried.ensures in
    let x = c.close.ensures in
    let b = c.hand_one-carried.new.engine in
    ends_as_carried c.args.by c.args.engine.now b c.close.new.engine w c.hand_one-carried.result c.close.result x.same x.beside.0 x.beside.1 (none_has b.log.holder c.args.by (ap (λ l. l.holder) e.log ∙ c.requires.calm.settled.2)) e.home e.asks
    (on_ok c.hand_one-carried.result ((y : Want) → MayHandOne g.D.Disk.tells g.D.Disk.seen g.D.Disk.now g.D.Disk.leaves c.args.engine.now c.args.by y c.args.rowset → MayEnd b c.args.by y) (λ ends. ends w may) e.published) x.stopped e.stops x.ended x.none

pub returns-clause-reads : goal.returns-clause-reads
returns-clause-reads g c =
    let a = c.args.engine.now.upkeep in
    let b = c.hand_one-carried.new.engine.upkeep in
    let d = c.close.new.engine.upkeep in
    on_both c.hand_one-carried.result c.close.result (KeepsRead c.args.by a b) ((upkeep_at c.args.by d.passes).done ≡ job_of c.args.by b) c.close.ensures.same (keeps_done c.args.by a b d) c.hand_one-carried.ensures.reads c.close.ensures.done
