use Rattle.std.proofs.Common.{Err, sym, ap, subst, ◌∙◌}
use Rattle.kt_base.specs.Causes.{Rose}
use Rattle.kt_maint.specs.Outside.{EndsRead, KeepsRead}
use Rattle.kt_maint.specs.Runs.{OnlyJob}
use Rattle.kt_maint.proofs.Begun.{ends_failed, ends_then, keeps_then, on_ok}
use Rattle.kt_maint.proofs.LateWritten.{home_of, rose_after}
use Rattle.kt_maint.proofs.OneOut.{may_hand, one_home, one_home_then, one_lent}
use Rattle.kt_maint.proofs.Readying.{no_device}
use Rattle.kt_maint.proofs.Visiting.{visits_then, stands_same, stands_then}
use Rattle.kt_maint.proofs.endings.end_one_settled.Goals as goal

pub take_home-requires-clause-out : goal.take_home-requires-clause-out
take_home-requires-clause-out g c = ap (λ v. v.store.holder) c.put_again.ensures.returned.beside ∙ (one_lent g.D.Disk.tells g.D.Disk.seen g.D.Disk.now g.D.Disk.leaves g.D.Disk.faults c.args.by c.args.want.now c.args.most c.args.lent _ c.args.engine.now c.requires.come).out

pub take_home-requires-clause-may : goal.take_home-requires-clause-may
take_home-requires-clause-may g c =
    home_of g.D.Disk.tells g.D.Disk.seen g.D.Disk.now g.D.Disk.leaves g.D.Disk.faults c.args.engine.now c.put_again.new.engine c.put_again.new.lent c.put_again.ensures.returned.beside (one_home_then g.D.Disk.tells g.D.Disk.seen g.D.Disk.now g.D.Disk.leaves g.D.Disk.faults c.args.by c.args.want.now c.args.most c.args.lent _ c.args.engine.now c.requires.come c.put_again.new.lent c.put_again.result c.put_again.ensures.added)

pub fail-requires-clause-out : goal.fail-requires-clause-out
fail-requires-clause-out g c = ap (λ v. v.store.holder) c.put_again.ensures.returned.beside ∙ (one_lent g.D.Disk.tells g.D.Disk.seen g.D.Disk.now g.D.Disk.leaves g.D.Disk.faults c.args.by c.args.want.now c.args.most c.args.lent _ c.args.engine.now c.requires.come).out

pub fail-requires-clause-may : goal.fail-requires-clause-may
fail-requires-clause-may g c =
    home_of g.D.Disk.tells g.D.Disk.seen g.D.Disk.now g.D.Disk.leaves g.D.Disk.faults c.args.engine.now c.put_again.new.engine c.put_again.new.lent c.put_again.ensures.returned.beside (one_home_then g.D.Disk.tells g.D.Disk.seen g.D.Disk.now g.D.Disk.leaves g.D.Disk.faults c.args.by c.args.want.now c.args.most c.args.lent _ c.args.engine.now c.requires.come c.put_again.new.lent c.put_again.result c.put_again.ensures.added)

pub fail-requires-clause-rose : goal.fail-requires-clause-rose
fail-requires-clause-rose g c = λ is.
    let faults = g.D.Disk.faults in
    let home = one_home g.D.Disk.tells g.D.Disk.seen g.D.Disk.now g.D.Disk.leaves g.D.Disk.faults c.args.by c.args.want.now c.args.most c.args.lent _ c.args.engine.now c.requires.come in
    let rose = c.put_again.ensures.added.rose (c.in-Err.is ∙ ap Err is) in
    subst (λ s. Rose (faults s.known) (faults c.put_again.new.lent.device)) (sym (ap (λ v. v.store) c.put_again.ensures.returned.beside)) (rose_after (faults c.args.engine.now.store.known) (faults c.args.lent.device) (faults c.put_again.new.lent.device) home.faults_rise rose)

-- what is handed in
pub end_one_home-requires-clause-may : goal.end_one_home-requires-clause-may
end_one_home-requires-clause-may g c = (c.args.want.now, may_hand g.D.Disk.tells g.D.Disk.seen g.D.Disk.now g.D.Disk.leaves g.D.Disk.faults c.args.by c.args.want.now c.put_again.new.lent c.in-Ok.out c.args.engine.now c.put_again.new.engine c.take_home.new.engine c.standing.ensures.side c.in-Ok.ensures.put c.take_home.ensures.home)

pub end_one_home-requires-clause-calm : goal.end_one_home-requires-clause-calm
end_one_home-requires-clause-calm g c =
    let home = c.take_home.ensures.home in
    let beside = c.put_again.ensures.returned.beside in
    record {
      goes = ap (λ v. v.tablet.core.stopped) home ∙ c.put_again.ensures.returned.goes ∙ c.requires.goes;
      calm = ap (λ v. v.tablet.core.aloft) home ∙ c.put_again.ensures.returned.aloft ∙ c.requires.calm;
      settled = (
        ap (λ v. v.log.queued) home ∙ ap (λ v. v.log.queued) beside ∙ c.requires.settled.0,
        ap (λ v. v.log.out) home ∙ ap (λ v. v.log.out) beside ∙ c.requires.settled.1,
        ap (λ v. v.log.holder) home ∙ ap (λ v. v.log.holder) beside ∙ c.requires.settled.2,
      );
      home = ap (λ v. v.store.holder) home;
    }

pub returns-in-Ok-clause-visit : goal.returns-in-Ok-clause-visit
returns-in-Ok-clause-visit g c =
    let e1 = c.put_again.new.engine in
    let e2 = c.take_home.new.engine in
    visits_then c.args.by c.args.engine.now e1 c.end_one_home.new.engine c.put_again.ensures.returned.visit c.put_again.ensures.returned.line (visits_then c.args.by e1 e2 c.end_one_home.new.engine c.take_home.ensures.visit (ap (λ v. v.tablet.core.trail) c.take_home.ensures.home) c.end_one_home.ensures.visit)

pub returns-in-Ok-clause-still : goal.returns-in-Ok-clause-still
returns-in-Ok-clause-still g c =
    let e1 = c.put_again.new.engine in
    let e2 = c.take_home.new.engine in
    let same = ap (λ v. v.tablet) c.take_home.ensures.home in
    stands_then c.args.by c.args.engine.now e1 c.end_one_home.new.engine c.put_again.ensures.returned.line c.put_again.ensures.returned.still (stands_then c.args.by e1 e2 c.end_one_home.new.engine (ap (λ t. t.core.trail) same) (stands_same c.args.by e1 e2 same) c.end_one_home.ensures.still)

pub returns-in-Ok-clause-ends : goal.returns-in-Ok-clause-ends
returns-in-Ok-clause-ends g c =
    let e0 = c.args.engine.now in
    let e2 = c.take_home.new.engine in
    ends_then c.args.by c.args.want.now e0 e2 c.end_one_home.new.engine c.end_one_home.result (subst (λ u. OnlyJob c.args.by e0.upkeep u) (sym (ap (λ v. v.upkeep) c.take_home.ensures.home)) c.put_again.ensures.returned.own)
    (c.end_one_home.ensures.ends c.args.want.now (may_hand g.D.Disk.tells g.D.Disk.seen g.D.Disk.now g.D.Disk.leaves g.D.Disk.faults c.args.by c.args.want.now c.put_again.new.lent c.in-Ok.out c.args.engine.now c.put_again.new.engine c.take_home.new.engine c.standing.ensures.side c.in-Ok.ensures.put c.take_home.ensures.home))

pub returns-in-Ok-clause-reads : goal.returns-in-Ok-clause-reads
returns-in-Ok-clause-reads g c =
    let by = c.args.by in
    let e0 = c.args.engine.now in
    let e2 = c.take_home.new.engine in
    let e3 = c.end_one_home.new.engine in
    let keeps = subst (KeepsRead by e0.upkeep) (sym (ap (λ v. v.upkeep) c.take_home.ensures.home)) c.in-Ok.ensures.put.reads in
    on_ok c.end_one_home.result (EndsRead by e2.upkeep e3.upkeep) (keeps_then by e0.upkeep e2.upkeep e3.upkeep keeps) c.end_one_home.ensures.reads

pub returns-in-Err-clause-visit : goal.returns-in-Err-clause-visit
returns-in-Err-clause-visit g c = visits_then c.args.by c.args.engine.now c.put_again.new.engine c.fail.new.engine c.put_again.ensures.returned.visit c.put_again.ensures.returned.line c.fail.ensures.visit

pub returns-in-Err-clause-still : goal.returns-in-Err-clause-still
returns-in-Err-clause-still g c = stands_then c.args.by c.args.engine.now c.put_again.new.engine c.fail.new.engine c.put_again.ensures.returned.line c.put_again.ensures.returned.still c.fail.ensures.still

pub returns-in-Err-clause-ends : goal.returns-in-Err-clause-ends
returns-in-Err-clause-ends g c =
    ends_failed c.args.by c.args.want.now c.args.engine.now c.fail.new.engine c.fail.result
    (no_device c.args.by c.fail.new.engine (ap (λ l. l.holder) c.fail.ensures.home.0 ∙ ap (λ v. v.log.holder) c.put_again.ensures.returned.beside ∙ c.requires.settled.2) c.fail.ensures.home.1) c.fail.ensures.stopped c.fail.ensures.none
