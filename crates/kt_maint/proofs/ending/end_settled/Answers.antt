use Rattle.std.proofs.Common.{Err, sym, ap, subst, ◌∙◌}
use Rattle.kt_base.specs.Causes.{Rose}
use Rattle.kt_maint.specs.JobRuns.{MayHandIn}
use Rattle.kt_maint.specs.Outside.{IsPutBy, EndsAs, EndsRead, KeepsRead}
use Rattle.kt_maint.specs.Runs.{OnlyJob}
use Rattle.kt_maint.proofs.Begun.{ends_failed, ends_then, keeps_then, on_ok}
use Rattle.kt_maint.proofs.EndLaws.{EndLaws}
use Rattle.kt_maint.proofs.HandOver.{hands_in, put_reads}
use Rattle.kt_maint.proofs.LateWritten.{home_both, went_out, may_come_home, home_then, home_of, rose_after}
use Rattle.kt_maint.proofs.Readying.{no_device}
use Rattle.kt_maint.proofs.Stages.{some_is}
use Rattle.kt_maint.proofs.Visiting.{visits_then, stands_same, stands_then}
use Rattle.kt_maint.proofs.ending.end_settled.Goals as goal

pub take_home-requires-clause-out : goal.take_home-requires-clause-out
take_home-requires-clause-out g c = ap (λ v. v.store.holder) c.put_late.ensures.returned.beside ∙ (went_out g.D.Disk.tells g.D.Disk.seen g.D.Disk.now g.D.Disk.leaves g.D.Disk.faults c.args.by c.args.bound c.args.most c.args.lent _ c.args.engine.now c.requires.come).out

pub take_home-requires-clause-may : goal.take_home-requires-clause-may
take_home-requires-clause-may g c =
    home_of g.D.Disk.tells g.D.Disk.seen g.D.Disk.now g.D.Disk.leaves g.D.Disk.faults c.args.engine.now c.put_late.new.engine c.put_late.new.lent c.put_late.ensures.returned.beside
    (home_then g.D.Disk.tells g.D.Disk.seen g.D.Disk.now g.D.Disk.leaves g.D.Disk.faults c.args.by c.args.bound c.args.most c.args.lent c.put_late.new.lent _ _ c.args.engine.now c.requires.come c.put_late.ensures.added)

pub fail-requires-clause-out : goal.fail-requires-clause-out
fail-requires-clause-out g c = ap (λ v. v.store.holder) c.put_late.ensures.returned.beside ∙ (went_out g.D.Disk.tells g.D.Disk.seen g.D.Disk.now g.D.Disk.leaves g.D.Disk.faults c.args.by c.args.bound c.args.most c.args.lent _ c.args.engine.now c.requires.come).out

pub fail-requires-clause-may : goal.fail-requires-clause-may
fail-requires-clause-may g c =
    home_of g.D.Disk.tells g.D.Disk.seen g.D.Disk.now g.D.Disk.leaves g.D.Disk.faults c.args.engine.now c.put_late.new.engine c.put_late.new.lent c.put_late.ensures.returned.beside
    (home_then g.D.Disk.tells g.D.Disk.seen g.D.Disk.now g.D.Disk.leaves g.D.Disk.faults c.args.by c.args.bound c.args.most c.args.lent c.put_late.new.lent _ _ c.args.engine.now c.requires.come c.put_late.ensures.added)

pub fail-requires-clause-rose : goal.fail-requires-clause-rose
fail-requires-clause-rose g c = λ is.
    let faults = g.D.Disk.faults in
    let home = may_come_home g.D.Disk.tells g.D.Disk.seen g.D.Disk.now g.D.Disk.leaves g.D.Disk.faults c.args.by c.args.bound c.args.most c.args.lent _ c.args.engine.now c.requires.come in
    let rose = c.put_late.ensures.added.rose (c.in-Err.is ∙ ap Err is) in
    subst (λ s. Rose (faults s.known) (faults c.put_late.new.lent.device)) (sym (ap (λ v. v.store) c.put_late.ensures.returned.beside)) (rose_after (faults c.args.engine.now.store.known) (faults c.args.lent.device) (faults c.put_late.new.lent.device) home.faults_rise rose)

-- what is handed in
pub end_home-requires-clause-may : goal.end_home-requires-clause-may
end_home-requires-clause-may g c =
    let by = c.args.by in
    let e0 = c.args.engine.now in
    let e1 = c.put_late.new.engine in
    let e2 = c.take_home.new.engine in
    let beside = c.put_late.ensures.returned.beside in
    let done = c.in-Ok.done.rowsets in
    let came = c.put_late.new.lent in
    let late = c.late_law.ensures in
    let pair = c.beside_law.ensures in
    let laws : EndLaws = record {
      late_alike = late.outputs;
      once = late.once;
      changes_alike = late.alike;
      changes_apart = late.apart;
      rise = c.rise_law.ensures;
      same = c.written_law.ensures.same;
      alike = pair.alike;
      turned = pair.turned;
      sound = pair.sound;
      differ = pair.differ;
      apart = pair.apart;
      pass = c.outputs_pass_law.ensures;
      still = c.written_law.ensures.pass;
      late_passes = late.passes;
      changes_pass = late.pass;
      passes = c.passing_law.ensures.passes;
      back = c.passing_law.ensures.back;
      both_pass = pair.pass;
      parts_pass = pair.parts;
      behind = c.behind_law.ensures;
      fewer = c.fewer_law.ensures.named;
      stand = c.stand_law.ensures;
      others = c.beside_law-2.ensures;
      late_named = c.again_law.ensures.named;
      late_stand = c.again_law.ensures.stand;
      late_others = c.again_law.ensures.others;
    } in
    let its = c.requires.come.away.job in
    let put = subst (λ v. IsPutBy its.want g.D.Disk.tells g.D.Disk.seen g.D.Disk.now g.D.Disk.leaves g.D.Disk.faults by c.args.bound c.args.most c.args.lent came its c.args.outputs.rowsets done e0 v) beside (c.in-Ok.ensures.put its c.requires.come.away.own) in
    let may = subst (λ v. MayHandIn g.D.Disk.tells g.D.Disk.seen g.D.Disk.now g.D.Disk.leaves v by c.requires.come.away.job.want done) (sym (home_both e0 e1 e2 came c.take_home.ensures.home beside))
    (hands_in g.D.Disk.tells g.D.Disk.seen g.D.Disk.now g.D.Disk.leaves g.D.Disk.faults by c.args.bound c.args.most c.args.lent came c.args.outputs done _ e0 e1.tablet e1.upkeep c.requires.come c.standing.ensures.side c.put_late.ensures.added c.is_within.ensures c.is_within-in-Ok.ensures laws put) in
    (c.requires.come.away.job.want, may)

pub end_home-requires-clause-calm : goal.end_home-requires-clause-calm
end_home-requires-clause-calm g c =
    let home = c.take_home.ensures.home in
    let beside = c.put_late.ensures.returned.beside in
    record {
      goes = ap (λ v. v.tablet.core.stopped) home ∙ c.put_late.ensures.returned.goes ∙ c.requires.goes;
      calm = ap (λ v. v.tablet.core.aloft) home ∙ c.put_late.ensures.returned.aloft ∙ c.requires.calm;
      settled = (
        ap (λ v. v.log.queued) home ∙ ap (λ v. v.log.queued) beside ∙ c.requires.settled.0,
        ap (λ v. v.log.out) home ∙ ap (λ v. v.log.out) beside ∙ c.requires.settled.1,
        ap (λ v. v.log.holder) home ∙ ap (λ v. v.log.holder) beside ∙ c.requires.settled.2,
      );
      home = ap (λ v. v.store.holder) home;
    }

pub returns-in-Ok-clause-visit : goal.returns-in-Ok-clause-visit
returns-in-Ok-clause-visit g c =
    let e1 = c.put_late.new.engine in
    let e2 = c.take_home.new.engine in
    visits_then c.args.by c.args.engine.now e1 c.end_home.new.engine c.put_late.ensures.returned.visit c.put_late.ensures.returned.line (visits_then c.args.by e1 e2 c.end_home.new.engine c.take_home.ensures.visit (ap (λ v. v.tablet.core.trail) c.take_home.ensures.home) c.end_home.ensures.visit)

pub returns-in-Ok-clause-still : goal.returns-in-Ok-clause-still
returns-in-Ok-clause-still g c =
    let e1 = c.put_late.new.engine in
    let e2 = c.take_home.new.engine in
    let same = ap (λ v. v.tablet) c.take_home.ensures.home in
    stands_then c.args.by c.args.engine.now e1 c.end_home.new.engine c.put_late.ensures.returned.line c.put_late.ensures.returned.still (stands_then c.args.by e1 e2 c.end_home.new.engine (ap (λ t. t.core.trail) same) (stands_same c.args.by e1 e2 same) c.end_home.ensures.still)

pub returns-in-Ok-clause-ends : goal.returns-in-Ok-clause-ends
returns-in-Ok-clause-ends g c = λ job has.
    let by = c.args.by in
    let e0 = c.args.engine.now in
    let e1 = c.put_late.new.engine in
    let e2 = c.take_home.new.engine in
    let beside = c.put_late.ensures.returned.beside in
    let done = c.in-Ok.done.rowsets in
    let came = c.put_late.new.lent in
    let late = c.late_law.ensures in
    let pair = c.beside_law.ensures in
    let laws : EndLaws = record {
      late_alike = late.outputs;
      once = late.once;
      changes_alike = late.alike;
      changes_apart = late.apart;
      rise = c.rise_law.ensures;
      same = c.written_law.ensures.same;
      alike = pair.alike;
      turned = pair.turned;
      sound = pair.sound;
      differ = pair.differ;
      apart = pair.apart;
      pass = c.outputs_pass_law.ensures;
      still = c.written_law.ensures.pass;
      late_passes = late.passes;
      changes_pass = late.pass;
      passes = c.passing_law.ensures.passes;
      back = c.passing_law.ensures.back;
      both_pass = pair.pass;
      parts_pass = pair.parts;
      behind = c.behind_law.ensures;
      fewer = c.fewer_law.ensures.named;
      stand = c.stand_law.ensures;
      others = c.beside_law-2.ensures;
      late_named = c.again_law.ensures.named;
      late_stand = c.again_law.ensures.stand;
      late_others = c.again_law.ensures.others;
    } in
    let its = c.requires.come.away.job in
    let put = subst (λ v. IsPutBy its.want g.D.Disk.tells g.D.Disk.seen g.D.Disk.now g.D.Disk.leaves g.D.Disk.faults by c.args.bound c.args.most c.args.lent came its c.args.outputs.rowsets done e0 v) beside (c.in-Ok.ensures.put its c.requires.come.away.own) in
    let may = subst (λ v. MayHandIn g.D.Disk.tells g.D.Disk.seen g.D.Disk.now g.D.Disk.leaves v by c.requires.come.away.job.want done) (sym (home_both e0 e1 e2 came c.take_home.ensures.home beside))
    (hands_in g.D.Disk.tells g.D.Disk.seen g.D.Disk.now g.D.Disk.leaves g.D.Disk.faults by c.args.bound c.args.most c.args.lent came c.args.outputs done _ e0 e1.tablet e1.upkeep c.requires.come c.standing.ensures.side c.put_late.ensures.added c.is_within.ensures c.is_within-in-Ok.ensures laws put) in
    let own = some_is c.requires.come.away.job job (sym c.requires.come.away.own ∙ has) in
    subst (λ j. EndsAs c.args.by j.want e0 c.end_home.new.engine c.end_home.result) own
    (ends_then c.args.by c.requires.come.away.job.want e0 e2 c.end_home.new.engine c.end_home.result (subst (λ u. OnlyJob c.args.by e0.upkeep u) (sym (ap (λ v. v.upkeep) c.take_home.ensures.home)) c.put_late.ensures.returned.own) (c.end_home.ensures.ends c.requires.come.away.job.want may))

pub returns-in-Err-clause-visit : goal.returns-in-Err-clause-visit
returns-in-Err-clause-visit g c = visits_then c.args.by c.args.engine.now c.put_late.new.engine c.fail.new.engine c.put_late.ensures.returned.visit c.put_late.ensures.returned.line c.fail.ensures.visit

pub returns-in-Err-clause-still : goal.returns-in-Err-clause-still
returns-in-Err-clause-still g c = stands_then c.args.by c.args.engine.now c.put_late.new.engine c.fail.new.engine c.put_late.ensures.returned.line c.put_late.ensures.returned.still c.fail.ensures.still

pub returns-in-Err-clause-ends : goal.returns-in-Err-clause-ends
returns-in-Err-clause-ends g c = λ job has.
    ends_failed c.args.by job.want c.args.engine.now c.fail.new.engine c.fail.result
    (no_device c.args.by c.fail.new.engine (ap (λ l. l.holder) c.fail.ensures.home.0 ∙ ap (λ v. v.log.holder) c.put_late.ensures.returned.beside ∙ c.requires.settled.2) c.fail.ensures.home.1) c.fail.ensures.stopped c.fail.ensures.none

pub returns-in-Ok-clause-reads : goal.returns-in-Ok-clause-reads
returns-in-Ok-clause-reads g c =
    let by = c.args.by in
    let e0 = c.args.engine.now in
    let its = c.requires.come.away.job in
    let e2 = c.take_home.new.engine in
    let e3 = c.end_home.new.engine in
    let keeps = subst (KeepsRead by e0.upkeep) (sym (ap (λ v. v.upkeep) c.take_home.ensures.home)) (put_reads g.D.Disk.tells g.D.Disk.seen g.D.Disk.now g.D.Disk.leaves g.D.Disk.faults by c.args.bound c.args.most c.args.lent c.put_late.new.lent its c.args.outputs.rowsets c.in-Ok.done.rowsets e0 c.put_late.new.engine c.requires.come.away.own its.want (c.in-Ok.ensures.put its c.requires.come.away.own)) in
    on_ok c.end_home.result (EndsRead by e2.upkeep e3.upkeep) (keeps_then by e0.upkeep e2.upkeep e3.upkeep keeps) c.end_home.ensures.reads
