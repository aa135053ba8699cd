use Rattle.std.proofs.Common.{sym, ap, subst, ◌∙◌}
use Rattle.std.specs.Prelude.{OnOk}
use Rattle.kt_engine.specs.Jobs.{job_of}
use Rattle.kt_engine.proofs.Outsiders.{out_free}
use Rattle.kt_maint.specs.Outside.{EndsRead}
use Rattle.kt_maint.specs.Runs.{is_pass}
use Rattle.kt_maint.proofs.Begun.{ends_then}
use Rattle.kt_maint.proofs.LateWritten.{log_free, went_out, may_come_home, may_give_up, home_same, abandon_same}
use Rattle.kt_maint.proofs.Readying.{none_has}
use Rattle.kt_maint.proofs.Returns.{come_then}
use Rattle.kt_maint.proofs.Visiting.{asks_same, visits_then, visits_on, stands_same, stands_then, stands_behind}
use Rattle.kt_maint.proofs.ending.end_written.Goals as goal

pub append_waiting-requires : goal.append_waiting-requires
append_waiting-requires g c = record { home = log_free c.args.by c.args.engine.now c.requires.come.away.log }

pub end_settled-requires-clause-come : goal.end_settled-requires-clause-come
end_settled-requires-clause-come g c =
    let s = c.in-Yes.ensures.settles in
    come_then c.args.by c.args.engine.now c.append_waiting.new.engine c.append_waiting.ensures.visit s.2 s.3 s.0.settled.2 g.D.Disk.tells g.D.Disk.seen g.D.Disk.now g.D.Disk.leaves g.D.Disk.faults c.args.bound c.args.most c.args.lent _ c.requires.come

pub end_settled-requires-clause-goes : goal.end_settled-requires-clause-goes
end_settled-requires-clause-goes g c = c.in-Yes.ensures.settles.0.goes

pub end_settled-requires-clause-calm : goal.end_settled-requires-clause-calm
end_settled-requires-clause-calm g c =
    let s = c.in-Yes.ensures.settles in
    ap (λ t. t.core.aloft) s.1 ∙ (c.requires.quiet (sym (ap (λ t. t.core.stopped) s.1) ∙ s.0.goes)).0

pub end_settled-requires-clause-settled : goal.end_settled-requires-clause-settled
end_settled-requires-clause-settled g c = c.in-Yes.ensures.settles.0.settled

pub returns-in-Yes-clause-visit : goal.returns-in-Yes-clause-visit
returns-in-Yes-clause-visit g c = visits_then c.args.by c.args.engine.now c.append_waiting.new.engine c.end_settled.new.engine c.append_waiting.ensures.visit (ap (λ t. t.core.trail) c.in-Yes.ensures.settles.1) c.end_settled.ensures.visit

pub returns-in-Yes-clause-still : goal.returns-in-Yes-clause-still
returns-in-Yes-clause-still g c = stands_then c.args.by c.args.engine.now c.append_waiting.new.engine c.end_settled.new.engine (ap (λ t. t.core.trail) c.in-Yes.ensures.settles.1) c.append_waiting.ensures.still c.end_settled.ensures.still

pub returns-in-Yes-clause-ends : goal.returns-in-Yes-clause-ends
returns-in-Yes-clause-ends g c = λ job has.
    let s = c.in-Yes.ensures.settles in
    let e0 = c.args.engine.now in
    let e1 = c.append_waiting.new.engine in
    ends_then c.args.by job.want e0 e1 c.end_settled.new.engine c.end_settled.result (asks_same c.args.by e0.upkeep e1.upkeep s.3).own (c.end_settled.ensures.ends job (ap (job_of c.args.by) s.3 ∙ has))

pub take_home-requires-clause-out : goal.take_home-requires-clause-out
take_home-requires-clause-out g c = ap (λ s. s.holder) c.in-Stopped.ensures.settles.1 ∙ (went_out g.D.Disk.tells g.D.Disk.seen g.D.Disk.now g.D.Disk.leaves g.D.Disk.faults c.args.by c.args.bound c.args.most c.args.lent _ c.args.engine.now c.requires.come).out

pub take_home-requires-clause-may : goal.take_home-requires-clause-may
take_home-requires-clause-may g c =
    home_same g.D.Disk.tells g.D.Disk.seen g.D.Disk.now g.D.Disk.leaves g.D.Disk.faults c.args.by c.args.engine.now c.append_waiting.new.engine c.args.lent c.append_waiting.ensures.visit c.in-Stopped.ensures.settles.1 (may_come_home g.D.Disk.tells g.D.Disk.seen g.D.Disk.now g.D.Disk.leaves g.D.Disk.faults c.args.by c.args.bound c.args.most c.args.lent _ c.args.engine.now c.requires.come)

pub returns-in-Stopped-clause-visit : goal.returns-in-Stopped-clause-visit
returns-in-Stopped-clause-visit g c = visits_on c.args.by c.args.engine.now c.append_waiting.new.engine c.take_home.new.engine c.append_waiting.ensures.visit (ap (λ v. v.tablet.core.trail) c.take_home.ensures.home) c.take_home.ensures.visit

pub returns-in-Stopped-clause-still : goal.returns-in-Stopped-clause-still
returns-in-Stopped-clause-still g c =
    let b = c.append_waiting.new.engine in
    let d = c.take_home.new.engine in
    let same = ap (λ v. v.tablet) c.take_home.ensures.home in
    stands_behind c.args.by c.args.engine.now b d c.append_waiting.ensures.still (ap (λ t. t.core.trail) same) (stands_same c.args.by b d same)

pub returns-in-Stopped-clause-ends : goal.returns-in-Stopped-clause-ends
returns-in-Stopped-clause-ends g c = λ job has.
    let home = c.take_home.ensures.home in
    let s = c.in-Stopped.ensures.settles in (
      ap (λ v. v.tablet.core.stopped) home ∙ s.0,
      record { log = ap (λ v. is_pass v.log.holder c.args.by) home ∙ s.3; store = none_has c.take_home.new.engine.store.holder c.args.by (ap (λ v. v.store.holder) home) },
    )

pub give_up-requires-clause-out : goal.give_up-requires-clause-out
give_up-requires-clause-out g c = ap (λ s. s.holder) c.in-Memory.ensures.settles.1 ∙ (went_out g.D.Disk.tells g.D.Disk.seen g.D.Disk.now g.D.Disk.leaves g.D.Disk.faults c.args.by c.args.bound c.args.most c.args.lent _ c.args.engine.now c.requires.come).out

pub give_up-requires-clause-may : goal.give_up-requires-clause-may
give_up-requires-clause-may g c =
    home_same g.D.Disk.tells g.D.Disk.seen g.D.Disk.now g.D.Disk.leaves g.D.Disk.faults c.args.by c.args.engine.now c.append_waiting.new.engine c.args.lent c.append_waiting.ensures.visit c.in-Memory.ensures.settles.1 (may_come_home g.D.Disk.tells g.D.Disk.seen g.D.Disk.now g.D.Disk.leaves g.D.Disk.faults c.args.by c.args.bound c.args.most c.args.lent _ c.args.engine.now c.requires.come)

pub give_up-requires-clause-job : goal.give_up-requires-clause-job
give_up-requires-clause-job g c =
    abandon_same c.args.by c.args.engine.now c.append_waiting.new.engine c.in-Memory.ensures.settles.2
    (may_give_up g.D.Disk.tells g.D.Disk.seen g.D.Disk.now g.D.Disk.leaves g.D.Disk.faults c.args.by c.args.bound c.args.most c.args.lent _ c.args.engine.now c.requires.come (λ job has at. (out_free _ _ _ _ _ job (c.standing.ensures.stored.outside c.args.by job has at)).0))

pub returns-in-Memory-clause-visit : goal.returns-in-Memory-clause-visit
returns-in-Memory-clause-visit g c = visits_then c.args.by c.args.engine.now c.append_waiting.new.engine c.give_up.new.engine c.append_waiting.ensures.visit (ap (λ t. t.core.trail) c.in-Memory.ensures.settles.0) c.give_up.ensures.visit

pub returns-in-Memory-clause-still : goal.returns-in-Memory-clause-still
returns-in-Memory-clause-still g c = stands_same c.args.by c.args.engine.now c.give_up.new.engine (c.give_up.ensures.tablet ∙ c.in-Memory.ensures.settles.0)

pub returns-in-Memory-clause-ends : goal.returns-in-Memory-clause-ends
returns-in-Memory-clause-ends g c = λ job has.
    (record { log = ap (λ l. is_pass l.holder c.args.by) c.give_up.ensures.home.0 ∙ c.in-Memory.ensures.settles.3; store = none_has c.give_up.new.engine.store.holder c.args.by c.give_up.ensures.home.1 }, c.give_up.ensures.none)

pub returns-in-Yes-clause-reads : goal.returns-in-Yes-clause-reads
returns-in-Yes-clause-reads g c = subst (λ u. OnOk c.end_settled.result (EndsRead c.args.by u c.end_settled.new.engine.upkeep)) c.in-Yes.ensures.settles.3 c.end_settled.ensures.reads
