use Rattle.std.proofs.Common.{sym, ◌∙◌}
use Rattle.kt_engine.specs.Jobs.{job_finished}
use Rattle.kt_engine.proofs.Passes.{no_job, job_at, apart_at, changed_at, left_of}
use Rattle.kt_engine.proofs.upkeep.Upkeeps.finish.Goals as goal

pub returns-in_err-at-clause-own : goal.returns-in_err-at-clause-own
returns-in_err-at-clause-own c = λ job has. absurd (no_job c.self.inside.passes.items c.args.pass job (rw (sym c.self.view_is) at c.in_err-at.ensures) (rw (sym c.self.view_is) at has))

pub returns-in_err-at-clause-left : goal.returns-in_err-at-clause-left
returns-in_err-at-clause-left c = λ job has. absurd (no_job c.self.inside.passes.items c.args.pass job (rw (sym c.self.view_is) at c.in_err-at.ensures) (rw (sym c.self.view_is) at has))

pub returns-in_err-at-clause-begun : goal.returns-in_err-at-clause-begun
returns-in_err-at-clause-begun c =
    let job = rw (sym c.self.view_is) at c.requires.job in
    absurd (no_job c.self.inside.passes.items c.args.pass job.0 (rw (sym c.self.view_is) at c.in_err-at.ensures) job.1)

pub invariant_of-self : goal.invariant_of-self
invariant_of-self c = apart_at c.self.inside.passes.items c.in_ok-at.at c.index_mut.result.now c.finish.new.self c.index_mut.ensures.value c.finish.ensures.pass c.self.invariant

pub returns-clause-own : goal.returns-clause-own
returns-clause-own c = λ job has.
    let old = sym c.self.view_is in
    let us = c.self.inside.passes.items in
    let x = c.index_mut.result.now in
    let there = rw old at c.in_ok-at.ensures in
    let mine = job_at us c.in_ok-at.at c.args.pass x c.index_mut.ensures.value there.0 there.1 job c.self.invariant (rw old at has) in
    rw old (changed_at us c.in_ok-at.at c.args.pass x c.index_mut.ensures.value there.0 there.1 (job_finished job.want) c.finish.new.self _ _ _ _ c.finish.ensures.pass c.self.invariant (c.finish.ensures.own job mine))

pub returns-clause-left : goal.returns-clause-left
returns-clause-left c = λ job has.
    let old = sym c.self.view_is in
    let us = c.self.inside.passes.items in
    let x = c.index_mut.result.now in
    let there = rw old at c.in_ok-at.ensures in
    let mine = job_at us c.in_ok-at.at c.args.pass x c.index_mut.ensures.value there.0 there.1 job c.self.invariant (rw old at has) in
    let left = left_of x.want x.job job mine in
    (left.0, c.finish.ensures.job ∙ left.1, left.2)
