use Rattle.std.proofs.Common.{Some, sym}
use Rattle.kt_engine.specs.Jobs.{UpkeepView}
use Rattle.kt_engine.specs.Outside.{job_again}
use Rattle.kt_engine.proofs.Passes.{no_job, job_at, apart_at, changed_at}
use Rattle.kt_engine.proofs.upkeep.Upkeeps.come_again.Goals as goal

-- a pass with a job asked before
pub returns-in_default-clause-own : goal.returns-in_default-clause-own
returns-in_default-clause-own c = λ job has. absurd (no_job c.self.inside.passes.items c.args.pass job c.in_default.ensures (rw (sym c.self.view_is) at has))

pub invariant_of-self-2 : goal.invariant_of-self-2
invariant_of-self-2 c = apart_at c.self.inside.passes.items c.in-Some.at c.index_mut.result.now c.come_again.new.self c.index_mut.ensures.value c.come_again.ensures.pass c.self.invariant

pub returns-clause-own : goal.returns-clause-own
returns-clause-own c = λ job has.
    let old = sym c.self.view_is in
    let us = c.self.inside.passes.items in
    let x = c.index_mut.result.now in
    let there = c.in-Some.ensures in
    let mine = job_at us c.in-Some.at c.args.pass x c.index_mut.ensures.value there.0 there.1 job c.self.invariant (rw old at has) in
    rw old (changed_at us c.in-Some.at c.args.pass x c.index_mut.ensures.value there.0 there.1 (λ (u : UpkeepView). record u { job = Some (job_again c.args.many c.args.last_mem c.args.again.value job) }) c.come_again.new.self _ _ _ _ c.come_again.ensures.pass c.self.invariant (c.come_again.ensures.own job mine))
