use Rattle.std.proofs.Common.{Some, sym}
use Rattle.kt_engine.specs.Jobs.{UpkeepView}
use Rattle.kt_engine.specs.Outside.{job_out}
use Rattle.kt_engine.proofs.Passes.{no_job, job_at, apart_at, changed_at}
use Rattle.kt_engine.proofs.upkeep.Upkeeps.go_out.Goals as goal

-- a pass with a job asked before
pub returns-in_default-clause-own : goal.returns-in_default-clause-own
returns-in_default-clause-own c = λ job has.
    let old = sym c.self.view_is in
    absurd (no_job c.self.inside.passes.items c.args.pass job (rw old at c.in_default.ensures) (rw old at has))

pub invariant_of-self : goal.invariant_of-self
invariant_of-self c = apart_at c.self.inside.passes.items c.in-Some.at c.index_mut.result.now c.go_out.new.self c.index_mut.ensures.value c.go_out.ensures.pass c.self.invariant

pub returns-clause-own : goal.returns-clause-own
returns-clause-own c = λ job has.
    let old = sym c.self.view_is in
    let us = c.self.inside.passes.items in
    let x = c.index_mut.result.now in
    let there = rw old at c.in-Some.ensures in
    let mine = job_at us c.in-Some.at c.args.pass x c.index_mut.ensures.value there.0 there.1 job c.self.invariant (rw old at has) in
    rw old (changed_at us c.in-Some.at c.args.pass x c.index_mut.ensures.value there.0 there.1 (λ (u : UpkeepView). record u { job = Some (job_out c.args.frozen job) }) c.go_out.new.self _ _ _ _ c.go_out.ensures.pass c.self.invariant (c.go_out.ensures.own job mine))
