use Rattle.std.proofs.Common.{sym}
use Rattle.kt_engine.specs.Jobs.{asked}
use Rattle.kt_engine.specs.Upkeeps.{job_in}
use Rattle.kt_engine.proofs.Passes.{apart_at, changed_at}
use Rattle.kt_engine.proofs.upkeep.Upkeeps.begin.Goals as goal

pub invariant_of-self-2 : goal.invariant_of-self-2
invariant_of-self-2 c = apart_at c.self.inside.passes.items c.in-Some.at c.index_mut.result.now c.begin.new.self c.index_mut.ensures.value c.begin.ensures.pass c.self.invariant

pub returns-clause-own : goal.returns-clause-own
returns-clause-own c =
    let there = c.in-Some.ensures in
    rw (sym c.self.view_is) (changed_at c.self.inside.passes.items c.in-Some.at c.args.pass c.index_mut.result.now c.index_mut.ensures.value there.0 there.1 (asked c.args.want (job_in c.args.want c.args.job)) c.begin.new.self _ _ _ _ c.begin.ensures.pass c.self.invariant c.begin.ensures.own)
