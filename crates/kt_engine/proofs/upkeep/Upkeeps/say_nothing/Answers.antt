use Rattle.std.proofs.Common.{sym}
use Rattle.kt_engine.specs.Jobs.{asked_for_nothing}
use Rattle.kt_engine.proofs.Passes.{no_job_at, apart_at, changed_at}
use Rattle.kt_engine.proofs.upkeep.Upkeeps.say_nothing.Goals as goal

pub say_nothing-requires : goal.say_nothing-requires
say_nothing-requires c =
    let old = sym c.self.view_is in
    let there = rw old at c.in-Some.ensures in
    record { none = no_job_at c.self.inside.passes.items c.in-Some.at c.args.pass c.index_mut.result.now c.index_mut.ensures.value there.0 there.1 c.self.invariant (rw old at c.requires.none) }

pub invariant_of-self : goal.invariant_of-self
invariant_of-self c = apart_at c.self.inside.passes.items c.in-Some.at c.index_mut.result.now c.say_nothing.new.self c.index_mut.ensures.value c.say_nothing.ensures.pass c.self.invariant

pub returns-clause-own : goal.returns-clause-own
returns-clause-own c =
    let there = rw (sym c.self.view_is) at c.in-Some.ensures in
    rw (sym c.self.view_is) (changed_at c.self.inside.passes.items c.in-Some.at c.args.pass c.index_mut.result.now c.index_mut.ensures.value there.0 there.1 (asked_for_nothing c.args.want) c.say_nothing.new.self _ _ _ _ c.say_nothing.ensures.pass c.self.invariant c.say_nothing.ensures.own)
