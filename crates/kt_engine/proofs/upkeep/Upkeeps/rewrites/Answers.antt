use Rattle.std.proofs.Common.{sym, subst}
use Rattle.std.proofs.lemmas.Bool.{not-true, not-false}
use Rattle.kt_engine.specs.JobSteps.{IsMerge}
use Rattle.kt_engine.specs.DeltaJobs.{IsOn}
use Rattle.kt_engine.proofs.Passes.{no_job, job_at, want_read}
use Rattle.kt_engine.proofs.upkeep.Upkeeps.rewrites.Goals as goal

-- a pass with a job asked before
pub returns-in-None-clause-no : goal.returns-in-None-clause-no
returns-in-None-clause-no c = λ merges job has.
    let old = sym c.self.view_is in
    absurd (no_job c.self.inside.passes.items c.args.pass job (rw old at c.in-None.ensures) (rw old at has))

pub returns-in-Some-clause-yes : goal.returns-in-Some-clause-yes
returns-in-Some-clause-yes c = λ so job has.
    let old = sym c.self.view_is in
    let there = rw old at c.in-Some.ensures in
    let mine = job_at c.self.inside.passes.items c.in-Some.at c.args.pass c.index.result.now c.index.ensures there.0 there.1 job c.self.invariant (rw old at has) in
    let on = c.is_merge.ensures.no (not-true c.is_merge.result so) in
    (on.0, subst (IsOn on.0) (want_read c.index.result.now.want c.index.result.now.job job mine) on.1)

pub returns-in-Some-clause-no : goal.returns-in-Some-clause-no
returns-in-Some-clause-no c = λ merges job has.
    let old = sym c.self.view_is in
    let there = rw old at c.in-Some.ensures in
    let mine = job_at c.self.inside.passes.items c.in-Some.at c.args.pass c.index.result.now c.index.ensures there.0 there.1 job c.self.invariant (rw old at has) in
    subst IsMerge (want_read c.index.result.now.want c.index.result.now.job job mine) (c.is_merge.ensures.yes (not-false c.is_merge.result merges))
