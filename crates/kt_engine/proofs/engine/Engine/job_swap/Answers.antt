use Rattle.std.proofs.Common.{sym}
use Rattle.kt_engine.specs.JobCalls.{GivesOne}
use Rattle.kt_engine.proofs.JobCalls.{by_rowset}
use Rattle.kt_engine.proofs.engine.Engine.job_swap.Goals as goal

-- a want on the files of a disk rowset gives that one
pub delta_swap-taken-requires-clause-rewritten : goal.delta_swap-taken-requires-clause-rewritten
delta_swap-taken-requires-clause-rewritten g c = λ job has.
    let on = c.rewrites.ensures.yes c.if-rewrites.true job (rw (sym c.self.view_is) at has) in
    by_rowset (Unit {0}) (λ _. GivesOne job.want c.args.self.now.tablet.files c.args.outputs.rowsets) job.want on.0 on.1 (c.requires.rewritten job has)
