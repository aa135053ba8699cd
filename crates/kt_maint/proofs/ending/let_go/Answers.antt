use Rattle.std.proofs.Common.{ap}
use Rattle.kt_maint.proofs.ending.let_go.Goals as goal

pub returns-clause-none : goal.returns-clause-none
returns-clause-none g c = ap (λ u. u.job) (c.job_abandon.ensures.abandoned c.requires.job.job c.requires.job.has).own
