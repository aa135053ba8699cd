use Rattle.std.proofs.Common.{sym, ◌∙◌}
use Rattle.kt_engine.proofs.JobMetas.{last_flushed, last_stays}
use Rattle.kt_engine.proofs.JobOut.{none_in, some_in}
use Rattle.kt_engine.proofs.job_meta.last_with.Goals as goal

pub returns-then-is_empty : goal.returns-then-is_empty
returns-then-is_empty c = sym (last_flushed c.args.taken.now c.args.last c.args.was (none_in c.args.taken.now (sym c.is_empty.ensures ∙ c.if-is_empty.true)))

pub returns-else-is_empty : goal.returns-else-is_empty
returns-else-is_empty c = sym (last_stays c.args.taken.now c.args.last c.args.was (some_in c.args.taken.now (sym c.is_empty.ensures ∙ c.if-is_empty.false)))
