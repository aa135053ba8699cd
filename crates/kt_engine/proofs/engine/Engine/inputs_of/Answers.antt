use Rattle.std.proofs.Common.{sym, ◌∙◌}
use Rattle.kt_engine.proofs.JobInputs.{flush_reads, compaction_reads}
use Rattle.kt_engine.proofs.JobOut.{none_in, some_in}
use Rattle.kt_engine.proofs.engine.Engine.inputs_of.Goals as goal

pub returns-then-is_empty-clause-reads : goal.returns-then-is_empty-clause-reads
returns-then-is_empty-clause-reads g c = flush_reads c.args.self.now.tablet c.args.taken.now c.args.upto c.flush_inputs.result (none_in c.args.taken.now (sym c.is_empty.ensures ∙ c.if-is_empty.true)) c.flush_inputs.ensures.reads

pub returns-else-is_empty-clause-reads : goal.returns-else-is_empty-clause-reads
returns-else-is_empty-clause-reads g c = compaction_reads c.args.self.now.tablet c.args.taken.now c.args.upto c.compaction_inputs.result (some_in c.args.taken.now (sym c.is_empty.ensures ∙ c.if-is_empty.false)) c.compaction_inputs.ensures.reads
