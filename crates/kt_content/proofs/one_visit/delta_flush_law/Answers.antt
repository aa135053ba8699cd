use Rattle.kt_content.proofs.DeltaFlushes.{publishes_deltas}
use Rattle.kt_content.proofs.one_visit.delta_flush_law.Goals as goal

pub returns : goal.returns
returns c = publishes_deltas
