use Rattle.kt_content.proofs.Keeping.{durable_keeps}
use Rattle.kt_content.proofs.recoverable.durable_law.Goals as goal

pub returns : goal.returns
returns c = durable_keeps
