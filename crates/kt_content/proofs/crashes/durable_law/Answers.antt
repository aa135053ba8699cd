use Rattle.kt_content.proofs.Recovering.{become_durable}
use Rattle.kt_content.proofs.crashes.durable_law.Goals as goal

pub returns : goal.returns
returns c = become_durable
