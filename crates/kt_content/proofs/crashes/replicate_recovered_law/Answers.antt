use Rattle.kt_content.proofs.Recovering.{replicate_recovered}
use Rattle.kt_content.proofs.crashes.replicate_recovered_law.Goals as goal

pub returns : goal.returns
returns c = replicate_recovered
