use Rattle.kt_content.proofs.Recovering.{recovered}
use Rattle.kt_content.proofs.crashes.recovered_law.Goals as goal

pub returns : goal.returns
returns c = recovered
