use Rattle.kt_content.proofs.Recovering.{commit_recovered}
use Rattle.kt_content.proofs.crashes.commit_recovered_law.Goals as goal

pub returns : goal.returns
returns c = commit_recovered
