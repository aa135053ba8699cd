use Rattle.kt_loglaws.proofs.Fronts.{commit_is_told}
use Rattle.kt_loglaws.proofs.laws.commit_told_law.Goals as goal

pub returns : goal.returns
returns c = commit_is_told
