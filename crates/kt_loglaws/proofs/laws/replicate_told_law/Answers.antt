use Rattle.kt_loglaws.proofs.Fronts.{replicate_more}
use Rattle.kt_loglaws.proofs.laws.replicate_told_law.Goals as goal

pub returns : goal.returns
returns c = replicate_more
