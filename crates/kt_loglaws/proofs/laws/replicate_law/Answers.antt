use Rattle.kt_loglaws.proofs.Replays.{replicate_adds}
use Rattle.kt_loglaws.proofs.laws.replicate_law.Goals as goal

pub returns : goal.returns
returns c = replicate_adds
